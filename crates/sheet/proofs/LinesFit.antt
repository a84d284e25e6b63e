-- No line is longer than a fill leaves room for. Assumes nothing.
use Rattle.std.specs.Prelude.{Option, Some, None, Result, Ok, Err}
use mathlib.Core.Path.{◌≡◌, refl}
use mathlib.Core.Bool.{Bool, true, false, cond}
use mathlib.Core.List.{List, [], ◌∷◌, ◌++◌}
use mathlib.Core.Logic.{inl, inr}
use Prim.Native.Nat.{ℕ, zero, suc, ◌*◌, ◌/◌, ◌%◌, ◌≤◌, ◌<◌}
use native.Mathlib.Omega.{arith}
use borrow.Author.Tests.{eqb-true, eqb-false}
use lib.Dec.{eqb}
use lib.Ieee.{Float}
use lib.ListN.{length, length-append}
use Rattle.value.specs.Answers.{reading_number, fault_number, code_number, code_bytes, block_number, block_percents}
use Rattle.value.specs.Block.{block_of}
use Rattle.value.specs.Claims.{EachRead, no_more, and_so}
use Rattle.value.specs.Read.{read_as}
use Rattle.value.specs.Steps.{per, count_of}
use Rattle.value.specs.Write.{write_as}
use Rattle.value.specs.declared.block.BlockError.{BlockError}
use Rattle.value.specs.declared.block.Shares.{Shares as BlockShares}
use Rattle.value.specs.declared.steps.Count.{Count}
use Rattle.value.specs.declared.steps.Count.TheVariants.{Up, Down}
use Rattle.value.specs.declared.value.DataType.{DataType}
use Rattle.value.specs.declared.value.Value.{Value}
use Rattle.value.specs.declared.value.Value.TheVariants.{Whole, Percent, Temperature, Missing}
use Rattle.value.specs.declared.write.Code.{Code}
use Rattle.value.specs.declared.write.Code.TheVariants.{One, Two}
use Rattle.value.proofs.MakeAHundred.{accepted_exactly_when, shares_as_read, refused_gives_none}
use Rattle.scenario.specs.Lines.{newline, hexes_text, refused_text}
use Rattle.scenario.specs.Pen.{last_digit, decimal_text}
use Rattle.scenario.proofs.Fits.{decimal_most, hexes_length}
use Rattle.scenario.proofs.Written.{one_digit}
use Rattle.sheet.specs.declared.field.Entry.{Entry}
use Rattle.sheet.specs.declared.field.Entry.TheVariants.{Read, Shares, Write}
use Rattle.sheet.specs.Decimal.{fraction_text, point, minus, steps_text, count_text, float_text}
use Rattle.sheet.specs.Fill.{line_room}
use Rattle.sheet.specs.Given.{given_in}
use Rattle.sheet.specs.Lines.{whole_word, percent_word, temperature_word, shares_word, code_word, refused_line, value_text, reading_line, shares_text, block_line, code_line, written_line, entry_line}

-- ---- numbers

-- a number below ten is one digit
pub digit_text : (d : ℕ) → d < 10 → decimal_text d ≡ last_digit d ∷ []
unfolding decimal_text
digit_text d h = one_digit 10 d (omega arith) h

fraction_most : (k part : ℕ) → part < 256 → length (fraction_text k part) ≤ k
unfolding fraction_text
fraction_most zero part h = omega arith
fraction_most (suc k) part h = go (eqb part 0) (fraction_most k (part * 10 % 256) (omega arith))
  where
    go : (t : Bool) → length (fraction_text k (part * 10 % 256)) ≤ k
        → length (cond t [] (decimal_text (part * 10 / 256) ++ fraction_text k (part * 10 % 256))) ≤ suc k
    go true i = omega arith
    go false i = rw (digit_text (part * 10 / 256) (omega arith)) (omega arith)

-- ten digits, a point, eight digits
steps_most : (n : ℕ) → length (steps_text n) ≤ 19
unfolding steps_text
steps_most n = go (eqb (n % 256) 0)
  where
    go : (t : Bool) → length (cond t (decimal_text (n / 256)) (decimal_text (n / 256) ++ point ++ fraction_text 8 (n % 256))) ≤ 19
    go true = omega (arith, decimal_most (n / 256))
    go false =
        omega (
          arith,
          length-append (decimal_text (n / 256) ++ point) (fraction_text 8 (n % 256)),
          length-append (decimal_text (n / 256)) point,
          decimal_most (n / 256),
          fraction_most 8 (n % 256) (omega arith),
        )

count_most : (k : Option Count) → length (count_text k) ≤ 20
count_most (Some (Up n)) = omega (arith, steps_most n)
count_most (Some (Down n)) = omega (arith, length-append minus (steps_text n), steps_most n)
count_most None = omega arith

float_most : (x : Float) → length (float_text x) ≤ 20
unfolding float_text
float_most x = count_most (count_of (per 8) x)

-- ---- lines

refused_most : (n : ℕ) → length (refused_line n) ≤ line_room
unfolding refused_line
refused_most n =
    omega (arith, length-append (refused_text ++ decimal_text n) newline, length-append refused_text (decimal_text n), decimal_most n)

value_most : (v : Value) → length (value_text v) ≤ 32
value_most (Whole n) = omega (arith, length-append whole_word (decimal_text n), decimal_most n)
value_most (Percent x) = omega (arith, length-append percent_word (float_text x), float_most x)
value_most (Temperature x) = omega (arith, length-append temperature_word (float_text x), float_most x)
value_most Missing = omega arith

reading_most : (r : Option Value) → length (reading_line r) ≤ line_room
reading_most (Some v) = omega (arith, length-append (value_text v) newline, value_most v)
reading_most None = refused_most (reading_number None)

shares_most : (xs : List Float) → length (shares_text xs) ≤ 21 * length xs
unfolding shares_text
shares_most [] = omega arith
shares_most (x ∷ xs) = omega (arith, length-append (32 ∷ float_text x) (shares_text xs), float_most x, shares_most xs)

as_many : {bs : List ℕ} {xs : List Float} → EachRead bs xs → length xs ≡ length bs
as_many no_more = refl
as_many (and_so e r) = omega (arith, as_many r)

-- a block gives no more than eight shares
eight_shares : (bs : List ℕ) → length (block_percents (block_of bs)) ≤ 8
eight_shares bs = go (eqb (block_number (block_of bs)) 0) refl
  where
    go : (t : Bool) → eqb (block_number (block_of bs)) 0 ≡ t → length (block_percents (block_of bs)) ≤ 8
    go true e =
        let a = eqb-true (block_number (block_of bs)) 0 e in
        let n = as_many (shares_as_read bs a) in
        few (length bs) n (λ l. ((accepted_exactly_when bs).0 a).0 (inr (inl l)))
      where
        few : (m : ℕ) → length (block_percents (block_of bs)) ≡ m → (8 < m → ⊥) → length (block_percents (block_of bs)) ≤ 8
        few m n f = omega arith
    go false e = rw (refused_gives_none bs (eqb-false (block_number (block_of bs)) 0 e)) (omega arith)

block_most : (r : Result BlockShares BlockError) → length (block_percents r) ≤ 8 → length (block_line r) ≤ line_room
block_most (Ok s) h =
    let xs = block_percents (Ok s) in
    omega (arith, length-append (shares_word ++ shares_text xs) newline, length-append shares_word (shares_text xs), shares_most xs)
block_most (Err e) h = refused_most (fault_number e)

code_most : (r : Option Code) → length (code_line r) ≤ line_room
code_most (Some (One b)) =
    let h = hexes_text (code_bytes (Some (One b))) in
    omega (arith, length-append (code_word ++ h) newline, length-append code_word h, hexes_length (code_bytes (Some (One b))))
code_most (Some (Two low high)) =
    let h = hexes_text (code_bytes (Some (Two low high))) in
    omega (arith, length-append (code_word ++ h) newline, length-append code_word h, hexes_length (code_bytes (Some (Two low high))))
code_most None = refused_most (code_number None)

written_most : (t : DataType) (g : Option Value) → length (written_line t g) ≤ line_room
written_most t (Some v) = code_most (write_as t v)
written_most t None = refused_most (code_number None)

-- whatever the field and its value
pub entry_most : (e : Option Entry) (v : List ℕ) → length (entry_line e v) ≤ line_room
entry_most (Some (Read t)) v = reading_most (read_as t v)
entry_most (Some Shares) v = block_most (block_of v) (eight_shares v)
entry_most (Some (Write t)) v = written_most t (given_in v)
entry_most None v = omega arith
