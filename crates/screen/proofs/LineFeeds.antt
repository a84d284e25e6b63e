-- A line has one line feed, and it is the last byte. Assumes nothing.
use mathlib.Core.Path.{◌≡◌, refl}
use mathlib.Core.Bool.{Bool, true, false, cond, false≢true}
use mathlib.Core.List.{List, [], ◌∷◌, ◌++◌}
use Prim.Native.Nat.{ℕ, zero, suc, ◌+◌, ◌/◌, ◌%◌, ◌≤◌, ◌<◌}
use native.Mathlib.Omega.{arith}
use borrow.Author.Tests.{ltb-true, ne_eqb}
use lib.Dec.{eqb, ltb}
use Rattle.laws.proofs.FirstIs.{Every, none, next, every_append}
use Rattle.std.specs.Prelude.{Option, Some, None}
use Rattle.scenario.specs.Lines.{newline}
use Rattle.scenario.specs.Pen.{hex_digit, hex_text, last_digit, digits_of, decimal_text}
use Rattle.screen.specs.Fields.{lines_in}
use Rattle.screen.specs.Lines.{next_word, nobody_word, next_text, line_text}

-- no mark among them, nor anything that comes before it
abbrev pub Above : ℕ → List ℕ → Type 0
Above mark xs = Every (λ (c : ℕ). mark < c) xs

-- ---- what stands before it

digits_above : (k n mark : ℕ) → mark ≤ 32 → Above mark (digits_of k n)
unfolding digits_of last_digit
digits_above zero n mark h = none
digits_above (suc k) n mark h = go (ltb n 10) (digits_above k (n / 10) mark h)
  where
    last : Above mark ((48 + n % 10) ∷ [])
    last = let l : mark < 48 + n % 10 = omega arith in next l none

    go : (t : Bool) → Above mark (digits_of k (n / 10)) → Above mark (cond t ((48 + n % 10) ∷ []) (digits_of k (n / 10) ++ ((48 + n % 10) ∷ [])))
    go true w = last
    go false w = every_append w last

pub decimal_above : (n mark : ℕ) → mark ≤ 32 → Above mark (decimal_text n)
unfolding decimal_text
decimal_above n mark h = digits_above 10 n mark h

hex_least : (d : ℕ) → 10 < hex_digit d
unfolding hex_digit
hex_least d = go (ltb (d % 16) 10)
  where
    go : (t : Bool) → 10 < cond t (48 + d % 16) (55 + d % 16)
    go true = omega arith
    go false = omega arith

-- by a test that is computed
abbrev all_above : List ℕ → Bool
all_above [] = true
all_above (x ∷ xs) = cond (ltb 10 x) (all_above xs) false

above : (xs : List ℕ) → all_above xs ≡ true → Above 10 xs
above [] e = none
above (x ∷ xs) e = by (ltb 10 x) refl (above xs) e
  where
    by : (t : Bool) → ltb 10 x ≡ t → (all_above xs ≡ true → Above 10 xs) → cond t (all_above xs) false ≡ true → Above 10 (x ∷ xs)
    by true i on e = next (ltb-true 10 x i) (on e)
    by false i on e = absurd (false≢true e)

next_above : (n : Option ℕ) → Above 10 (next_text n)
unfolding hex_text
next_above (Some a) = let space : 10 < 32 = omega arith in next space (next (hex_least (a / 16)) (next (hex_least a) none))
next_above None = above nobody_word refl

-- the line without its line feed
abbrev pub line_body : ℕ → Option ℕ → List ℕ
line_body slot n = decimal_text slot ++ next_word ++ next_text n

pub body_above : (slot : ℕ) (n : Option ℕ) → Above 10 (line_body slot n)
body_above slot n = every_append (every_append (decimal_above slot 10 (omega arith)) (above next_word refl)) (next_above n)

-- ---- how many there are

lines_append : (xs ys : List ℕ) → lines_in (xs ++ ys) ≡ lines_in xs + lines_in ys
unfolding lines_in
lines_append [] ys = omega arith
lines_append (x ∷ xs) ys = go (eqb x 10) (lines_append xs ys)
  where
    go : (t : Bool) → lines_in (xs ++ ys) ≡ lines_in xs + lines_in ys
        → cond t (suc (lines_in (xs ++ ys))) (lines_in (xs ++ ys)) ≡ cond t (suc (lines_in xs)) (lines_in xs) + lines_in ys
    go true e = omega arith
    go false e = e

no_feed : {xs : List ℕ} → Above 10 xs → lines_in xs ≡ 0
unfolding lines_in
no_feed none = refl
no_feed (next {a = c} h w) = rw (ne_eqb c 10 (λ e. omega arith)) (no_feed w)

one_feed : (slot : ℕ) (n : Option ℕ) → lines_in (line_text slot n) ≡ 1
unfolding line_text lines_in
one_feed slot n =
    let feed : lines_in newline ≡ 1 = refl in
    omega (arith, lines_append (line_body slot n) newline, no_feed (body_above slot n), feed)

pub one_more : (slot : ℕ) (n : Option ℕ) (rest : List ℕ) → lines_in (line_text slot n ++ rest) ≡ suc (lines_in rest)
one_more slot n rest = omega (arith, lines_append (line_text slot n) rest, one_feed slot n)
