-- Every float that is read is a number of 256ths, so its text is never empty, and the line of a code says the coded number exactly.
-- Assumes nothing.
use Rattle.std.specs.Prelude.{Option, Some, None, Result, Ok, Err}
use mathlib.Core.Path.{◌≡◌, refl, sym, ap, subst, ◌∙◌}
use mathlib.Core.Bool.{Bool, true, false, cond}
use mathlib.Core.List.{List, [], ◌∷◌, ◌++◌}
use mathlib.Core.Logic.{◌≢◌, ◌⊎◌, inl, inr}
use Prim.Native.Nat.{ℕ, suc, ◌+◌, ◌-◌, ◌*◌, ◌/◌, ◌%◌, ◌^◌, ◌≤◌, ◌<◌}
use native.Mathlib.Nat.{mul_assoc, mul_right_comm, eq_of_mul-eq-mul_right, mul-pos, mul-le-mul_left}
use native.Mathlib.Omega.{arith}
use borrow.Author.Tests.{ltb-false}
use lib.Dec.{eqb, ltb, lit≤}
use lib.IntN.{ℤ, pos, negsuc}
use lib.Ieee.{Float, nan, inf, fin, up, down}
use lib.Ieee.Exact.{HasValue}
use lib.ListN.{length, get_or, length-append}
use Rattle.value.specs.Answers.{block_number, block_percents}
use Rattle.value.specs.Block.{block_of}
use Rattle.value.specs.Claims.{Bytes, signed, coded, places, Exactly, GivesFloat, EachRead}
use Rattle.value.specs.Read.{read_as}
use Rattle.value.specs.Steps.{per, count_of}
use Rattle.value.specs.declared.block.BlockError.{BlockError}
use Rattle.value.specs.declared.block.BlockError.TheVariants.{NoBlock, ShareMissing, NotAHundred}
use Rattle.value.specs.declared.block.Shares.{Shares}
use Rattle.value.specs.declared.steps.Count.{Count}
use Rattle.value.specs.declared.steps.Count.TheVariants.{Up, Down}
use Rattle.value.specs.declared.value.DataType.{DataType}
use Rattle.value.specs.declared.value.DataType.TheVariants.{Bcd, Data1c, Data2b, Data2c}
use Rattle.value.proofs.Refused17.{one_byte, two_bytes}
use Rattle.value.proofs.Counted.{count_up, count_down}
use Rattle.value.proofs.MakeAHundred.{shares_as_read}
use Rattle.value.proofs.ScaledExactly.{scaled_exactly, data1c_float, data2b_float, data2c_float}
use Rattle.scenario.specs.Lines.{newline}
use Rattle.scenario.specs.Pen.{last_digit, digits_of, decimal_text}
use Rattle.sheet.specs.Decimal.{fraction_text, point, minus, steps_text, count_text, float_text}
use Rattle.sheet.specs.Lines.{percent_word, temperature_word, shares_word, shares_text, block_line}
use Rattle.sheet.specs.ReadNumber.{Measures, Says, SaysNumber}
use Rattle.sheet.specs.Tagged.{code, block, item_line}
use Rattle.sheet.proofs.DecimalExact.{decimal_exact}

-- ---- a float that is n / c, with c * j = 256, is n * j 256ths

sizes : (p c n d j : ℕ) → p * c ≡ n * d → p * (c * j) ≡ n * j * d
sizes p c n d j h = sym (mul_assoc p c j) ∙ ap (λ (z : ℕ). z * j) h ∙ mul_right_comm n d j

finer : (x : Float) (s : Bool) (n c j : ℕ) → HasValue x s n c → HasValue x s (n * j) (c * j)
finer nan s n c j h = h
finer (inf t) s n c j h = h
finer (fin t m e) s n c j h = (h.0, sizes (m * up e) c n (down e) j h.1)

-- the numbers of 16 bits and their count
abbrev Small : ℤ → Type 0
Small (pos n) = n < 65536
Small (negsuc n) = suc n < 65536

abbrev count_for : ℤ → ℕ → Option Count
count_for (pos n) j = Some (Up (n * j))
count_for (negsuc n) j = Some (Down (suc n * j))

-- how many 256ths make a step
record Divides (c : ℕ) : Type 0 where
  by : ℕ
  some : 0 < by
  few : by ≤ 256
  whole : c * by ≡ 256

few_enough : (n j : ℕ) → n < 65536 → j ≤ 256 → n * j < 16777216
few_enough n j h l = omega (arith, mul-le-mul_left n l)

number_count : (x : Float) (z : ℤ) (c : ℕ) (d : Divides c) → Small z → Exactly x z c → count_of (per 8) x ≡ count_for z d.by
number_count x (pos n) c d h e =
    let v : HasValue x false (n * d.by) 256 = subst (λ (k : ℕ). HasValue x false (n * d.by) k) d.whole (finer x false n c d.by e) in
    count_up 8 (n * d.by) x (lit≤ tt) (few_enough n d.by h d.few) (false, v, inl refl)
number_count x (negsuc n) c d h e =
    let v : HasValue x true (suc n * d.by) 256 = subst (λ (k : ℕ). HasValue x true (suc n * d.by) k) d.whole (finer x true (suc n) c d.by e) in
    count_down 8 (suc n * d.by) x (lit≤ tt) (few_enough (suc n) d.by h d.few) v (mul-pos {m = suc n} (omega arith) d.some)

-- ---- the text of such a count

coarse_sizes : (m n t c j : ℕ) → 0 < j → c * j ≡ 256 → m * 256 ≡ n * j * t → m * c ≡ n * t
coarse_sizes m n t c j p e h =
    eq_of_mul-eq-mul_right j p (m * c) (n * t) (mul_assoc m c j ∙ ap (λ (z : ℕ). m * z) e ∙ h ∙ mul_right_comm n j t)

coarser : (t : List ℕ) (n c j : ℕ) → 0 < j → c * j ≡ 256 → Measures t (n * j) 256 → Measures t n c
unfolding Measures
coarser t n c j p e m = coarse_sizes _ n _ c j p e m

says_coarser : (t : List ℕ) (s : Bool) (n c : ℕ) (d : Divides c) → Says t s (n * d.by) 256 → Says t s n c
says_coarser t s n c d w = record { sign = w.sign; size = coarser _ n c d.by d.some d.whole w.size }

count_says : (z : ℤ) (c : ℕ) (d : Divides c) → Small z → SaysNumber (count_text (count_for z d.by)) z c
count_says (pos n) c d h = says_coarser (count_text (Some (Up (n * d.by)))) false n c d (decimal_exact (n * d.by) (few_enough n d.by h d.few)).0
count_says (negsuc n) c d h =
    says_coarser (count_text (Some (Down (suc n * d.by)))) true (suc n) c d (decimal_exact (suc n * d.by) (few_enough (suc n) d.by h d.few)).1

digits_some : (k n : ℕ) → 0 < length (digits_of (suc k) n)
unfolding digits_of
digits_some k n = go (ltb n 10)
  where
    go : (b : Bool) → 0 < length (cond b (last_digit n ∷ []) (digits_of k (n / 10) ++ (last_digit n ∷ [])))
    go true = omega arith
    go false = omega (arith, length-append (digits_of k (n / 10)) (last_digit n ∷ []))

steps_some : (n : ℕ) → 0 < length (steps_text n)
unfolding steps_text decimal_text
steps_some n = go (eqb (n % 256) 0)
  where
    w : List ℕ
    w = digits_of 10 (n / 256)

    go : (b : Bool) → 0 < length (cond b w (w ++ point ++ fraction_text 8 (n % 256)))
    go true = digits_some 9 (n / 256)
    go false =
        omega (arith, digits_some 9 (n / 256), length-append (w ++ point) (fraction_text 8 (n % 256)), length-append w point)

count_some : (z : ℤ) (j : ℕ) → 0 < length (count_text (count_for z j))
count_some (pos n) j = steps_some (n * j)
count_some (negsuc n) j = omega (arith, length-append minus (steps_text (suc n * j)))

never_uneven : (z : ℤ) (j : ℕ) → count_for z j ≢ None
never_uneven (pos n) j e = let w : ◌≡◌ {A = ℕ} 0 1 = cc in omega arith
never_uneven (negsuc n) j e = let w : ◌≡◌ {A = ℕ} 0 1 = cc in omega arith

-- ---- every float that is read

divides : (t : DataType) → Divides (2 ^ places t)
divides Bcd = record { by = 256; some = omega arith; few = omega arith; whole = refl }
divides Data1c = record { by = 128; some = omega arith; few = omega arith; whole = refl }
divides Data2b = record { by = 1; some = omega arith; few = omega arith; whole = refl }
divides Data2c = record { by = 16; some = omega arith; few = omega arith; whole = refl }

signed_small : (n : ℕ) → n < 65536 → Small (signed n)
signed_small n h = go (ltb n 0x8000) refl
  where
    go : (b : Bool) → ltb n 0x8000 ≡ b → Small (cond b (pos n) (negsuc (65535 - n)))
    go true e = h
    go false e = let l = ltb-false n 0x8000 e in omega arith

coded_small : (t : DataType) (bs : List ℕ) → Bytes bs → Small (coded t bs)
coded_small Bcd bs B = let b = B 0 in omega arith
coded_small Data1c bs B = let b = B 0 in omega arith
coded_small Data2b bs B = let a = B 0 in let b = B 1 in signed_small (get_or bs 0 0 + 256 * get_or bs 1 0) (omega arith)
coded_small Data2c bs B = let a = B 0 in let b = B 1 in signed_small (get_or bs 0 0 + 256 * get_or bs 1 0) (omega arith)

module _ (t : DataType) (bs : List ℕ) (x : Float) (B : Bytes bs) (g : GivesFloat (read_as t bs) x) where
  counted : count_of (per 8) x ≡ count_for (coded t bs) (divides t).by
  counted = number_count x (coded t bs) (2 ^ places t) (divides t) (coded_small t bs B) (scaled_exactly t bs x B g).1

  -- it is a number of 256ths, and has a text
  pub always_decimal : (count_of (per 8) x ≢ None) × (0 < length (float_text x))
  unfolding float_text
  always_decimal = rw counted (never_uneven (coded t bs) (divides t).by, count_some (coded t bs) (divides t).by)

  -- which says the coded number
  pub text_is_exact : SaysNumber (float_text x) (coded t bs) (2 ^ places t)
  unfolding float_text
  text_is_exact = rw counted (count_says (coded t bs) (2 ^ places t) (divides t) (coded_small t bs B))

-- ---- every line of a code that is a number

-- a line of a word and a number's text
pub record LineSays (line word : List ℕ) (z : ℤ) (c : ℕ) : Type 0 where
  pub text : List ℕ
  pub line_is : line ≡ word ++ text ++ newline
  pub says : SaysNumber text z c

-- of a percentage, or of a temperature
abbrev pub word_for : {A B : Type 0} → A ⊎ B → List ℕ
word_for (inl percent) = percent_word
word_for (inr temperature) = temperature_word

pub line_is_exact : (t : DataType) (bs : List ℕ) (x : Float) → Bytes bs → (g : GivesFloat (read_as t bs) x)
    → LineSays (item_line (code t bs)) (word_for g) (coded t bs) (2 ^ places t)
line_is_exact t bs x B (inl e) = record { text = float_text x; line_is = rw e; says = text_is_exact t bs x B (inl e) }
line_is_exact t bs x B (inr e) = record { text = float_text x; line_is = rw e; says = text_is_exact t bs x B (inr e) }

-- half percents
pub data1c_line : (b : ℕ) → b ≤ 200 → LineSays (item_line (code Data1c (b ∷ []))) percent_word (pos b) 2
data1c_line b h = let f = data1c_float b h in line_is_exact Data1c (b ∷ []) f.0 (one_byte b (omega arith)) (inl f.1)

-- 1/256 and 1/16
module _ (low high : ℕ) (l : low < 256) (h : high < 256) (m : low + 256 * high ≢ 0x8000) where
  pub data2b_line : LineSays (item_line (code Data2b (low ∷ high ∷ []))) temperature_word (signed (low + 256 * high)) 256
  data2b_line = let f = data2b_float low high m in line_is_exact Data2b (low ∷ high ∷ []) f.0 (two_bytes low high l h) (inr f.1)

  pub data2c_line : LineSays (item_line (code Data2c (low ∷ high ∷ []))) temperature_word (signed (low + 256 * high)) 16
  data2c_line = let f = data2c_float low high m in line_is_exact Data2c (low ∷ high ∷ []) f.0 (two_bytes low high l h) (inr f.1)

-- ---- the line of an accepted block

-- for each code a blank and the text of so many half percents
pub data ShareTexts : List ℕ → List ℕ → Type 0 where
  no_more : ShareTexts [] []
  and_so : {b : ℕ} {bs t rest : List ℕ} → 0 < length t → Says t false b 2 → ShareTexts bs rest → ShareTexts (b ∷ bs) (32 ∷ t ++ rest)

share_texts : {bs : List ℕ} {xs : List Float} → Bytes bs → EachRead bs xs → ShareTexts bs (shares_text xs)
unfolding shares_text
share_texts B EachRead.no_more = ShareTexts.no_more
share_texts B (EachRead.and_so {b} {x} e r) =
    let own = one_byte b (B 0) in
    ShareTexts.and_so (always_decimal Data1c (b ∷ []) x own (inl e)).1 (text_is_exact Data1c (b ∷ []) x own (inl e)) (share_texts (λ i. B (suc i)) r)

pub record SharesLine (line bs : List ℕ) : Type 0 where
  pub text : List ℕ
  pub line_is : line ≡ shares_word ++ text ++ newline
  pub says : ShareTexts bs text

pub shares_line : (bs : List ℕ) → Bytes bs → block_number (block_of bs) ≡ 0 → SharesLine (item_line (block bs)) bs
shares_line bs B e = record { text = shares_text (block_percents (block_of bs)); line_is = go (block_of bs) e; says = share_texts B (shares_as_read bs e) }
  where
    go : (r : Result Shares BlockError) → block_number r ≡ 0 → block_line r ≡ shares_word ++ shares_text (block_percents r) ++ newline
    go (Ok s) e = refl
    go (Err NoBlock) e = absurd (omega arith)
    go (Err ShareMissing) e = absurd (omega arith)
    go (Err NotAHundred) e = absurd (omega arith)
