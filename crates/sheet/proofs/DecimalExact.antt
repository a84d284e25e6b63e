-- The text of so many 256ths, read back by a reader that knows nothing of how it was written, is that number exactly. Assumes nothing.
use Rattle.std.specs.Prelude.{Some}
use mathlib.Core.Path.{◌≡◌, refl, sym, ap, ◌∙◌}
use mathlib.Core.Bool.{Bool, true, false, cond}
use mathlib.Core.List.{List, [], ◌∷◌, ◌++◌, append_assoc}
use Prim.Native.Nat.{ℕ, zero, suc, ◌+◌, ◌*◌, ◌/◌, ◌%◌, ◌^◌, ◌≤◌, ◌<◌}
use native.Mathlib.Nat.{add-mul, mul_right_comm}
use native.Mathlib.Omega.{arith}
use borrow.Author.Tests.{eq-eqb, ne_eqb, eqb-true, eqb-false}
use lib.Dec.{eqb, ltb}
use lib.ListN.{length}
use Rattle.laws.proofs.Computed.{same}
use Rattle.laws.proofs.FirstIs.{Every, none, next}
use Rattle.value.specs.declared.steps.Count.TheVariants.{Up, Down}
use Rattle.scenario.specs.Pen.{last_digit, digits_of, decimal_text}
use Rattle.scenario.specs.ReadBack.{decimal_digit, read_decimal}
use Rattle.scenario.proofs.ReadsBack.{decimal_reads_back}
use Rattle.sheet.specs.Decimal.{fraction_text, point, minus, steps_text, count_text}
use Rattle.sheet.specs.ReadNumber.{has_minus, without_minus, before_point, behind_point, Measures, Says}

-- ---- a number's text is digits alone

abbrev pub IsDigit : ℕ → Type 0
IsDigit c = (48 ≤ c) × (c < 58)

every_append : {P : ℕ → Type 0} {xs ys : List ℕ} → Every P xs → Every P ys → Every P (xs ++ ys)
every_append none g = g
every_append (next f fs) g = next f (every_append fs g)

last_is : (n : ℕ) → Every IsDigit (last_digit n ∷ [])
unfolding last_digit
last_is n = next {a = 48 + n % 10} (omega arith, omega arith) none

digits_are : (k n : ℕ) → Every IsDigit (digits_of k n)
unfolding digits_of
digits_are zero n = none
digits_are (suc k) n = go (ltb n 10) (digits_are k (n / 10))
  where
    go : (t : Bool) → Every IsDigit (digits_of k (n / 10)) → Every IsDigit (cond t (last_digit n ∷ []) (digits_of k (n / 10) ++ (last_digit n ∷ [])))
    go true d = last_is n
    go false d = every_append d (last_is n)

pub decimal_are : (n : ℕ) → Every IsDigit (decimal_text n)
unfolding decimal_text
decimal_are n = digits_are 10 n

-- ---- where the point stands

no_point : (c : ℕ) → IsDigit c → eqb c 46 ≡ false
no_point c d = let a = d.0 in ne_eqb c 46 (λ (e : c ≡ 46). omega arith)

no_minus : (c : ℕ) → IsDigit c → eqb c 45 ≡ false
no_minus c d = let a = d.0 in ne_eqb c 45 (λ (e : c ≡ 45). omega arith)

pub before_all : {w : List ℕ} → Every IsDigit w → before_point w ≡ w
unfolding before_point
before_all none = refl
before_all (next {a = c} f fs) = simp (no_point c f, before_all fs)

pub behind_none : {w : List ℕ} → Every IsDigit w → behind_point w ≡ []
unfolding behind_point
behind_none none = refl
behind_none (next {a = c} f fs) = simp (no_point c f, behind_none fs)

module _ (b : List ℕ) where
  pub before_some : {w : List ℕ} → Every IsDigit w → before_point (w ++ (46 ∷ b)) ≡ w
  unfolding before_point
  before_some none = refl
  before_some (next {a = c} f fs) = simp (no_point c f, before_some fs)

  pub behind_some : {w : List ℕ} → Every IsDigit w → behind_point (w ++ (46 ∷ b)) ≡ b
  unfolding behind_point
  behind_some none = refl
  behind_some (next {a = c} f fs) = simp (no_point c f, behind_some fs)

  plus_some : {w : List ℕ} → Every IsDigit w → has_minus (w ++ (46 ∷ b)) ≡ false
  unfolding has_minus
  plus_some none = refl
  plus_some (next {a = c} f fs) = no_minus c f

plus_all : {w : List ℕ} → Every IsDigit w → has_minus w ≡ false
unfolding has_minus
plus_all none = refl
plus_all (next {a = c} f fs) = no_minus c f

bare : (t : List ℕ) → has_minus t ≡ false → without_minus t ≡ t
unfolding has_minus without_minus
bare [] h = refl
bare (c ∷ cs) h = simp h

-- ---- the digits behind the point

-- of each of 256 fractions, by computing
fraction_exact : (p : ℕ) → p < 256 → read_decimal 0 (fraction_text 8 p) * 256 ≡ p * 10 ^ length (fraction_text 8 p)
unfolding read_decimal decimal_digit fraction_text decimal_text digits_of last_digit
fraction_exact p h = same (λ k. read_decimal 0 (fraction_text 8 k) * 256) (λ k. k * 10 ^ length (fraction_text 8 k)) 256 tt p h

-- ---- all of it

both_parts : (q p t f : ℕ) → f * 256 ≡ p * t → (q * t + f) * 256 ≡ (q * 256 + p) * t
both_parts q p t f e = add-mul (q * t) f 256 ∙ ap (λ (z : ℕ). q * t * 256 + z) e ∙ ap (λ (z : ℕ). z + p * t) (mul_right_comm q t 256) ∙ sym (add-mul (q * 256) p t)

-- the text without a point, and with one
pub steps_whole : (n : ℕ) → n % 256 ≡ 0 → steps_text n ≡ decimal_text (n / 256)
unfolding steps_text
steps_whole n z = simp (eq-eqb (n % 256) 0 z)

pub steps_parted : (n : ℕ) → (n % 256 ≡ 0 → ⊥) → steps_text n ≡ decimal_text (n / 256) ++ (46 ∷ fraction_text 8 (n % 256))
unfolding steps_text
steps_parted n z = simp (ne_eqb (n % 256) 0 z) (append_assoc (decimal_text (n / 256)) point (fraction_text 8 (n % 256)))

-- a text that begins with no minus
plain_says : (t : List ℕ) (n c : ℕ) → has_minus t ≡ false → Measures t n c → Says t false n c
plain_says t n c m h = record { sign = m; size = rw (bare t m) h }

whole_measures : (n : ℕ) → n / 256 < 2 ^ 32 → n % 256 ≡ 0 → Measures (decimal_text (n / 256)) n 256
unfolding Measures read_decimal
whole_measures n h z =
    let d = decimal_are (n / 256) in
    rw (before_all d, behind_none d, decimal_reads_back (n / 256) h) (omega arith)

pub parted_measures : (n : ℕ) → n / 256 < 2 ^ 32 → Measures (decimal_text (n / 256) ++ (46 ∷ fraction_text 8 (n % 256))) n 256
unfolding Measures
parted_measures n h =
    let b = fraction_text 8 (n % 256) in
    let d = decimal_are (n / 256) in
    let all : n / 256 * 256 + n % 256 ≡ n = omega arith in
    rw (before_some b d, behind_some b d, decimal_reads_back (n / 256) h)
    (both_parts (n / 256) (n % 256) (10 ^ length b) (read_decimal 0 b) (fraction_exact (n % 256) (omega arith)) ∙ ap (λ (z : ℕ). z * 10 ^ length b) all)

pub steps_exact : (n : ℕ) → n < 16777216 → Says (steps_text n) false n 256
steps_exact n h = go (eqb (n % 256) 0) refl
  where
    d : Every IsDigit (decimal_text (n / 256))
    d = decimal_are (n / 256)

    go : (b : Bool) → eqb (n % 256) 0 ≡ b → Says (steps_text n) false n 256
    go true e =
        let z = eqb-true (n % 256) 0 e in
        rw (steps_whole n z) (plain_says (decimal_text (n / 256)) n 256 (plus_all d) (whole_measures n (omega arith) z))
    go false e =
        let b = fraction_text 8 (n % 256) in
        rw (steps_parted n (eqb-false (n % 256) 0 e))
        (plain_says (decimal_text (n / 256) ++ (46 ∷ b)) n 256 (plus_some b d) (parted_measures n (omega arith)))

-- a minus before a text without one
minus_says : (t : List ℕ) (n c : ℕ) → Says t false n c → Says (minus ++ t) true n c
unfolding has_minus without_minus
minus_says t n c s = record { sign = refl; size = rw (bare t s.sign) at s.size }

-- ---- the theorem

-- so many 256ths up or down
pub decimal_exact : (n : ℕ) → n < 16777216 → Says (count_text (Some (Up n))) false n 256 × Says (count_text (Some (Down n))) true n 256
decimal_exact n h = let s = steps_exact n h in (s, minus_says (steps_text n) n 256 s)
