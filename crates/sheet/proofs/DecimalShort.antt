-- The text of so many 256ths is as short as it can be: no point before nothing, no 0 at the end behind a point or in front of other
-- digits, and no text with fewer digits behind its point says the same number. Assumes nothing.
use mathlib.Core.Path.{◌≡◌, refl, sym, ap, ◌∙◌}
use mathlib.Core.Bool.{Bool, true, false, not, cond}
use mathlib.Core.List.{List, [], ◌∷◌, ◌++◌}
use mathlib.Core.Logic.{◌≢◌}
use Prim.Native.Nat.{ℕ, zero, suc, ◌+◌, ◌-◌, ◌*◌, ◌/◌, ◌%◌, ◌^◌, ◌≤◌, ◌<◌}
use native.Mathlib.Nat.{mul_assoc, mul_right_comm, eq_of_mul-eq-mul_right, pow-suc, pow-succ'}
use native.Mathlib.Omega.{arith}
use borrow.Author.Tests.{ne_eqb, eqb-true, eqb-false, ltb-true, ltb-false}
use lib.Dec.{eqb, ltb}
use lib.ListN.{length}
use lib.Pow.{pow-add}
use Rattle.laws.proofs.Computed.{alike}
use Rattle.scenario.specs.Pen.{last_digit, digits_of, decimal_text}
use Rattle.scenario.specs.ReadBack.{decimal_digit, read_decimal}
use Rattle.sheet.specs.Decimal.{fraction_text, steps_text}
use Rattle.sheet.specs.ReadNumber.{before_point, behind_point, Measures, first_of, last_of}
use Rattle.sheet.proofs.DecimalExact.{decimal_are, before_all, behind_none, before_some, behind_some, steps_whole, steps_parted, parted_measures}

-- ---- behind the point

-- 256ths that are no whole number end in a digit that is not 0: each of 256 fractions, by computing
last_some : (p : ℕ) → p < 256 → ltb 48 (last_of (fraction_text 8 p)) ≡ not (eqb p 0)
unfolding last_of fraction_text decimal_text digits_of last_digit
last_some p h = alike (λ k. ltb 48 (last_of (fraction_text 8 k))) (λ k. not (eqb k 0)) 256 tt p h

pub no_zero_behind : (n : ℕ) → n % 256 ≢ 0 → 48 < last_of (behind_point (steps_text n))
no_zero_behind n z =
    let b = fraction_text 8 (n % 256) in
    rw (steps_parted n z, behind_some b (decimal_are (n / 256)))
    (ltb-true 48 (last_of b) (last_some (n % 256) (omega arith) ∙ ap not (ne_eqb (n % 256) 0 z)))

-- whole numbers have no point
pub no_point : (n : ℕ) → n % 256 ≡ 0 → (before_point (steps_text n) ≡ steps_text n) × (behind_point (steps_text n) ≡ [])
no_point n z = rw (steps_whole n z) (before_all (decimal_are (n / 256)), behind_none (decimal_are (n / 256)))

-- ---- before it

first_behind : (xs ys : List ℕ) → 48 < first_of xs → 48 < first_of (xs ++ ys)
unfolding first_of
first_behind [] ys h = absurd (omega arith)
first_behind (x ∷ xs) ys h = h

digits_front : (k n : ℕ) → 0 < n → n < 10 ^ k → 48 < first_of (digits_of k n)
unfolding first_of digits_of last_digit
digits_front zero n h l = absurd (omega arith)
digits_front (suc k) n h l = go (ltb n 10) refl (digits_front k (n / 10))
  where
    tenth : n < 10 * 10 ^ k → n / 10 < 10 ^ k
    tenth i = omega arith

    go : (t : Bool) → ltb n 10 ≡ t → (0 < n / 10 → n / 10 < 10 ^ k → 48 < first_of (digits_of k (n / 10)))
        → 48 < first_of (cond t (last_digit n ∷ []) (digits_of k (n / 10) ++ (last_digit n ∷ [])))
    go true e ih = let m = ltb-true n 10 e in omega arith
    go false e ih =
        let m = ltb-false n 10 e in
        first_behind (digits_of k (n / 10)) (last_digit n ∷ []) (ih (omega arith) (tenth (rw (pow-succ' 10 k) at l)))

-- only 0 itself begins with a 0
pub no_zero_in_front : (n : ℕ) → 0 < n → n < 2 ^ 32 → 48 < first_of (decimal_text n)
unfolding decimal_text
no_zero_in_front n h l = digits_front 10 n h (omega arith)

-- ---- no text has fewer digits behind its point

-- by computing
last_counts : (p : ℕ) → p < 256 → ltb 0 (read_decimal 0 (fraction_text 8 p) % 10) ≡ not (eqb p 0)
unfolding read_decimal decimal_digit fraction_text decimal_text digits_of last_digit
last_counts p h = alike (λ k. ltb 0 (read_decimal 0 (fraction_text 8 k) % 10)) (λ k. not (eqb k 0)) 256 tt p h

-- w * 10 ^ d + f over 10 ^ d, and m over 10 ^ e, are the same: if d is more than e, f ends in 0
tens : (p q f : ℕ) → p * 10 + f ≡ q * 10 → f % 10 ≡ 0
tens p q f e = omega arith

ends_in_zero : (w f n m t j : ℕ) → (w * (t * (j * 10)) + f) * 256 ≡ n * (t * (j * 10)) → m * 256 ≡ n * t → f % 10 ≡ 0
ends_in_zero w f n m t j a b =
    let c : w * (t * (j * 10)) + f ≡ m * (j * 10) =
    eq_of_mul-eq-mul_right 256 (omega arith) _ _ (a ∙ sym (mul_assoc n t (j * 10)) ∙ ap (λ (z : ℕ). z * (j * 10)) (sym b) ∙ mul_right_comm m 256 (j * 10)) in
    let d : w * (t * j) * 10 ≡ w * (t * (j * 10)) = mul_assoc w (t * j) 10 ∙ ap (λ (z : ℕ). w * z) (mul_assoc t j 10) in
    tens (w * (t * j)) (m * j) f (ap (λ (z : ℕ). z + f) d ∙ c ∙ sym (mul_assoc m j 10))

more_places : (d e : ℕ) → e < d → 10 ^ d ≡ 10 ^ e * (10 ^ (d - suc e) * 10)
more_places d e h =
    let s : d ≡ e + suc (d - suc e) = omega arith in
    ap (λ (k : ℕ). 10 ^ k) s ∙ pow-add 10 e (suc (d - suc e)) ∙ ap (λ (z : ℕ). 10 ^ e * z) (pow-suc 10 (d - suc e))

-- any text of digits that says the same number
pub no_shorter : (n : ℕ) (t : List ℕ) → n < 16777216 → Measures t n 256 → length (behind_point (steps_text n)) ≤ length (behind_point t)
unfolding Measures
no_shorter n t h m = go (eqb (n % 256) 0) refl
  where
    b : List ℕ
    b = fraction_text 8 (n % 256)

    e : ℕ
    e = length (behind_point t)

    by_places : n % 256 ≢ 0 → (u : Bool) → ltb e (length b) ≡ u → length b ≤ e
    by_places z true u =
        let f = read_decimal 0 b in
        let some : 0 < f % 10 = ltb-true 0 (f % 10) (last_counts (n % 256) (omega arith) ∙ ap not (ne_eqb (n % 256) 0 z)) in
        let own = rw (before_some b (decimal_are (n / 256)), behind_some b (decimal_are (n / 256))) at (parted_measures n (omega arith)) in
        let none : f % 10 ≡ 0 =
        ends_in_zero (read_decimal 0 (decimal_text (n / 256))) f n _ (10 ^ e) (10 ^ (length b - suc e)) (rw (more_places (length b) e (ltb-true e (length b) u)) at own) m in
        absurd (omega arith)
    by_places z false u = ltb-false e (length b) u

    go : (u : Bool) → eqb (n % 256) 0 ≡ u → length (behind_point (steps_text n)) ≤ length (behind_point t)
    go true u = rw (no_point n (eqb-true (n % 256) 0 u)).1 (omega arith)
    go false u =
        let z = eqb-false (n % 256) 0 u in
        rw (steps_parted n z, behind_some b (decimal_are (n / 256))) (by_places z (ltb e (length b)) refl)
