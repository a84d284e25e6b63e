-- Digits read one after the other, the number kept to the limit at each: as if it were kept to it at the end. Assumes nothing.
use mathlib.Core.Path.{◌≡◌, refl, sym, ap, ◌∙◌}
use mathlib.Core.Bool.{Bool, true, false, cond}
use mathlib.Core.Logic.{◌≢◌}
use mathlib.Core.List.{List, [], ◌∷◌}
use Prim.Native.Nat.{ℕ, ◌+◌, ◌-◌, ◌*◌, ◌≤◌, ◌<◌}
use native.Mathlib.Omega.{arith}
use borrow.Author.Tests.{ne_eqb}
use Rattle.std.proofs.lemmas.Bool.Decides.{nat_tests}
use Rattle.std.specs.Char.{is_ascii_digit}
use lib.ListN.{length, get_or, drop, drop_of_length-le}
use Rattle.laws.specs.AtMost.{at_most}
use Rattle.laws.proofs.AtMost.{at_most_test}
use Rattle.laws.proofs.Lists.{left_of}
use Rattle.std.specs.Prelude.{Option, Some, None}
use Rattle.diary.specs.Length.{past, is_digit, all_digits, number_from, length_of}

unfoldable pub length_from : ℕ → List ℕ → Option ℕ
length_from n [] = Some n
length_from n (c ∷ cs) = let further = length_from (at_most (n * 10 + (c - 48)) past) cs in cond (is_digit c) further None

-- ---- kept to the limit at each digit, or at the end

kept_past : (n : ℕ) → past ≤ n → at_most n past ≡ past
kept_past n h = at_most_test n past (λ (k : ℕ). k ≡ past) (λ g. omega arith) (λ g. refl)

kept : (n d : ℕ) → at_most (at_most n past * 10 + d) past ≡ at_most (n * 10 + d) past
kept n d =
    at_most_test n past (λ (k : ℕ). at_most (k * 10 + d) past ≡ at_most (n * 10 + d) past) (λ h. refl)
    (λ h. kept_past (past * 10 + d) (omega arith) ∙ sym (kept_past (n * 10 + d) (omega arith)))

read_is : (n : ℕ) (s : List ℕ) → length_from (at_most n past) s ≡ cond (all_digits s) (Some (at_most (number_from n s) past)) None
unfolding length_from all_digits number_from
read_is n [] = refl
read_is n (c ∷ cs) = rw (kept n (c - 48)) (go (is_digit c) (read_is (n * 10 + (c - 48)) cs))
  where
    rest : Option ℕ
    rest = length_from (at_most (n * 10 + (c - 48)) past) cs

    number : ℕ
    number = number_from (n * 10 + (c - 48)) cs

    go : (t : Bool) → rest ≡ cond (all_digits cs) (Some (at_most number past)) None
        → cond t rest None ≡ cond (cond t (all_digits cs) false) (Some (at_most number past)) None
    go true e = e
    go false e = refl

pub read_first : (s : List ℕ) → length s ≢ 0 → length_from 0 s ≡ length_of s
unfolding length_of
read_first s h = simp (ne_eqb (length s) 0 h) (read_is 0 s)

-- ---- a digit at a time

-- std's digits are 0 to 9
pub digit_same : (c : ℕ) → is_ascii_digit c ≡ is_digit c
unfolding is_digit
digit_same c = grind (arith, nat_tests)

-- what is no digit ends it
pub reads_no : (n i : ℕ) (s : List ℕ) {r : Option ℕ} → length_from n (drop i s) ≡ r → i < length s → is_digit (get_or s i 0) ≡ false → None ≡ r
unfolding length_from
reads_no n i s e h f = sym (simp f) ∙ sym (ap (λ (v : List ℕ). length_from n v) (left_of s i 0 h)) ∙ e

pub reads_on : (n m i : ℕ) (s : List ℕ) {r : Option ℕ} → length_from n (drop i s) ≡ r → i < length s → is_digit (get_or s i 0) ≡ true
    → m ≡ at_most (n * 10 + (get_or s i 0 - 48)) past → length_from m (drop (i + 1) s) ≡ r
unfolding length_from
reads_on n m i s e h f g =
    ap (λ (k : ℕ). length_from k (drop (i + 1) s)) g ∙ sym (simp f) ∙ sym (ap (λ (v : List ℕ). length_from n v) (left_of s i 0 h)) ∙ e

pub reads_end : (n i : ℕ) (s : List ℕ) {r : Option ℕ} → length_from n (drop i s) ≡ r → length s ≤ i → Some n ≡ r
unfolding length_from
reads_end n i s e h = sym (ap (λ (v : List ℕ). length_from n v) (drop_of_length-le s h)) ∙ e
