-- A length is read from decimal digits and from nothing else, and the text of a number gives that number. Assumes nothing.
use mathlib.Core.Path.{◌≡◌, refl, ap, ◌∙◌}
use mathlib.Core.Bool.{Bool, true, false, cond, false≢true}
use mathlib.Core.Logic.{◌≢◌}
use mathlib.Core.List.{List, [], ◌∷◌, ◌++◌}
use Prim.Native.Nat.{ℕ, zero, suc, ◌+◌, ◌-◌, ◌*◌, ◌/◌, ◌%◌, ◌^◌, ◌≤◌, ◌<◌}
use native.Mathlib.Nat.{mod-lt}
use native.Mathlib.Omega.{arith}
use borrow.Author.Tests.{lt-ltb, le-ltb, ltb-false, eqb-false, ne_eqb}
use lib.Dec.{eqb, ltb}
use lib.ListN.{length, length-append}
use Rattle.laws.specs.AtMost.{at_most}
use Rattle.laws.proofs.FirstIs.{Every, none, next}
use Rattle.scenario.specs.Pen.{last_digit, digits_of, decimal_text}
use Rattle.scenario.specs.ReadBack.{decimal_digit, read_decimal}
use Rattle.scenario.proofs.ReadsBack.{decimal_reads_back}
use Rattle.std.specs.Prelude.{Option, Some, None}
use Rattle.diary.specs.Length.{past, is_digit, all_digits, number_from, length_of}

-- ---- digits and nothing else

abbrev pub Digit : ℕ → Type 0
Digit c = (48 ≤ c) × (c ≤ 57)

is_digit_lem : (c : ℕ) → is_digit c ≡ true → Digit c
unfolding is_digit
is_digit_lem c e = go (ltb c 48) (ltb 57 c) refl refl e
  where
    go : (t u : Bool) → ltb c 48 ≡ t → ltb 57 c ≡ u → cond t false (cond u false true) ≡ true → Digit c
    go true u p q f = absurd (false≢true f)
    go false true p q f = absurd (false≢true f)
    go false false p q f = (ltb-false c 48 p, ltb-false 57 c q)

digits_each : (s : List ℕ) → all_digits s ≡ true → Every Digit s
unfolding all_digits
digits_each [] e = none
digits_each (c ∷ cs) e = go (is_digit c) refl (digits_each cs) e
  where
    go : (t : Bool) → is_digit c ≡ t → (all_digits cs ≡ true → Every Digit cs) → cond t (all_digits cs) false ≡ true → Every Digit (c ∷ cs)
    go true p on f = next (is_digit_lem c p) (on f)
    go false p on f = absurd (false≢true f)

abbrev is_of : Option ℕ → Bool
is_of (Some n) = true
is_of None = false

-- whoever is read a length from gave digits, at least one
pub only_digits : (s : List ℕ) (n : ℕ) → length_of s ≡ Some n → (length s ≢ 0) × Every Digit s
unfolding length_of
only_digits s n e = go (eqb (length s) 0) (all_digits s) refl refl (ap is_of e)
  where
    go : (t u : Bool) → eqb (length s) 0 ≡ t → all_digits s ≡ u
        → is_of (cond t None (cond u (Some (at_most (number_from 0 s) past)) None)) ≡ true → (length s ≢ 0) × Every Digit s
    go true u p q f = absurd (false≢true f)
    go false true p q f = (eqb-false (length s) 0 p, digits_each s q)
    go false false p q f = absurd (false≢true f)

-- ---- the text of a number

last_is_digit : (n : ℕ) → is_digit (last_digit n) ≡ true
unfolding is_digit last_digit
last_is_digit n =
    let h : n % 10 < 10 = mod-lt n (omega arith) in
    simp (le-ltb (48 + n % 10) 48 (omega arith), le-ltb 57 (48 + n % 10) (omega arith))

digits_append : (s t : List ℕ) → all_digits s ≡ true → all_digits t ≡ true → all_digits (s ++ t) ≡ true
unfolding all_digits
digits_append [] t p q = q
digits_append (c ∷ cs) t p q = go (is_digit c) (λ f. digits_append cs t f q) p
  where
    go : (u : Bool) → (all_digits cs ≡ true → all_digits (cs ++ t) ≡ true) → cond u (all_digits cs) false ≡ true → cond u (all_digits (cs ++ t)) false ≡ true
    go true on f = on f
    go false on f = f

text_digits : (k n : ℕ) → all_digits (digits_of k n) ≡ true
unfolding digits_of all_digits
text_digits zero n = refl
text_digits (suc k) n = go (ltb n 10) (text_digits k (n / 10))
  where
    one : all_digits (last_digit n ∷ []) ≡ true
    one = simp (last_is_digit n)

    go : (t : Bool) → all_digits (digits_of k (n / 10)) ≡ true → all_digits (cond t (last_digit n ∷ []) (digits_of k (n / 10) ++ (last_digit n ∷ []))) ≡ true
    go true e = one
    go false e = digits_append (digits_of k (n / 10)) (last_digit n ∷ []) e one

number_read : (n : ℕ) (s : List ℕ) → Every Digit s → number_from n s ≡ read_decimal n s
unfolding number_from read_decimal decimal_digit
number_read n [] none = refl
number_read n (c ∷ cs) (next d ds) =
    simp (le-ltb c 48 d.0, lt-ltb c 58 (omega arith)) (number_read (n * 10 + (c - 48)) cs ds)

some_text : (k n : ℕ) → length (digits_of (suc k) n) ≢ 0
unfolding digits_of
some_text k n = go (ltb n 10)
  where
    go : (t : Bool) → length (cond t (last_digit n ∷ []) (digits_of k (n / 10) ++ (last_digit n ∷ []))) ≢ 0
    go true e = absurd (omega arith)
    go false e = absurd (omega (arith, length-append (digits_of k (n / 10)) (last_digit n ∷ [])))

-- the text of a number gives that number, kept to the limit
pub length_reads_back : (n : ℕ) → n < 2 ^ 32 → length_of (decimal_text n) ≡ Some (at_most n past)
unfolding length_of decimal_text
length_reads_back n h =
    let read : number_from 0 (digits_of 10 n) ≡ n = number_read 0 (digits_of 10 n) (digits_each (digits_of 10 n) (text_digits 10 n)) ∙ decimal_reads_back n h in
    simp (ne_eqb (length (digits_of 10 n)) 0 (some_text 9 n), text_digits 10 n, read)
