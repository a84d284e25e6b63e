-- What is asked is read from two hex digits each and from nothing else, and what was written is read. Assumes nothing.
use mathlib.Core.Path.{◌≡◌, refl, sym, ap, ◌∙◌}
use mathlib.Core.Bool.{Bool, true, false, cond, true≢false, false≢true}
use mathlib.Core.Logic.{◌↔◌}
use mathlib.Core.List.{List, [], ◌∷◌}
use Prim.Native.Nat.{ℕ, ◌+◌, ◌/◌, ◌%◌, ◌≤◌, ◌<◌}
use native.Mathlib.Omega.{arith}
use borrow.Author.Tests.{ltb-true, ltb-false, ne_eqb}
use lib.Dec.{eqb, ltb}
use lib.ListN.{length}
use Rattle.laws.proofs.Computed.{same}
use Rattle.scenario.specs.Pen.{hex_digit, byte_text}
use Rattle.tally.specs.Ask.{digit_of, byte_as, byte_of, pair_as, question_of}
use Rattle.tally.specs.declared.ask.Question.TheVariants as question
use Rattle.std.specs.Prelude.{Option, Some, None}
use Rattle.std.proofs.lemmas.Option.{same_Some}
use Rattle.tally.proofs.Digits as digit

-- ---- what was written is read

-- past every byte where there is none
abbrev value : Option ℕ → ℕ
value (Some b) = b
value None = 256

of_value : (w : Option ℕ) {b : ℕ} → value w ≡ b → b < 256 → w ≡ Some b
of_value (Some a) e h = ap Some e
of_value None e h = absurd (omega arith)

-- the same with small letters
abbrev pub small_digit : ℕ → ℕ
small_digit d = cond (ltb (d % 16) 10) (48 + d % 16) (87 + d % 16)

abbrev pub small_text : ℕ → List ℕ
small_text b = small_digit (b / 16) ∷ small_digit b ∷ []

pub byte_read : (b : ℕ) → b < 256 → byte_of (byte_text b) ≡ Some b
unfolding byte_of digit_of hex_digit
byte_read b h = of_value (byte_of (byte_text b)) (same (λ k. value (byte_of (byte_text k))) (λ k. k) 256 tt b h) h

pub small_byte_read : (b : ℕ) → b < 256 → byte_of (small_text b) ≡ Some b
unfolding byte_of digit_of
small_byte_read b h = of_value (byte_of (small_text b)) (same (λ k. value (byte_of (small_text k))) (λ k. k) 256 tt b h) h

-- every source and destination
pub written_is_read : (qq zz : ℕ) → qq < 256 → zz < 256 → question_of (byte_text qq) (byte_text zz) ≡ Some (question.Pair qq zz)
unfolding question_of
written_is_read qq zz q z = rw (byte_read qq q, byte_read zz z)

pub small_is_read : (qq zz : ℕ) → qq < 256 → zz < 256 → question_of (small_text qq) (small_text zz) ≡ Some (question.Pair qq zz)
unfolding question_of
small_is_read qq zz q z = rw (small_byte_read qq q, small_byte_read zz z)

-- ---- unreadable exactly when

-- 0 to 9, A to F, a to f
pub data HexDigit (c : ℕ) : Type 0 where
  number : 48 ≤ c → c ≤ 57 → HexDigit c
  capital : 65 ≤ c → c ≤ 70 → HexDigit c
  small : 97 ≤ c → c ≤ 102 → HexDigit c

pub data TwoDigits : List ℕ → Type 0 where
  two : {high low : ℕ} → HexDigit high → HexDigit low → TwoDigits (high ∷ low ∷ [])

hex_digit_lem : (c : ℕ) {d : ℕ} → digit_of c ≡ Some d → HexDigit c
hex_digit_lem c {d} h = go (ltb c 48) (ltb c 58) (ltb c 65) (ltb c 71) (ltb c 97) (ltb c 103) refl refl refl refl refl refl
  where
    not_one : None ≡ digit_of c → HexDigit c
    not_one e = let f : ◌≡◌ {A = Option ℕ} None (Some d) = e ∙ h in absurd (cc)

    go : (k l m n o p : Bool) → ltb c 48 ≡ k → ltb c 58 ≡ l → ltb c 65 ≡ m → ltb c 71 ≡ n → ltb c 97 ≡ o → ltb c 103 ≡ p → HexDigit c
    go true l m n o p a b d e f g = not_one (digit.below c (ltb-true c 48 a))
    go false true m n o p a b d e f g = number (ltb-false c 48 a) (omega (arith, ltb-true c 58 b))
    go false false true n o p a b d e f g = not_one (digit.between c (ltb-false c 58 b) (ltb-true c 65 d))
    go false false false true o p a b d e f g = capital (ltb-false c 65 d) (omega (arith, ltb-true c 71 e))
    go false false false false true p a b d e f g = not_one (digit.among c (ltb-false c 71 e) (ltb-true c 97 f))
    go false false false false false true a b d e f g = small (ltb-false c 97 f) (omega (arith, ltb-true c 103 g))
    go false false false false false false a b d e f g = not_one (digit.above c (ltb-false c 103 g))

-- and its value is below 16
pub digit_small : (c d : ℕ) → digit_of c ≡ Some d → d < 16
digit_small c d e = go (hex_digit_lem c e)
  where
    go : HexDigit c → d < 16
    go (number l h) = omega (arith, same_Some _ _ (digit.number c l (omega arith) ∙ e))
    go (capital l h) = omega (arith, same_Some _ _ (digit.capital c l (omega arith) ∙ e))
    go (small l h) = omega (arith, same_Some _ _ (digit.small c l (omega arith) ∙ e))

abbrev is_read : {A : Type 0} → Option A → Bool
is_read (Some x) = true
is_read None = false

digit_read : {c : ℕ} → HexDigit c → is_read (digit_of c) ≡ true
digit_read {c} (number l h) = rw (← digit.number c l (omega arith))
digit_read {c} (capital l h) = rw (← digit.capital c l (omega arith))
digit_read {c} (small l h) = rw (← digit.small c l (omega arith))

both_read : (v w : Option ℕ) → is_read v ≡ true → is_read w ≡ true → is_read (byte_as v w) ≡ true
both_read (Some a) (Some b) p q = refl
both_read (Some a) None p q = absurd (false≢true q)
both_read None w p q = absurd (false≢true p)

both_digits : (h l : ℕ) (v w : Option ℕ) → digit_of h ≡ v → digit_of l ≡ w → is_read (byte_as v w) ≡ true → HexDigit h × HexDigit l
both_digits h l (Some a) (Some b) e f r = (hex_digit_lem h e, hex_digit_lem l f)
both_digits h l (Some a) None e f r = absurd (false≢true r)
both_digits h l None w e f r = absurd (false≢true r)

read_two : (w : List ℕ) → is_read (byte_of w) ≡ true → TwoDigits w
unfolding byte_of
read_two [] e = absurd (false≢true e)
read_two (h ∷ []) e = absurd (false≢true e)
read_two (h ∷ (l ∷ [])) e = let d = both_digits h l (digit_of h) (digit_of l) refl refl e in two d.0 d.1
read_two (h ∷ (l ∷ (m ∷ w))) e =
    let longer : eqb (length (h ∷ (l ∷ (m ∷ w)))) 2 ≡ false = ne_eqb (length (h ∷ (l ∷ (m ∷ w)))) 2 (λ f. omega (arith, f)) in
    absurd (false≢true (rw longer at e))

two_read : {w : List ℕ} → TwoDigits w → is_read (byte_of w) ≡ true
unfolding byte_of
two_read (two {high} {low} p q) = both_read (digit_of high) (digit_of low) (digit_read p) (digit_read q)

both_bytes : (v w : Option ℕ) → is_read v ≡ true → is_read w ≡ true → is_read (pair_as v w) ≡ true
both_bytes (Some a) (Some b) p q = refl
both_bytes (Some a) None p q = absurd (false≢true q)
both_bytes None w p q = absurd (false≢true p)

-- exactly where one of the two words is anything else
pub unreadable_exactly_when : (first second : List ℕ) → (question_of first second ≡ None) ↔ ¬ (TwoDigits first × TwoDigits second)
unfolding question_of
unreadable_exactly_when first second = (
  λ e t. true≢false (sym (both_bytes (byte_of first) (byte_of second) (two_read t.0) (two_read t.1)) ∙ ap is_read e),
  λ n. none n (byte_of first) (byte_of second) refl refl,
)
  where
    none : ¬ (TwoDigits first × TwoDigits second) → (v w : Option ℕ) → byte_of first ≡ v → byte_of second ≡ w → pair_as v w ≡ None
    none n (Some a) (Some b) e f = absurd (n (read_two first (ap is_read e), read_two second (ap is_read f)))
    none n (Some a) None e f = refl
    none n None w e f = refl
