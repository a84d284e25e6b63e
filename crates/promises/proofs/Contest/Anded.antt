-- The AND of two master addresses is a master address with the lesser class and the lesser sub-address, and ranks go by the halves.
-- Assumes nothing.
use mathlib.Core.Path.{◌≡◌, refl, sym, ◌∙◌}
use mathlib.Core.Bool.{Bool, true, false, cond, ◌&&◌, false≢true}
use mathlib.Core.Logic.{◌⊎◌, inl, inr, ⊎_elim}
use Prim.Native.Nat.{ℕ, ◌+◌, ◌*◌, ◌≤◌, ◌<◌, min}
use native.Mathlib.Nat.{eq-or-lt_of_le}
use native.Mathlib.Omega.{arith}
use borrow.Author.Tests.{eqb-true, ltb-true, ltb-false, lt-ltb, le-ltb}
use lib.Bits.{bit_and, and_shr, and_mod}
use lib.Dec.{T, eqb, ltb, eqb→eq, ltb→lt}
use Rattle.laws.proofs.Computed.{all, below, both, both_left, both_right}
use Rattle.address.specs.Half.{half_index, low_half, high_half, class_of, sub_of}
use Rattle.address.specs.Master.{in_row, found, is_master, rank_at, rank_of}
use Rattle.std.specs.Prelude.{Option, Some, None}

-- ---- the halves

-- the row's members are below 16
row_small : (x : ℕ) → in_row x ≡ true → x < 16
unfolding half_index
row_small x e = go (eqb x 0) (eqb x 1) (eqb x 3) (eqb x 7) (eqb x 15) refl refl refl refl refl e
  where
    go : (a b c d f : Bool) → eqb x 0 ≡ a → eqb x 1 ≡ b → eqb x 3 ≡ c → eqb x 7 ≡ d → eqb x 15 ≡ f
        → found (cond a (Some 0) (cond b (Some 1) (cond c (Some 2) (cond d (Some 3) (cond f (Some 4) None))))) ≡ true → x < 16
    go true b c d f p q r s t e = omega (arith, eqb-true x 0 p)
    go false true c d f p q r s t e = omega (arith, eqb-true x 1 q)
    go false false true d f p q r s t e = omega (arith, eqb-true x 3 r)
    go false false false true f p q r s t e = omega (arith, eqb-true x 7 s)
    go false false false false true p q r s t e = omega (arith, eqb-true x 15 t)
    go false false false false false p q r s t e = absurd (false≢true e)

-- the place of a half, as a number
place : Option ℕ → ℕ
place (Some i) = i
place None = 5

-- the second test where the first passes
if_passed : Bool → Bool → Bool
if_passed true b = b
if_passed false b = true

passed : (a b : Bool) → a ≡ true → T (if_passed a b) → T b
unfolding if_passed
passed true b e t = t
passed false b e t = absurd (false≢true e)

-- of two members of the row: AND is the lesser, which is a member; a lesser one has a lesser place, and the other way round
alike_tests : Bool → Bool → Bool
alike_tests true b = b
alike_tests false true = false
alike_tests false false = true

pair_test : ℕ → ℕ → Bool
pair_test x y =
    both (eqb (bit_and x y) (min x y)) (both (in_row (min x y)) (alike_tests (ltb (place (half_index x)) (place (half_index y))) (ltb x y)))

row_test : ℕ → ℕ → Bool
row_test x y = if_passed (both (in_row x) (in_row y)) (pair_test x y)

row_tested : (x y : ℕ) → x < 16 → y < 16 → T (row_test x y)
unfolding row_test pair_test if_passed alike_tests place half_index
row_tested x y hx hy = below (row_test x) 16 (below (λ x. all (row_test x) 16) 16 tt x hx) y hy

both_true : (a b : Bool) → a ≡ true → b ≡ true → both a b ≡ true
both_true true b p q = q
both_true false b p q = absurd (false≢true p)

from_t : (a : Bool) → T a → a ≡ true
from_t true t = refl
from_t false t = absurd t

alike_are : (a b : Bool) → T (alike_tests a b) → a ≡ b
unfolding alike_tests
alike_are true b t = sym (from_t b t)
alike_are false true t = absurd t
alike_are false false t = refl

record Pair (x y : ℕ) : Type 0 where
  anded : bit_and x y ≡ min x y
  member : in_row (min x y) ≡ true
  order : ltb (place (half_index x)) (place (half_index y)) ≡ ltb x y

row_pair : (x y : ℕ) → in_row x ≡ true → in_row y ≡ true → Pair x y
unfolding row_test pair_test
row_pair x y p q =
    let t = passed (both (in_row x) (in_row y)) (pair_test x y) (both_true (in_row x) (in_row y) p q)
    (row_tested x y (row_small x p) (row_small y q)) in
    let u = both_right (eqb (bit_and x y) (min x y)) _ t in
    record {
      anded = eqb→eq (bit_and x y) (min x y) (both_left (eqb (bit_and x y) (min x y)) _ t);
      member = from_t (in_row (min x y)) (both_left (in_row (min x y)) _ u);
      order = alike_are _ _ (both_right (in_row (min x y)) _ u);
    }

-- ---- the addresses

and_left : (a b : Bool) → a && b ≡ true → a ≡ true
and_left true b e = refl
and_left false b e = e

and_right : (a b : Bool) → a && b ≡ true → b ≡ true
and_right true b e = e
and_right false b e = absurd (false≢true e)

master_low : (a : ℕ) → is_master a ≡ true → in_row (low_half a) ≡ true
unfolding is_master
master_low a m = and_left (in_row (low_half a)) (in_row (high_half a)) m

master_high : (a : ℕ) → is_master a ≡ true → in_row (high_half a) ≡ true
unfolding is_master
master_high a m = and_right (in_row (low_half a)) (in_row (high_half a)) m

module _ (a b : ℕ) (m : is_master a ≡ true) (n : is_master b ≡ true) where
  lows : Pair (low_half a) (low_half b)
  lows = row_pair (low_half a) (low_half b) (master_low a m) (master_low b n)

  highs : Pair (high_half a) (high_half b)
  highs = row_pair (high_half a) (high_half b) (master_high a m) (master_high b n)

  pub and_low : low_half (bit_and a b) ≡ min (low_half a) (low_half b)
  and_low = and_mod a b 4 ∙ lows.anded

  pub and_high : high_half (bit_and a b) ≡ min (high_half a) (high_half b)
  and_high = and_shr a b 4 ∙ highs.anded

  pub and_master : is_master (bit_and a b) ≡ true
  unfolding is_master
  and_master = rw (and_low, and_high, lows.member, highs.member)

-- ---- the ranks

-- class first, then sub-address
abbrev pub NotAfter : ℕ → ℕ → Type 0
NotAfter a c = (low_half a < low_half c) ⊎ ((low_half a ≡ low_half c) × (high_half a ≤ high_half c))

rank_at_lem : (c s : Option ℕ) → found c ≡ true → found s ≡ true → rank_at c s ≡ Some (5 * place c + place s)
unfolding place
rank_at_lem (Some c) (Some s) p q = refl
rank_at_lem (Some c) None p q = absurd (false≢true q)
rank_at_lem None s p q = absurd (false≢true p)

rank_is : (a : ℕ) → is_master a ≡ true → rank_of a ≡ Some (5 * place (half_index (low_half a)) + place (half_index (high_half a)))
unfolding rank_of class_of sub_of
rank_is a m = rank_at_lem (half_index (low_half a)) (half_index (high_half a)) (master_low a m) (master_high a m)

place_test : ℕ → Bool
place_test x = if_passed (in_row x) (ltb (place (half_index x)) 5)

place_below : (x : ℕ) → in_row x ≡ true → place (half_index x) < 5
unfolding place_test if_passed place half_index
place_below x p =
    ltb→lt (place (half_index x)) 5 (passed (in_row x) (ltb (place (half_index x)) 5) p (below place_test 16 tt x (row_small x p)))

lesser : {x y : ℕ} → Pair x y → place (half_index x) < place (half_index y) → x < y
lesser {x} {y} p h = ltb-true x y (sym p.order ∙ lt-ltb (place (half_index x)) (place (half_index y)) h)

not_more : {x y : ℕ} → Pair x y → place (half_index y) ≤ place (half_index x) → y ≤ x
not_more {x} {y} p h = ltb-false x y (sym p.order ∙ le-ltb (place (half_index x)) (place (half_index y)) h)

five : (c s d t : ℕ) → s < 5 → t < 5 → 5 * c + s ≤ 5 * d + t → (c < d) ⊎ ((c ≡ d) × (s ≤ t))
five c s d t hs ht h = ⊎_elim (λ e. inr (e, omega arith)) inl (eq-or-lt_of_le (omega arith))

-- a rank that is not greater: a lesser class, or the same class and no greater sub-address
pub not_after : (a c r q : ℕ) → is_master a ≡ true → is_master c ≡ true → rank_of a ≡ Some r → rank_of c ≡ Some q → r ≤ q → NotAfter a c
not_after a c r q m n e f h =
    ⊎_elim (λ l. inl (lesser (lows a c m n) l)) (λ p. inr (same_class p.0, not_more (highs c a n m) p.1))
    (five (place (half_index (low_half a))) (place (half_index (high_half a))) (place (half_index (low_half c))) (place (half_index (high_half c)))
    (place_below (high_half a) (master_high a m)) (place_below (high_half c) (master_high c n)) sums)
  where
    rank_of_lem : (x y : ℕ) → Some x ≡ Some y → x ≡ y
    rank_of_lem x y e = cc

    sums : 5 * place (half_index (low_half a)) + place (half_index (high_half a)) ≤ 5 * place (half_index (low_half c)) + place (half_index (high_half c))
    sums = omega (arith, rank_of_lem r _ (sym e ∙ rank_is a m), rank_of_lem q _ (sym f ∙ rank_is c n))

    same_class : place (half_index (low_half a)) ≡ place (half_index (low_half c)) → low_half a ≡ low_half c
    same_class e =
        let x : low_half a ≤ low_half c = not_more (lows c a n m) (omega arith) in
        let y : low_half c ≤ low_half a = not_more (lows a c m n) (omega arith) in
        omega arith
