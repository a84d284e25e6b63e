-- The bits of some masters, and the least of them (02, E7): which are set, that there are 25, and that one master more makes of the
-- answer what a walk would make of it. Assumes nothing.
use mathlib.Core.Path.{◌≡◌, refl, sym, ap, ◌∙◌}
use mathlib.Core.Bool.{Bool, true, false, cond}
use mathlib.Core.Logic.{◌↔◌, ◌⊎◌, inl, inr, ⊎_elim}
use Prim.Native.Nat.{ℕ, ◌+◌, ◌*◌, ◌/◌, ◌%◌, ◌^◌, ◌<◌, min}
use native.Mathlib.Nat.{eq-zero-or-pos, min-eq_left, min-eq_right}
use native.Mathlib.Omega.{arith}
use borrow.Author.Tests.{ne_eqb, ltb-true, ltb-false}
use lib.Bits.{bit_or, or_lt, or_self, or_comm, or_add_and, and_le_l}
use lib.Count.{count_trailing_zeros, trailing_of_zero}
use lib.Dec.{eqb, ltb}
use lib.Pow.{pow-lt, pow_pos}
use Rattle.laws.proofs.Computed.{alike}
use Rattle.address.specs.Master.{rank_of, master_at}
use Rattle.std.specs.Prelude.{Option, Some, None}
use Rattle.address.proofs.Ranks.{master_of_rank, master_at_byte, rank_below}
use Rattle.ranks.specs.Before.{before, or_before}
use Rattle.ranks.specs.Bits.{bit_of, with_rank, least_of, IsSet, ranks}
use Rattle.ranks.proofs.Digits.{or_assoc, set_or, set_pow, none_set, trailing_or, Lowest, lowest_set}

-- ---- which bits are set

abbrev is_of : Option ℕ → ℕ
is_of (Some r) = r
is_of None = 25

set_bit : (k : Option ℕ) (r : ℕ) → IsSet r (bit_of k) ↔ (k ≡ Some r)
set_bit (Some q) r =
    let w = set_pow r q in
    (λ s. ap Some (sym (w.0 s)), λ e. w.1 (sym (ap is_of e)))
set_bit None r = (λ s. absurd (omega (arith, s, none_set r)), λ e. absurd (nobodys e))
  where
    ranked : Option ℕ → ℕ
    ranked (Some q) = 1
    ranked None = 0

    nobodys : None ≡ Some r → ⊥
    nobodys e = let z : ◌≡◌ {A = ℕ} 0 1 = ap ranked e in omega arith

-- one master more: its bit, and those that were set
pub set_with : (r bits a : ℕ) → IsSet r (with_rank bits a) ↔ (IsSet r bits ⊎ (rank_of a ≡ Some r))
unfolding with_rank
set_with r bits a =
    let w = set_or r bits (bit_of (rank_of a)) in
    let v = set_bit (rank_of a) r in
    (λ s. ⊎_elim inl (λ t. inr (v.0 t)) (w.0 s), λ s. w.1 (⊎_elim inl (λ t. inr (v.1 t)) s))

-- no bit above the 25
pub few_with : (bits a : ℕ) → a < 256 → bits < 2 ^ ranks → with_rank bits a < 2 ^ ranks
unfolding with_rank
few_with bits a h l = or_lt 25 bits (bit_of (rank_of a)) l (go (rank_of a) refl)
  where
    go : (k : Option ℕ) → rank_of a ≡ k → bit_of k < 2 ^ 25
    go (Some r) e = pow-lt {j = 25} (rank_below a r h e)
    go None e = omega arith

-- ---- the least

-- nobody exactly where no bit is set, else the master of the lowest
pub least_means : (bits : ℕ) → 0 < bits → bits < 2 ^ ranks → (least_of bits ≡ Some (master_at (count_trailing_zeros 32 bits))) × Lowest (count_trailing_zeros 32 bits) ranks bits
unfolding least_of
least_means bits p l =
    let n : bits ≡ 0 → ⊥ = λ e. omega arith in
    (simp (ne_eqb bits 0 n), lowest_set 32 25 bits (omega arith) p l)

pub least_none : least_of 0 ≡ None
unfolding least_of
least_none = refl

-- an address is a byte
pub data IsByte : Option ℕ → Type 0 where
  master : {a : ℕ} → a < 256 → IsByte (Some a)
  nobody : IsByte None

pub least_byte : (bits : ℕ) → IsByte (least_of bits)
unfolding least_of
least_byte bits = go (eqb bits 0)
  where
    go : (t : Bool) → IsByte (cond t None (Some (master_at (count_trailing_zeros 32 bits))))
    go true = nobody
    go false = master (master_at_byte (count_trailing_zeros 32 bits))

-- by halves as by rank, computed for each two of the 25
order : (m : ℕ) → m < 625 → before (master_at (m / 25)) (master_at (m % 25)) ≡ ltb (m / 25) (m % 25)
unfolding before master_at
order m h = alike (λ m. before (master_at (m / 25)) (master_at (m % 25))) (λ m. ltb (m / 25) (m % 25)) 625 tt m h

pub before_is : (r t : ℕ) → r < 25 → t < 25 → before (master_at r) (master_at t) ≡ ltb r t
before_is r t h k =
    let m : 25 * r + t < 625 = omega arith in
    let d : (25 * r + t) / 25 ≡ r = omega arith in
    let e : (25 * r + t) % 25 ≡ t = omega arith in
    rw (d, e) at (order (25 * r + t) m)

-- the bit of a master is not lost
some_with : (w r : ℕ) → 0 < bit_or w (2 ^ r)
some_with w r = omega (arith, or_add_and w (2 ^ r), and_le_l w (2 ^ r), pow_pos r)

-- one master more: it is the least if it ranks before the least so far
pub least_with : (w a r : ℕ) → w < 2 ^ ranks → a < 256 → rank_of a ≡ Some r → least_of (with_rank w a) ≡ or_before (least_of w) a
unfolding least_of with_rank
least_with w a r l h e =
    rw (e, ne_eqb (bit_or w (2 ^ r)) 0 (λ z. absurd (omega (arith, z, some_with w r))), trailing_or 32 r w (omega (arith, small)))
    (⊎_elim alone others (eq-zero-or-pos w))
  where
    small : r < 25
    small = rank_below a r h e

    its : master_at r ≡ a
    its = master_of_rank a r h e

    alone : w ≡ 0 → Some (master_at (min (count_trailing_zeros 32 w) r)) ≡ or_before (cond (eqb w 0) None (Some (master_at (count_trailing_zeros 32 w)))) a
    alone z = rw (z, trailing_of_zero 32, min-eq_right {n = r} {m = 32} (omega (arith, small))) (ap Some its)

    others : 0 < w → Some (master_at (min (count_trailing_zeros 32 w) r)) ≡ or_before (cond (eqb w 0) None (Some (master_at (count_trailing_zeros 32 w)))) a
    others p =
        let t : count_trailing_zeros 32 w < 25 = (lowest_set 32 25 w (omega arith) p l).below in
        rw (ne_eqb w 0 (λ z. absurd (omega arith)))
        (go (ltb r (count_trailing_zeros 32 w)) refl (ap (λ (x : ℕ). before x (master_at (count_trailing_zeros 32 w))) (sym its) ∙ before_is r (count_trailing_zeros 32 w) small t))
      where
        go : (u : Bool) → ltb r (count_trailing_zeros 32 w) ≡ u → before a (master_at (count_trailing_zeros 32 w)) ≡ ltb r (count_trailing_zeros 32 w)
            → Some (master_at (min (count_trailing_zeros 32 w) r)) ≡ cond (before a (master_at (count_trailing_zeros 32 w))) (Some a) (Some (master_at (count_trailing_zeros 32 w)))
        go true u b =
            let k = ltb-true r (count_trailing_zeros 32 w) u in
            rw (b, u, min-eq_right {n = r} {m = count_trailing_zeros 32 w} (omega arith)) (ap Some its)
        go false u b =
            let k = ltb-false r (count_trailing_zeros 32 w) u in
            rw (b, u, min-eq_left {n = count_trailing_zeros 32 w} {m = r} (omega arith))

-- ---- one master more, in whatever order

pub with_twice : (bits a : ℕ) → with_rank (with_rank bits a) a ≡ with_rank bits a
unfolding with_rank
with_twice bits a = or_assoc bits (bit_of (rank_of a)) (bit_of (rank_of a)) ∙ ap (bit_or bits) (or_self (bit_of (rank_of a)))

pub with_both : (bits a c : ℕ) → with_rank (with_rank bits a) c ≡ with_rank (with_rank bits c) a
unfolding with_rank
with_both bits a c =
    or_assoc bits (bit_of (rank_of a)) (bit_of (rank_of c)) ∙ ap (bit_or bits) (or_comm (bit_of (rank_of a)) (bit_of (rank_of c)))
    ∙ sym (or_assoc bits (bit_of (rank_of c)) (bit_of (rank_of a)))
