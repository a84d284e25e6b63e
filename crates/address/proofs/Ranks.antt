-- The ranks of the masters: 0 to 24, each once, class first and then sub-address.
-- Assumes nothing.
use Rattle.std.proofs.Common.{◌≡◌, ℕ, ◌+◌, ◌*◌, ◌/◌, ◌%◌, ◌<◌, ltb, ◌⊎◌, ◌↔◌, sym, refl, ap, ◌∙◌, inl, inr, ⊎_elim, eq-or-lt_of_le, arith, ltb→lt}
use mathlib.Core.Bool.{false≢true}
use Rattle.address.specs.Half.{half_index, class_of, sub_of}
use Rattle.address.specs.Master.{rank_at, rank_of, master_at}
use Rattle.std.specs.Prelude.{Option, Some, None}
use Rattle.laws.proofs.Computed.{below, same}
use Rattle.address.proofs.Halves.{half_at_below, class_below, sub_below}
use Rattle.address.proofs.Masters.{ranked}

-- a rank as a number: below 25 where there is one, and 25 for nobody's
place : Option ℕ → ℕ
place (Some r) = r
place None = 25

place_is : (k : Option ℕ) (r : ℕ) → r < 25 → place k ≡ r → k ≡ Some r
unfolding place
place_is (Some x) r h e = ap Some e
place_is None r h e = absurd (omega arith)

-- every rank from 0 to 24 is some master's
pub rank_taken : (r : ℕ) → r < 25 → (master_at r < 256) × (rank_of (master_at r) ≡ Some r)
unfolding place master_at rank_of class_of sub_of half_index
rank_taken r h = (
  ltb→lt (master_at r) 256 (below (λ r. ltb (master_at r) 256) 25 tt r h),
  place_is (rank_of (master_at r)) r h (same (λ r. place (rank_of (master_at r))) (λ r. r) 25 tt r h),
)

-- and of whatever number the master is asked for, a byte is given
pub master_at_byte : (r : ℕ) → master_at r < 256
unfolding master_at
master_at_byte r = omega (arith, half_at_below (r % 5), half_at_below (r / 5))

-- the master of an address's rank, and the address itself where it has none
returned : Option ℕ → ℕ → ℕ
returned (Some r) a = master_at r
returned None a = a

-- a rank says whose it is
pub master_of_rank : (a r : ℕ) → a < 256 → rank_of a ≡ Some r → master_at r ≡ a
unfolding returned master_at rank_of class_of sub_of half_index
master_of_rank a r h e =
    sym (ap (λ k. returned k a) e) ∙ same (λ a. returned (rank_of a) a) (λ a. a) 256 tt a h

-- two masters with the same rank are the same
pub ranks_distinct : (a b r : ℕ) → a < 256 → b < 256 → rank_of a ≡ Some r → rank_of b ≡ Some r → a ≡ b
ranks_distinct a b r ha hb ea eb = sym (master_of_rank a r ha ea) ∙ master_of_rank b r hb eb

-- what is known of a master: the address is a byte, its rank, and the indexes of its class and sub-address
pub record Placed (a r c s : ℕ) : Type 0 where
  pub byte : a < 256
  pub rank : rank_of a ≡ Some r
  pub class : class_of a ≡ Some c
  pub sub : sub_of a ≡ Some s

-- the rank is five for each class before, and one for each sub-address before
pub rank_sum : {a r c s : ℕ} → Placed a r c s → r ≡ 5 * c + s
unfolding rank_of
rank_sum {r = r} {c = c} {s = s} p =
    let e : Some (5 * c + s) ≡ Some r = simp (p.class, p.sub) at p.rank in
    cc

indexes : (i j : Option ℕ) (r : ℕ) → rank_at i j ≡ Some r → (c : ℕ) × (s : ℕ) × (i ≡ Some c) × (j ≡ Some s)
indexes (Some c) (Some s) r e = (c, s, refl, refl)
indexes (Some c) None r e = absurd (false≢true (ap ranked e))
indexes None j r e = absurd (false≢true (ap ranked e))

-- what has a rank has a class and a sub-address
pub placed : (a r : ℕ) → a < 256 → rank_of a ≡ Some r → (c : ℕ) × (s : ℕ) × Placed a r c s
unfolding rank_of
placed a r h e =
    let i = indexes (class_of a) (sub_of a) r e in
    (i.0, i.1, record { byte = h; rank = e; class = i.2; sub = i.3 })

-- ranks are below 25
pub rank_below : (a r : ℕ) → a < 256 → rank_of a ≡ Some r → r < 25
rank_below a r h e =
    let p = placed a r h e in
    omega (arith, rank_sum p.2, class_below a p.0 h p.2.class, sub_below a p.1 h p.2.sub)

ordered : (c s d t : ℕ) → s < 5 → t < 5 → (5 * c + s < 5 * d + t) ↔ ((c < d) ⊎ ((c ≡ d) × (s < t)))
ordered c s d t hs ht = (
  λ h. ⊎_elim (λ e. inr (e, omega arith)) inl (eq-or-lt_of_le (omega arith)),
  ⊎_elim (λ l. omega arith) (λ p. omega arith),
)

-- class first, then sub-address, both rising
pub ranks_order : {a r c s b q d t : ℕ} → Placed a r c s → Placed b q d t → (r < q) ↔ ((c < d) ⊎ ((c ≡ d) × (s < t)))
ranks_order {a} {r} {c} {s} {b} {q} {d} {t} x y =
    rw (rank_sum x, rank_sum y) (ordered c s d t (sub_below a s x.byte x.sub) (sub_below b t y.byte y.sub))

-- 10 ranks before 01: 1 is below 5
pub ten_before_one : (rank_of 0x10 ≡ Some 1) × (rank_of 0x01 ≡ Some 5)
unfolding rank_of class_of sub_of half_index
ten_before_one = (refl, refl)
