-- The masters are the addresses that have a rank, and none of them has another use.
-- Assumes nothing.
use Rattle.std.proofs.Common.{◌≡◌, ℕ, Bool, true, false, ◌&&◌, ◌≢◌, ◌↔◌, sym, refl, ap, ◌∙◌}
use mathlib.Core.Bool.{false≢true}
use Rattle.address.specs.Half.{half_index, class_of, sub_of}
use Rattle.address.specs.Master.{found, is_master, rank_at, rank_of}
use Rattle.std.specs.Prelude.{Option, Some, None}

abbrev pub ranked : Option ℕ → Bool
ranked (Some r) = true
ranked None = false

both_found : (c s : Option ℕ) → (found c && found s) ≡ ranked (rank_at c s)
both_found (Some c) (Some s) = refl
both_found (Some c) None = refl
both_found None s = refl

-- the two ways to tell a master, by its halves and by its rank, agree
pub master_ranked : (a : ℕ) → is_master a ≡ ranked (rank_of a)
unfolding is_master rank_of class_of sub_of
master_ranked a = both_found (class_of a) (sub_of a)

some_rank : (k : Option ℕ) → (ranked k ≡ true) ↔ ((r : ℕ) × (k ≡ Some r))
some_rank (Some r) = (λ _. (r, refl), λ _. refl)
some_rank None = (λ e. absurd (false≢true e), λ p. ap ranked p.1)

-- an address is a master exactly when it has a rank
pub master_exactly_when_ranked : (a : ℕ) → (is_master a ≡ true) ↔ ((r : ℕ) × (rank_of a ≡ Some r))
master_exactly_when_ranked a =
    let i = some_rank (rank_of a) in
    let e = master_ranked a in
    (λ m. i.0 (sym e ∙ m), λ p. e ∙ i.1 p)

not_this : (x : ℕ) → is_master x ≡ false → (a : ℕ) → is_master a ≡ true → a ≢ x
not_this x n a m e = false≢true (sym n ∙ sym (ap is_master e) ∙ m)

-- a master is none of A9, AA and FE
pub master_no_other_use : (a : ℕ) → is_master a ≡ true → (a ≢ 0xA9) × (a ≢ 0xAA) × (a ≢ 0xFE)
unfolding is_master half_index
master_no_other_use a m = (not_this 0xA9 refl a m, not_this 0xAA refl a m, not_this 0xFE refl a m)
