-- The places of the halves are 0 to 4, and a half is below 16.
-- Assumes nothing.
use Rattle.std.proofs.Common.{◌≡◌, ℕ, zero, suc, ◌<◌, Bool, true, T, ltb, ◌≢◌, refl, subst, arith, ltb→lt}
use Rattle.address.specs.Half.{half_index, half_at, low_half, high_half, class_of, sub_of}
use Rattle.std.specs.Prelude.{Option, Some, None}
use Rattle.laws.proofs.Computed.{below}

-- the test that antt computes at the sixteen halves
small : Option ℕ → Bool
small (Some i) = ltb i 5
small None = true

pub half_below : (half i : ℕ) → half < 16 → half_index half ≡ Some i → i < 5
unfolding half_index small
half_below half i h e =
    ltb→lt i 5 (subst (λ (k : Option ℕ). T (small k)) e (below (λ k. small (half_index k)) 16 tt half h))

pub class_below : (a c : ℕ) → a < 256 → class_of a ≡ Some c → c < 5
unfolding class_of
class_below a c h = half_below (low_half a) c (omega arith)

pub sub_below : (a s : ℕ) → a < 256 → sub_of a ≡ Some s → s < 5
unfolding sub_of
sub_below a s h = half_below (high_half a) s (omega arith)

-- past the row's end there is 0
pub past_row : (i : ℕ) → i ≢ 0 → i ≢ 1 → i ≢ 2 → i ≢ 3 → i ≢ 4 → 0 ≡ half_at i
past_row zero a b c d e = absurd (a refl)
past_row (suc zero) a b c d e = absurd (b refl)
past_row (suc (suc zero)) a b c d e = absurd (c refl)
past_row (suc (suc (suc zero))) a b c d e = absurd (d refl)
past_row (suc (suc (suc (suc zero)))) a b c d e = absurd (e refl)
past_row (suc (suc (suc (suc (suc i))))) a b c d e = refl

pub half_at_below : (i : ℕ) → half_at i < 16
half_at_below zero = omega arith
half_at_below (suc zero) = omega arith
half_at_below (suc (suc zero)) = omega arith
half_at_below (suc (suc (suc zero))) = omega arith
half_at_below (suc (suc (suc (suc zero)))) = omega arith
half_at_below (suc (suc (suc (suc (suc i))))) = omega arith
