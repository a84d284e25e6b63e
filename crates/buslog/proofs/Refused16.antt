-- A set-up is refused, with number 16, exactly where the buffer has fewer than 64 bytes or more than 65,536. Assumes nothing.
use mathlib.Core.Path.{◌≡◌, refl, sym, ap, ◌∙◌}
use mathlib.Core.Bool.{Bool, true, false}
use mathlib.Core.Logic.{◌⊎◌, inl, inr, ⊎_elim, ◌↔◌}
use Prim.Native.Nat.{ℕ, ◌≤◌, ◌<◌}
use native.Mathlib.Omega.{arith}
use borrow.Author.Tests.{lt-ltb, le-ltb, ltb-true, ltb-false}
use lib.Dec.{ltb}
use Rattle.std.specs.Prelude.{Ok, Err}
use Rattle.buslog.specs.Log.{within_limits, fresh_for, bad_length, set_up_for, set_up_number}
use Rattle.buslog.proofs.Limits.{limits_within}

-- from 64 to 65,536 bytes: it is set up
set_up : (n : ℕ) → 64 ≤ n → n ≤ 65536 → set_up_for n ≡ Ok (fresh_for n)
unfolding set_up_for
set_up n h g = rw (limits_within n h g)

-- any other: it is refused
too_few : (n : ℕ) → n < 64 → set_up_for n ≡ Err bad_length
unfolding set_up_for within_limits
too_few n h = rw (lt-ltb n 64 h)

too_many : (n : ℕ) → 65536 < n → set_up_for n ≡ Err bad_length
unfolding set_up_for within_limits
too_many n h = rw (le-ltb n 64 (omega arith), lt-ltb 65536 n h)

-- a number of bytes lies within the limits or outside
by_limits : (n : ℕ) (P : Type 0) → (64 ≤ n → n ≤ 65536 → P) → ((n < 64) ⊎ (65536 < n) → P) → P
by_limits n P f g = go (ltb n 64) (ltb 65536 n) refl refl
  where
    go : (t u : Bool) → ltb n 64 ≡ t → ltb 65536 n ≡ u → P
    go true u e i = g (inl (ltb-true n 64 e))
    go false true e i = g (inr (ltb-true 65536 n i))
    go false false e i = f (ltb-false n 64 e) (ltb-false 65536 n i)

refused : (n : ℕ) → (n < 64) ⊎ (65536 < n) → set_up_for n ≡ Err bad_length
refused n o = ⊎_elim (λ h. too_few n h) (λ h. too_many n h) o

-- refused with number 16, exactly where it has fewer or more
pub refused_16 : (n : ℕ) → (set_up_number (set_up_for n) ≡ 16) ↔ ((n < 64) ⊎ (65536 < n))
refused_16 n = (
  λ e. by_limits n ((n < 64) ⊎ (65536 < n)) (λ h g. absurd (clash (sym (ap set_up_number (set_up n h g)) ∙ e))) (λ o. o),
  λ o. ap set_up_number (refused n o),
)
  where
    clash : ◌≡◌ {A = ℕ} 0 16 → ⊥
    clash e = omega arith

-- set up, with nothing held, exactly where it has neither
pub ready_exactly : (n : ℕ) → (set_up_for n ≡ Ok (fresh_for n)) ↔ ((64 ≤ n) × (n ≤ 65536))
ready_exactly n = (
  λ e. by_limits n ((64 ≤ n) × (n ≤ 65536)) (λ h g. (h, g)) (λ o. absurd (clash (sym (ap set_up_number (refused n o)) ∙ ap set_up_number e))),
  λ h. set_up n h.0 h.1,
)
  where
    clash : ◌≡◌ {A = ℕ} 16 0 → ⊥
    clash e = omega arith
