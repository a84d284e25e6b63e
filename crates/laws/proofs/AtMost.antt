-- A count that is kept to the room: it fits, it is no more than it was, and a count that fits is as it was. Assumes nothing.
use mathlib.Core.Path.{◌≡◌, refl}
use mathlib.Core.Bool.{Bool, true, false, cond}
use Prim.Native.Nat.{ℕ, ◌≤◌}
use native.Mathlib.Omega.{arith}
use borrow.Author.Tests.{ltb-true, ltb-false}
use lib.Dec.{ltb}
use Rattle.laws.specs.AtMost.{at_most}

module _ (n room : ℕ) where
  -- by the test
  pub at_most_test : (P : ℕ → Type 0) → (n ≤ room → P n) → (room ≤ n → P room) → P (at_most n room)
  at_most_test P f g = go (ltb n room) refl
    where
      go : (t : Bool) → ltb n room ≡ t → P (cond t n room)
      go true e = f (omega (arith, ltb-true n room e))
      go false e = g (ltb-false n room e)

  pub at_most_room : at_most n room ≤ room
  at_most_room = at_most_test (λ (k : ℕ). k ≤ room) (λ h. h) (λ h. omega arith)

  pub at_most_count : at_most n room ≤ n
  at_most_count = at_most_test (λ (k : ℕ). k ≤ n) (λ h. omega arith) (λ h. h)

  pub at_most_same : n ≤ room → at_most n room ≡ n
  at_most_same l = at_most_test (λ (k : ℕ). k ≡ n) (λ h. refl) (λ h. omega arith)
