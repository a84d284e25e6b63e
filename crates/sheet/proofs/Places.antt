-- The digits behind the point as the code writes them, one at a time. Assumes nothing.
use mathlib.Core.Path.{◌≡◌, refl}
use mathlib.Core.List.{[], ◌++◌}
use Prim.Native.Nat.{ℕ, zero, suc, ◌-◌, ◌*◌, ◌/◌, ◌%◌, ◌≤◌, ◌<◌}
use native.Mathlib.Omega.{arith}
use borrow.Author.Tests.{ne_eqb}
use Rattle.scenario.proofs.Written.{penned_both, penned_none}
use Rattle.scenario.specs.Pen.{decimal_text}
use Rattle.sheet.specs.Decimal.{fraction_text}

-- nothing is left
pub nothing_left : (k : ℕ) → fraction_text k 0 ≡ []
unfolding fraction_text
nothing_left zero = refl
nothing_left (suc k) = refl

-- no digit more
pub no_place : (k part : ℕ) → k ≤ 0 → fraction_text k part ≡ []
unfolding fraction_text
no_place zero part h = refl
no_place (suc k) part h = absurd (omega arith)

-- a digit more
pub next_place : (k part : ℕ) → 0 < k → (part ≡ 0 → ⊥)
    → fraction_text k part ≡ decimal_text (part * 10 / 256) ++ fraction_text (k - 1) (part * 10 % 256)
unfolding fraction_text
next_place zero part h n = absurd (omega arith)
next_place (suc k) part h n =
    let e : suc k - 1 ≡ k = omega arith in
    simp (ne_eqb part 0 n, e)

-- for the search
pub ruleset places_written = (nothing_left, no_place, next_place, penned_both, penned_none)
