-- A text has a minus only where it says a number below 0. Assumes nothing.
use Rattle.std.specs.Prelude.{Option, Some, None}
use mathlib.Core.Path.{◌≡◌, sym, ◌∙◌}
use mathlib.Core.Bool.{true, true≢false}
use Prim.Native.Nat.{ℕ, ◌<◌}
use lib.Dec.{lit≤}
use lib.Ieee.{Float}
use Rattle.value.specs.Steps.{per, count_of}
use Rattle.value.specs.declared.steps.Count.{Count}
use Rattle.value.specs.declared.steps.Count.TheVariants.{Up, Down}
use Rattle.value.proofs.Counted.{Counted, count_right}
use Rattle.sheet.specs.Decimal.{count_text, float_text}
use Rattle.sheet.specs.ReadNumber.{has_minus, Says}
use Rattle.sheet.proofs.DecimalExact.{decimal_exact}

-- whatever the float: minus zero and what is no number of 256ths have none
pub no_minus_zero : (x : Float) → has_minus (float_text x) ≡ true → (n : ℕ) × (0 < n) × Says (float_text x) true n 256
unfolding float_text has_minus
no_minus_zero x m = go (count_of (per 8) x) (count_right 8 x (lit≤ tt)) m
  where
    go : (k : Option Count) → Counted 8 x k → has_minus (count_text k) ≡ true → (n : ℕ) × (0 < n) × Says (count_text k) true n 256
    go (Some (Up n)) c m = absurd (true≢false (sym m ∙ (decimal_exact n c.0).0.sign))
    go (Some (Down n)) c m = (n, c.1, (decimal_exact n c.0).1)
    go None c m = absurd (true≢false (sym m))
