-- A length that is kept to the first past the limits has the output of the number that its digits make. Assumes nothing.
use mathlib.Core.Path.{◌≡◌, refl, sym, ◌∙◌}
use mathlib.Core.List.{List}
use Prim.Native.Nat.{ℕ, ◌<◌}
use native.Mathlib.Omega.{arith}
use borrow.Author.Tests.{lt-ltb, le-ltb}
use Rattle.laws.specs.AtMost.{at_most}
use Rattle.laws.proofs.AtMost.{at_most_test}
use Rattle.buslog.specs.Log.{within_limits}
use Rattle.diary.specs.Length.{past}
use Rattle.diary.specs.Output.{refused16, wirelog_output}

past_limits : (n : ℕ) (s : List ℕ) → 65536 < n → wirelog_output n s ≡ refused16
unfolding wirelog_output within_limits
past_limits n s h = simp (le-ltb n 64 (omega arith), lt-ltb 65536 n h)

pub any_length : (n : ℕ) (s : List ℕ) → wirelog_output (at_most n past) s ≡ wirelog_output n s
any_length n s =
    at_most_test n past (λ (k : ℕ). wirelog_output k s ≡ wirelog_output n s) (λ h. refl)
    (λ h. past_limits past s (omega arith) ∙ sym (past_limits n s (omega arith)))
