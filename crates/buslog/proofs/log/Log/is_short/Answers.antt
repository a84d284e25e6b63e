-- `log::ring::Log::is_short` meets its contract.
use native.Mathlib.Omega.{arith}
use Rattle.std.proofs.lemmas.Bool.Decides.{nat_tests}
use Rattle.buslog.specs.Ring.{is_short}
use Rattle.buslog.proofs.log.Log.is_short.Goals as goal

pub returns-then-self-ne0 : goal.returns-then-self-ne0
unfolding is_short
returns-then-self-ne0 c = grind (arith, nat_tests, c.saturating_sub.ensures)

pub returns-else-self-ne0 : goal.returns-else-self-ne0
unfolding is_short
returns-else-self-ne0 c = grind (arith, nat_tests)
