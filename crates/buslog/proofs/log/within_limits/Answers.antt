-- `log::log::within_limits` meets its contract.
use native.Mathlib.Omega.{arith}
use Rattle.std.proofs.lemmas.Bool.Decides.{nat_tests}
use Rattle.buslog.specs.Log.{within_limits}
use Rattle.buslog.proofs.log.within_limits.Goals as goal

pub returns-then-n-ge-FEWEST : goal.returns-then-n-ge-FEWEST
unfolding within_limits
returns-then-n-ge-FEWEST c = grind (arith, nat_tests)

pub returns-else-n-ge-FEWEST : goal.returns-else-n-ge-FEWEST
unfolding within_limits
returns-else-n-ge-FEWEST c = grind (arith, nat_tests)
