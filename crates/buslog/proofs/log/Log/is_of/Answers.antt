-- `log::log::Log::is_of` meets its contract.
use native.Mathlib.Omega.{arith}
use Rattle.std.proofs.lemmas.Bool.Decides.{nat_tests}
use Rattle.buslog.specs.Log.{is_of}
use Rattle.buslog.proofs.log.Log.is_of.Goals as goal
use Rattle.buslog.proofs.log.Log.is_of.Goals.{then-within_limits, else-within_limits}

pub returns-then-self-n-2 : goal.returns-then-self-n-2
unfolding is_of
returns-then-self-n-2 c = elim c.if-within_limits.branch [ then-within_limits w ↦ grind (arith, nat_tests) | else-within_limits w ↦ grind (arith, nat_tests) ]

pub returns-else-self-n-2 : goal.returns-else-self-n-2
unfolding is_of
returns-else-self-n-2 c = elim c.if-within_limits.branch [ then-within_limits w ↦ grind (arith, nat_tests) | else-within_limits w ↦ grind (arith, nat_tests) ]
