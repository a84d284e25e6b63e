-- `log::ring::Log::place` meets its contract.
use native.Mathlib.Omega.{arith}
use Rattle.std.proofs.lemmas.Bool.Decides.{nat_tests}
use Rattle.buslog.specs.Ring.{place_of}
use Rattle.buslog.proofs.log.Log.place.Goals as goal

pub returns-then-k-ahead : goal.returns-then-k-ahead
unfolding place_of
returns-then-k-ahead c = grind (arith, nat_tests)

pub returns-else-k-ahead : goal.returns-else-k-ahead
unfolding place_of
returns-else-k-ahead c = grind (arith, nat_tests)
