-- `log::read::Log::fitting` meets its contract.
use Rattle.std.proofs.Common.{◌≤◌}
use Rattle.buslog.specs.Read.{fitting_in}
use Rattle.buslog.proofs.Going.{FitsTo}
use Rattle.buslog.proofs.log.Log.fitting.Given as goal

abbrev pub invariant-loop-rest : goal.invariant-loop-rest
invariant-loop-rest l =
    (l.used ≤ l.n) × FitsTo l.n l.bytes l.used l.rest (fitting_in l.bytes l.n l.initial.rest)

abbrev pub decreases-loop-rest : goal.decreases-loop-rest
decreases-loop-rest l =
    l.rest.held
