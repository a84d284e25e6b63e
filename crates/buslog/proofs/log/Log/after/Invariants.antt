-- `log::read::Log::after` meets its contract.
use Rattle.std.proofs.Common.{◌≡◌, ◌-◌}
use Rattle.buslog.specs.Read.{rest_after}
use Rattle.buslog.proofs.log.Log.after.Given as goal

abbrev pub invariant-loop : goal.invariant-loop
invariant-loop l =
    rest_after (l.k - l.counter) l.bytes l.rest ≡ rest_after l.k l.bytes l.initial.rest
