-- `log::ring::Log::put_all` meets its contract.
use Rattle.std.proofs.Common.{◌≡◌, drop}
use Rattle.buslog.specs.Ring.{ring, pushed}
use Rattle.buslog.proofs.log.Log.put_all.Given as goal

abbrev pub invariant-loop-b : goal.invariant-loop-b
invariant-loop-b l =
    pushed (ring l.bytes l.self) (drop l.b-index l.more) ≡ pushed (ring l.initial.bytes l.initial.self) l.more
