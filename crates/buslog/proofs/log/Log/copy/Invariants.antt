-- `log::read::Log::copy` meets its contract.
use Rattle.std.proofs.Common.{◌≡◌, ◌-◌}
use Rattle.std.proofs.lemmas.List.Edits.{sets}
use Rattle.buslog.specs.Ring.{ring, bytes_from}
use Rattle.buslog.proofs.log.Log.copy.Given as goal

abbrev pub invariant-loop-i : goal.invariant-loop-i
invariant-loop-i l =
    sets l.out l.i (bytes_from (ring l.bytes l.self) l.i (l.n - l.i)) ≡ sets l.initial.out 0 (bytes_from (ring l.bytes l.self) 0 l.n)
