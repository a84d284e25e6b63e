-- `log::note::Log::note_slot` meets its contract.
use mathlib.Core.Path.{◌≡◌}
use mathlib.Core.Bool.{true, false}
use lib.ListN.{drop}
use Rattle.bus.specs.Events.{lines_of}
use Rattle.buslog.specs.Ring.{ring}
use Rattle.buslog.specs.Note.{noted_all, records_at}
use Rattle.buslog.proofs.log.Log.note_slot.Given as goal

abbrev pub invariant-loop-t : goal.invariant-loop-t
invariant-loop-t l =
    noted_all (ring l.bytes l.self) (records_at l.time (lines_of false (drop l.t-index l.turns))) ≡ noted_all (ring l.initial.bytes l.initial.self) (records_at l.time (lines_of false l.turns))

abbrev pub invariant-loop-t-2 : goal.invariant-loop-t-2
invariant-loop-t-2 l =
    noted_all (ring l.bytes l.self) (records_at l.time (lines_of true (drop l.t-index l.turns))) ≡ noted_all (ring l.initial.bytes l.initial.self) (records_at l.time (lines_of true l.turns))
