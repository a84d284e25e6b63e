-- `log::note::Log::note_slot` meets its contract.
use mathlib.Core.Bool.{true, false}
use lib.ListN.{take}
use Rattle.bus.proofs.Loops.{attached_fit}
use Rattle.buslog.specs.Ring.{ring}
use Rattle.buslog.proofs.Records.{pass_on, pass_end, slot_noted}
use Rattle.buslog.proofs.log.Log.note_slot.Goals as goal

pub shared_ref_as_front-turns : goal.shared_ref_as_front-turns
shared_ref_as_front-turns c = rw c.attached.ensures (attached_fit _)

pub loop-t-preserved : goal.loop-t-preserved
loop-t-preserved c =
    pass_on _ false (take c.attached.result c.args.b.turns) c.loop-t.t-index _ (ring c.loop-t.bytes c.loop-t.self) c.loop-t-test.true c.note_first.ensures c.loop-t.invariant

pub loop-t-2-preserved : goal.loop-t-2-preserved
loop-t-2-preserved c =
    pass_on _ true (take c.attached.result c.args.b.turns) c.loop-t-2.t-index _ (ring c.loop-t-2.bytes c.loop-t-2.self) c.loop-t-2-test.true c.note_last.ensures c.loop-t-2.invariant

pub returns : goal.returns
returns c =
    let turns = take c.attached.result c.args.b.turns in
    slot_noted c.args.b _ _ _ c.time-time.ensures c.attached.ensures
    (pass_end _ false turns _ c.loop-t-test.false c.loop-t.invariant)
    (pass_end _ true turns _ c.loop-t-2-test.false c.loop-t-2.invariant)
