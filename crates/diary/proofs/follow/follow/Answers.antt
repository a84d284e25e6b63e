-- `diary::follow::follow` meets its contract: what is still to be heard, noted, comes to all.
use mathlib.Core.Path.{sym, ap}
use Rattle.buslog.specs.Note.{Keeping}
use Rattle.buslog.specs.Slots.{noted_slots}
use Rattle.diary.proofs.Following.{follows_told}
use Rattle.diary.proofs.follow.follow.Goals as goal

pub loop-bus-init : goal.loop-bus-init
loop-bus-init c = rw (c.into_iter-bus-iterator.ensures.into_iter_gives, c.to-bus-items.ensures) (sym (follows_told c.args.s.now _))

pub loop-bus-preserved : goal.loop-bus-preserved
unfolding noted_slots
loop-bus-preserved c = rw (ap (λ (k : Keeping). k.ring) c.note.ensures) (rw c.in-Some.ensures.steps at c.loop-bus.invariant)

pub returns : goal.returns
unfolding noted_slots
returns c = rw c.in-None.ensures.steps.0 at c.loop-bus.invariant
