-- `diary::follow::follow` meets its contract: what is still to be heard, noted, comes to all.
use mathlib.Core.Path.{◌≡◌}
use Rattle.buslog.specs.Ring.{ring}
use Rattle.buslog.specs.Slots.{noted_slots}
use Rattle.walk.specs.Follow.{told_left}
use Rattle.diary.specs.Follow.{followed}
use Rattle.diary.proofs.follow.follow.Given as goal

abbrev pub invariant-loop-bus : goal.invariant-loop-bus
invariant-loop-bus l = noted_slots (ring l.bytes l.l) (told_left l.bus-iterator) ≡ followed (ring l.initial.bytes l.initial.l) l.s
