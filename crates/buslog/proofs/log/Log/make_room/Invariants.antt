-- `log::ring::Log::make_room` meets its contract.
use Rattle.buslog.specs.Ring.{room_for}
use Rattle.buslog.proofs.Going.{RoomsTo}
use Rattle.buslog.proofs.log.Log.make_room.Given as goal

abbrev pub invariant-loop-self : goal.invariant-loop-self
invariant-loop-self l =
    RoomsTo l.n l.bytes l.self (room_for l.n l.bytes l.initial.self)

abbrev pub decreases-loop-self : goal.decreases-loop-self
decreases-loop-self l =
    l.self.held
