use borrow.Author.Tests.{lt-ltb, le-ltb}
use Rattle.scenario.specs.Pen.{penned_one, penned}
use Rattle.scenario.proofs.pen.laid.Goals as goal

pub returns-then-at-lt-ROOM : goal.returns-then-at-lt-ROOM
unfolding penned penned_one
returns-then-at-lt-ROOM c = simp (lt-ltb _ _ c.if-at-lt-ROOM.true)

pub returns-else-at-lt-ROOM : goal.returns-else-at-lt-ROOM
unfolding penned penned_one
returns-else-at-lt-ROOM c = simp (le-ltb _ _ c.if-at-lt-ROOM.false)
