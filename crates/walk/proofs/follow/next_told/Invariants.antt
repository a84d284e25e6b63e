-- `walk::follow::next_told` meets its contract: what is still to come is what was.
use mathlib.Core.Path.{◌≡◌}
use Rattle.walk.specs.Follow.{told_on}
use Rattle.walk.specs.Walk.{to_go}
use Rattle.walk.proofs.follow.next_told.Given as goal

abbrev pub invariant-loop : goal.invariant-loop
invariant-loop l = told_on l.bus l.place l.s ≡ told_on l.initial.bus l.initial.place l.s

abbrev pub decreases-loop : goal.decreases-loop
decreases-loop l = to_go l.place l.s
