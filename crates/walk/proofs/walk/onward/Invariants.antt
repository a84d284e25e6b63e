-- `walk::walk::onward` meets its contract: enough turns are left for what is to go.
use Rattle.walk.specs.Walk.{walked, to_go}
use Rattle.walk.proofs.Going.{Goes}
use Rattle.walk.proofs.walk.onward.Given as goal

abbrev pub invariant-loop-moment : goal.invariant-loop-moment
invariant-loop-moment l =
    Goes l.bus l.place l.s l.ends (walked l.initial.bus l.initial.place l.s l.ends)

abbrev pub decreases-loop-moment : goal.decreases-loop-moment
decreases-loop-moment l =
    to_go l.place l.s
