-- `bus::bus::Bus::run` meets its contract: what is left to run comes to what the whole run comes to, and the measure is what is left.
use Rattle.std.proofs.Common.{◌≡◌}
use Rattle.bus.specs.Run.{runs}
use Rattle.bus.proofs.bus.Bus.run.Given as goal

abbrev pub invariant-loop-left : goal.invariant-loop-left
invariant-loop-left l = runs l.initial.left l.initial.self ≡ runs l.left l.self

abbrev pub decreases-loop-left : goal.decreases-loop-left
decreases-loop-left l = l.left
