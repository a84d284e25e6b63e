use Rattle.std.proofs.Common.{true, false}
use Rattle.bus.specs.Events.{lines_of}
use Rattle.pairs.specs.Hear.{heard_events}
use Rattle.pairs.proofs.HeardLines.{Passes}
use Rattle.pairs.proofs.Counts.hear.Given as goal

abbrev pub invariant-loop-t : goal.invariant-loop-t
invariant-loop-t l = Passes false l.turns l.t-index l.h (heard_events l.initial.h (lines_of false l.turns))

abbrev pub invariant-loop-u : goal.invariant-loop-u
invariant-loop-u l = Passes true l.turns l.u-index l.h (heard_events l.initial.h (lines_of true l.turns))
