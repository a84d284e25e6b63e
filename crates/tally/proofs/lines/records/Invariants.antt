use Rattle.std.proofs.Common.{◌≡◌, take}
use Rattle.scenario.specs.Pen.{penned}
use Rattle.tally.specs.Lines.{records_text}
use Rattle.tally.proofs.lines.records.Given as goal

abbrev pub invariant-loop-p : goal.invariant-loop-p
invariant-loop-p l = l.out ≡ penned l.initial.out (records_text (take l.p-index l.ps))
