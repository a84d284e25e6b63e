-- `diary::lines::line` meets its contract.
use Rattle.std.proofs.Common.{◌≡◌, take}
use Rattle.scenario.specs.Lines.{hexes_text}
use Rattle.scenario.specs.Pen.{penned}
use Rattle.diary.proofs.lines.line.Given as goal

abbrev pub invariant-loop-b : goal.invariant-loop-b
invariant-loop-b l = l.out ≡ penned l.initial.out (hexes_text (take l.b-index l.others))
