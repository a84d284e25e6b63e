-- `scenario::lines::load` meets its contract: the first bytes of the load are written.
use Rattle.std.proofs.Common.{◌≡◌, take}
use Rattle.scenario.specs.Pen.{penned}
use Rattle.scenario.specs.Lines.{hexes_text}
use Rattle.scenario.proofs.lines.load.Given as goal

abbrev pub invariant-loop-b : goal.invariant-loop-b
invariant-loop-b l = l.out ≡ penned l.initial.out (hexes_text (take l.b-index l.b-items))
