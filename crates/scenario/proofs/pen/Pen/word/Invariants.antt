-- `scenario::pen::Pen::word` meets its contract: the first bytes of the word are written.
use Rattle.std.proofs.Common.{◌≡◌, take}
use Rattle.scenario.specs.Pen.{pen, penned}
use Rattle.scenario.proofs.pen.Pen.word.Given as goal

abbrev pub invariant-loop-b : goal.invariant-loop-b
invariant-loop-b l = pen l.self.page l.at ≡ penned l.initial.self (take l.b-index l.s)
