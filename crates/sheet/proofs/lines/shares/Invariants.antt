-- `sheet::lines::shares` meets its contract.
use Rattle.std.proofs.Common.{◌≡◌, take}
use Rattle.scenario.specs.Pen.{penned}
use Rattle.sheet.specs.Lines.{shares_text}
use Rattle.sheet.proofs.lines.shares.Given as goal

abbrev pub invariant-loop-x : goal.invariant-loop-x
invariant-loop-x l = l.out ≡ penned l.initial.out (shares_text (take l.x-index l.percents))
