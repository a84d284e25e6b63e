-- `sheet::lines::refused` meets its contract.
use Rattle.scenario.proofs.Written.{both}
use Rattle.sheet.specs.Lines.{refused_line}
use Rattle.sheet.proofs.lines.refused.Goals as goal

pub returns : goal.returns
unfolding refused_line
returns c = both _ _ _ (both _ _ _ c.word.ensures c.decimal.ensures) c.word-2.ensures
