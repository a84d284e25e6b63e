-- `scenario::lines::end_line` meets its contract.
use Rattle.scenario.specs.Lines.{end_text}
use Rattle.scenario.proofs.Written.{both}
use Rattle.scenario.proofs.lines.end_line.Goals as goal

pub returns : goal.returns
unfolding end_text
returns c = both _ _ _ (both _ _ _ c.word.ensures c.decimal.ensures) c.word-2.ensures
