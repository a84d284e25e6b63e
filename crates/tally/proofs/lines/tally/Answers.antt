use Rattle.scenario.proofs.Written.{both}
use Rattle.tally.specs.Lines.{tally_text}
use Rattle.tally.proofs.lines.tally.Goals as goal

pub returns : goal.returns
unfolding tally_text
returns c =
    both _ _ _ (both _ _ _ (both _ _ _ (both _ _ _ c.word.ensures c.decimal.ensures) c.word-2.ensures) c.decimal-2.ensures) c.word-3.ensures
