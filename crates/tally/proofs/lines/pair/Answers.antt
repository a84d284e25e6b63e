use Rattle.scenario.proofs.Written.{both}
use Rattle.tally.specs.Lines.{pair_text}
use Rattle.tally.proofs.lines.pair.Goals as goal

pub returns : goal.returns
unfolding pair_text
returns c = both _ _ _ (both _ _ _ c.byte.ensures c.hex.ensures) c.tally.ensures
