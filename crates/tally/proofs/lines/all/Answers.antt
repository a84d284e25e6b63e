use Rattle.scenario.proofs.Written.{both}
use Rattle.tally.specs.Book.{records_in}
use Rattle.tally.specs.Lines.{others_text}
use Rattle.tally.proofs.lines.all.Goals as goal

pub returns : goal.returns
unfolding others_text records_in
returns c = rw (← c.records.ensures) (both _ _ _ c.records-2.ensures (both _ _ _ c.word.ensures c.tally.ensures))
