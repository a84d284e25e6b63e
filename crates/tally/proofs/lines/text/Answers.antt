-- `tally::lines::text` meets its contract: where nothing is asked nothing is written.
use Rattle.scenario.proofs.Written.{nothing}
use Rattle.tally.proofs.lines.text.Goals as goal

pub returns-in-None : goal.returns-in-None
returns-in-None c = rw c.in-None.is (nothing _)
