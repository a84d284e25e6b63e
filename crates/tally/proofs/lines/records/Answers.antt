use Rattle.scenario.proofs.Written.{nothing, one_more, all_of}
use Rattle.tally.specs.Lines.{records_text}
use Rattle.tally.proofs.RecordsWritten.{line_of, records_snoc}
use Rattle.tally.proofs.lines.records.Goals as goal

pub loop-p-init : goal.loop-p-init
unfolding records_text
loop-p-init c = nothing _

pub loop-p-preserved : goal.loop-p-preserved
loop-p-preserved c = one_more records_text line_of records_snoc _ _ _ _ c.loop-p-test.true c.loop-p.invariant c.pair.ensures

pub returns : goal.returns
returns c = all_of records_text _ _ _ c.loop-p-test.false c.loop-p.invariant
