-- `value::read::percent` meets its contract.
use lib.Ieee.{of_bits}
use Rattle.value.specs.Read.{percent_of}
use Rattle.value.proofs.read.percent.Goals as goal

pub returns : goal.returns
unfolding percent_of of_bits
returns c = simp (c.steps.ensures, c.from.ensures)
