-- `value::write::write_share` meets its contract.
use lib.Ieee.{of_bits}
use Rattle.value.proofs.write.write_share.Goals as goal

pub returns-in-Percent : goal.returns-in-Percent
unfolding of_bits
returns-in-Percent c = simp (c.share.ensures, c.count_of.ensures, c.in-Percent.is)
