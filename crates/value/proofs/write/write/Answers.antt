-- `value::write::write` meets its contract.
use lib.Ieee.{of_bits}
use Rattle.value.proofs.write.write.Goals as goal

pub returns-in-Data2b : goal.returns-in-Data2b
unfolding of_bits
returns-in-Data2b c = simp (c.write_signed.ensures, c.in-Data2b.is)

pub returns-in-Data2c : goal.returns-in-Data2c
unfolding of_bits
returns-in-Data2c c = simp (c.write_signed-in-Data2c.ensures, c.in-Data2c.is)
