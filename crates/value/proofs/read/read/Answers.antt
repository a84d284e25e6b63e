-- `value::read::read` meets its contract.
use Rattle.std.proofs.Common.{sym, ◌∙◌, arith}
use lib.Ieee.{of_bits}
use Rattle.value.specs.declared.value.DataType.TheVariants.{Data2b, Data2c}
use Rattle.value.proofs.ByLength.{of_two}
use Rattle.value.proofs.read.read.Goals as goal

pub returns-in-Data2b-len2 : goal.returns-in-Data2b-len2
unfolding of_bits
returns-in-Data2b-len2 c = rw c.in-Data2b-len2.is-0 (c.read_signed.ensures ∙ sym (of_two Data2b c.args.bytes.now (omega arith)))

pub returns-in-Data2c-len2 : goal.returns-in-Data2c-len2
unfolding of_bits
returns-in-Data2c-len2 c = rw c.in-Data2c-len2.is-0 (c.read_signed-in-Data2c-len2.ensures ∙ sym (of_two Data2c c.args.bytes.now (omega arith)))
