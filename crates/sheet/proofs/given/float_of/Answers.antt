-- `sheet::given::float_of` meets its contract.
use mathlib.Core.Path.{sym}
use lib.Ieee.{of_bits, div}
use Rattle.sheet.proofs.NanBits.{nan_pattern, number_pattern}
use Rattle.sheet.proofs.given.float_of.Goals as goal

pub float_from_bits-result : goal.float_from_bits-result
float_from_bits-result c = number_pattern _ c.if-n-gt2139095040.false

pub returns-then-n-gt2139095040 : goal.returns-then-n-gt2139095040
unfolding div of_bits
returns-then-n-gt2139095040 c = sym (nan_pattern _ c.if-n-gt2139095040.true)
