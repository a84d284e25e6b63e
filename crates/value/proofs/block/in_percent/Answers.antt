-- `value::block::in_percent` meets its contract.
use Rattle.std.proofs.Common.{refl}
use lib.Ieee.{of_bits}
use Rattle.value.specs.Block.{percents_of}
use Rattle.value.proofs.block.in_percent.Goals as goal

pub loop-i-init : goal.loop-i-init
unfolding percents_of of_bits
loop-i-init c = refl
