-- `value::block::in_percent` meets its contract.
use Rattle.std.proofs.Common.{◌≡◌}
use Rattle.value.proofs.Blocks.{so_far}
use Rattle.value.proofs.block.in_percent.Given as goal

abbrev pub invariant-loop-i : goal.invariant-loop-i
invariant-loop-i l = l.percents ≡ so_far l.codes l.i
