-- `value::steps::count_of` meets its contract.
use lib.Ieee.{of_bits}
use Rattle.value.specs.Steps.{count_of}
use Rattle.value.proofs.steps.count_of.Goals as goal

pub returns-in_err-size_of : goal.returns-in_err-size_of
unfolding count_of of_bits
returns-in_err-size_of c = simp (c.if-x.true, ← c.size_of.ensures, c.in_err-size_of.was, c.from_residual.ensures)

pub returns-in_err-size_of-2 : goal.returns-in_err-size_of-2
unfolding count_of of_bits
returns-in_err-size_of-2 c = simp (c.if-x.false, ← c.size_of-else-x.ensures, c.in_err-size_of-2.was, c.from_residual-in_err-size_of-2.ensures)

pub returns-in_ok-size_of : goal.returns-in_ok-size_of
unfolding count_of of_bits
returns-in_ok-size_of c = simp (c.if-x.true, ← c.size_of.ensures, c.in_ok-size_of.was)

pub returns-in_ok-size_of-2 : goal.returns-in_ok-size_of-2
unfolding count_of of_bits
returns-in_ok-size_of-2 c = simp (c.if-x.false, ← c.size_of-else-x.ensures, c.in_ok-size_of-2.was)
