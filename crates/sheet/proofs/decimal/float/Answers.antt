-- `sheet::decimal::float` meets its contract.
use lib.Ieee.{of_bits}
use Rattle.scenario.proofs.Written.{nothing, both}
use Rattle.sheet.specs.Decimal.{float_text}
use Rattle.sheet.proofs.decimal.float.Goals as goal

pub returns-in-Some-Up : goal.returns-in-Some-Up
unfolding float_text of_bits
returns-in-Some-Up c =
    simp (← c.count_of.ensures, c.in-Some-Up.is, c.in-Some-Up.field-0-is)
    c.steps_text.ensures

pub returns-in-Some-Down : goal.returns-in-Some-Down
unfolding float_text of_bits
returns-in-Some-Down c =
    simp (← c.count_of.ensures, c.in-Some-Down.is, c.in-Some-Down.field-0-is)
    (both _ _ _ c.word.ensures c.steps_text-in-Some-Down.ensures)

pub returns-in-None : goal.returns-in-None
unfolding float_text of_bits
returns-in-None c =
    simp (← c.count_of.ensures, c.in-None.is)
    (nothing _)
