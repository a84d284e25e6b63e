-- `scenario::lines::bad_line` meets its contract: the numbers 14, 15 and 65536 are the digits that it writes.
use Rattle.scenario.specs.Pen.{last_digit, digits_of, decimal_text}
use Rattle.scenario.proofs.Written.{both}
use Rattle.scenario.proofs.lines.bad_line.Goals as goal

pub returns-in-BadField : goal.returns-in-BadField
unfolding decimal_text digits_of last_digit
returns-in-BadField c =
    rw c.in-BadField.is
    (both _ _ _ (both _ _ _ c.word.ensures c.decimal.ensures) c.word-in-BadField.ensures)

pub returns-in-TooLong : goal.returns-in-TooLong
unfolding decimal_text digits_of last_digit
returns-in-TooLong c = rw c.in-TooLong.is c.word-in-TooLong.ensures
