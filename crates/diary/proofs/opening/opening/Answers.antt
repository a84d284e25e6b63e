-- `diary::opening::opening` meets its contract.
use Rattle.scenario.specs.Pen.{last_digit, digits_of, decimal_text}
use Rattle.diary.proofs.opening.opening.Goals as goal

pub returns-in-Err : goal.returns-in-Err
unfolding decimal_text digits_of last_digit
returns-in-Err c = rw c.in-Err.is c.word.ensures
