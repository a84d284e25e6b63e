-- `sheet::lines::value_text` meets its contract.
use Rattle.scenario.proofs.Written.{both}
use Rattle.sheet.proofs.lines.value_text.Goals as goal

pub returns-in-Whole : goal.returns-in-Whole
returns-in-Whole c = rw c.in-Whole.is (both _ _ _ c.word.ensures c.decimal.ensures)

pub returns-in-Percent : goal.returns-in-Percent
returns-in-Percent c = rw c.in-Percent.is (both _ _ _ c.word-in-Percent.ensures c.float.ensures)

pub returns-in-Temperature : goal.returns-in-Temperature
returns-in-Temperature c = rw c.in-Temperature.is (both _ _ _ c.word-in-Temperature.ensures c.float-in-Temperature.ensures)
