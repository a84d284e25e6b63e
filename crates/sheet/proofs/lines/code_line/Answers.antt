-- `sheet::lines::code_line` meets its contract.
use Rattle.scenario.proofs.Written.{both}
use Rattle.sheet.proofs.lines.code_line.Goals as goal

pub returns-in-Some : goal.returns-in-Some
returns-in-Some c = rw c.in-Some.is (both _ _ _ c.code_text.ensures c.word.ensures)
