-- `scenario::lines::verdict_line` meets its contract.
use Rattle.scenario.proofs.Written.{both}
use Rattle.scenario.proofs.lines.verdict_line.Goals as goal

pub returns-in-Err : goal.returns-in-Err
returns-in-Err c =
    rw (c.in-Err.is, ← c.number.ensures)
    (both _ _ _ (both _ _ _ c.word.ensures c.decimal.ensures) c.word-in-Err.ensures)
