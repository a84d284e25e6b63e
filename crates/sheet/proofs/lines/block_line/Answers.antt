-- `sheet::lines::block_line` meets its contract.
use Rattle.scenario.proofs.Written.{both}
use Rattle.sheet.proofs.lines.block_line.Goals as goal

pub returns-in-Ok : goal.returns-in-Ok
returns-in-Ok c =
    rw c.in-Ok.is
    (both _ _ _ (both _ _ _ c.word.ensures (rw c.percents.ensures at c.shares.ensures)) c.word-in-Ok.ensures)
