-- `diary::lines::Records::fill` meets its contract.
use Rattle.diary.proofs.Filling.{fills_over, fills_full}
use Rattle.diary.proofs.lines.Records.fill.Goals as goal

pub returns-else-out : goal.returns-else-out
returns-else-out c = fills_full c.loop-self.invariant c.loop-self-test.true c.if-out.false

pub returns-after-loop-self : goal.returns-after-loop-self
returns-after-loop-self c = fills_over c.loop-self.invariant c.loop-self-test.false
