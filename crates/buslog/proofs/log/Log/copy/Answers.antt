-- `log::read::Log::copy` meets its contract.
use Rattle.buslog.proofs.Going.{copied_on, copied_all}
use Rattle.buslog.proofs.log.Log.copy.Goals as goal

pub loop-i-preserved : goal.loop-i-preserved
loop-i-preserved c = copied_on _ _ c.loop-i.i _ c.loop-i-test.true c.byte_at.ensures c.lay.ensures c.loop-i.invariant

pub returns : goal.returns
returns c = copied_all _ _ _ _ c.loop-i-test.false c.loop-i.invariant
