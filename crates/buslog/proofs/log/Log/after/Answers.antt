-- `log::read::Log::after` meets its contract.
use mathlib.Core.Path.{refl, sym, ◌∙◌}
use Rattle.buslog.proofs.Going.{rest_empty, rest_on, rest_done}
use Rattle.buslog.proofs.log.Log.after.Goals as goal

pub returns-then-rest-eq0 : goal.returns-then-rest-eq0
returns-then-rest-eq0 c = sym (rest_empty _ _ _ c.if-rest-eq0.true) ∙ c.loop.invariant

pub loop-preserved : goal.loop-preserved
loop-preserved c = rest_on _ _ _ c.loop.rest c.loop-test.true c.if-rest-eq0.false refl c.drop_oldest.ensures c.loop.invariant

pub returns : goal.returns
returns c = sym (rest_done _ _ _ _ c.loop-test.false) ∙ c.loop.invariant
