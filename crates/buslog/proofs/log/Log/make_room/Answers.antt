-- `log::ring::Log::make_room` meets its contract.
use mathlib.Core.Path.{refl, sym, ◌∙◌}
use Rattle.buslog.proofs.Going.{fewer, short_holds, rooms_end, rooms_on}
use Rattle.buslog.proofs.log.Log.make_room.Goals as goal

pub loop-self-smaller : goal.loop-self-smaller
loop-self-smaller c = fewer _ _ refl c.drop_oldest.ensures (short_holds _ _ (sym c.is_short.ensures ∙ c.loop-self-test.true))

pub loop-self-preserved : goal.loop-self-preserved
loop-self-preserved c = rooms_on c.loop-self.invariant (sym c.is_short.ensures ∙ c.loop-self-test.true) refl c.drop_oldest.ensures

pub returns : goal.returns
returns c = rooms_end c.loop-self.invariant (sym c.is_short.ensures ∙ c.loop-self-test.false)
