-- `log::ring::Log::without` meets its contract.
use Rattle.buslog.specs.Ring.{without}
use Rattle.buslog.proofs.log.Log.without.Goals as goal

pub returns : goal.returns
unfolding without
returns c = simp (c.saturating_sub.ensures, c.place.ensures)
