-- `log::log::Log::emptied` meets its contract.
use Rattle.buslog.specs.Log.{emptied}
use Rattle.buslog.proofs.log.Log.emptied.Goals as goal

pub returns : goal.returns
unfolding emptied
returns c = c.fresh.ensures
