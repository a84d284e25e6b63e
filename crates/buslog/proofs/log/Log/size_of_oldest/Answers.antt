-- `log::ring::Log::size_of_oldest` meets its contract.
use borrow.Author.Rules.{rules}
use Rattle.buslog.specs.Ring.{size_of_oldest}
use Rattle.buslog.proofs.log.Log.size_of_oldest.Goals as goal

pub returns : goal.returns
unfolding size_of_oldest
returns c = search rules
