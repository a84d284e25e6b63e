-- `log::ring::Log::byte_at` meets its contract.
use borrow.Author.Rules.{rules}
use Rattle.buslog.specs.Ring.{byte_at}
use Rattle.buslog.proofs.log.Log.byte_at.Goals as goal

pub returns : goal.returns
unfolding byte_at
returns c = search rules
