-- `log::log::Log::set_up` meets its contract.
use mathlib.Core.Path.{sym, ◌∙◌}
use Rattle.buslog.specs.Log.{set_up_for}
use Rattle.buslog.proofs.log.Log.set_up.Goals as goal

pub returns-then-within_limits : goal.returns-then-within_limits
unfolding set_up_for
returns-then-within_limits c = rw (sym c.within_limits.ensures ∙ c.if-within_limits.true, c.fresh.ensures)

pub returns-else-within_limits : goal.returns-else-within_limits
unfolding set_up_for
returns-else-within_limits c = rw (sym c.within_limits.ensures ∙ c.if-within_limits.false)
