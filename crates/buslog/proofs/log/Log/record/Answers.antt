-- `log::log::Log::record` meets its contract.
use mathlib.Core.Path.{sym, ◌∙◌}
use Rattle.buslog.specs.Read.{record_into}
use Rattle.buslog.proofs.log.Log.record.Goals as goal

pub returns-then-not-is_of : goal.returns-then-not-is_of
unfolding record_into
returns-then-not-is_of c = rw (sym c.is_of.ensures ∙ c.if-not-is_of.true)

pub returns : goal.returns
unfolding record_into
returns c = rw (sym c.is_of.ensures ∙ c.if-not-is_of.false, ← c.after.ensures) c.oldest.ensures
