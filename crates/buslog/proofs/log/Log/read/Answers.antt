-- `log::log::Log::read` meets its contract.
use mathlib.Core.Path.{sym, ◌∙◌}
use Rattle.buslog.specs.Read.{copy_of, read_into}
use Rattle.buslog.proofs.log.Log.read.Goals as goal

pub returns-then-not-is_of : goal.returns-then-not-is_of
unfolding read_into
returns-then-not-is_of c = rw (sym c.is_of.ensures ∙ c.if-not-is_of.true)

pub returns : goal.returns
unfolding read_into copy_of
returns c = rw (sym c.is_of.ensures ∙ c.if-not-is_of.false, ← c.fitting-n.ensures, c.copy.ensures)
