-- `log::log::Log::note` meets its contract.
use mathlib.Core.Path.{sym, ap, ◌∙◌}
use Rattle.std.specs.Prelude.{Ok}
use Rattle.buslog.specs.Ring.{Ring}
use Rattle.buslog.specs.Note.{kept, note_in}
use Rattle.buslog.proofs.log.Log.note.Goals as goal

pub returns-then-not-is_of : goal.returns-then-not-is_of
unfolding note_in
returns-then-not-is_of c = rw (sym c.is_of.ensures ∙ c.if-not-is_of.true)

pub returns : goal.returns
unfolding note_in
returns c = rw (sym c.is_of.ensures ∙ c.if-not-is_of.false) (ap (λ (d : Ring). kept d (Ok tt)) c.note_slot.ensures)
