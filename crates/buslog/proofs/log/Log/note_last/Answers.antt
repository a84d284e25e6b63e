-- `log::record::Log::note_last` meets its contract.
use mathlib.Core.Path.{◌≡◌, refl, ◌∙◌}
use mathlib.Core.Logic.{◌≢◌}
use mathlib.Core.Bool.{true}
use mathlib.Core.List.{[]}
use Prim.Native.Nat.{ℕ}
use Rattle.wire.specs.declared.part.Telegram.{Telegram}
use Rattle.station.specs.Events.{given, answer, event, events_as, tells}
use Rattle.station.specs.declared.phase.Told.{Told}
use Rattle.station.specs.declared.phase.Told.TheVariants.{Silence, Owns, Taken, Failed, Free, FailedFree, Given, Answered}
use Rattle.bus.specs.Events.{those}
use Rattle.buslog.specs.Record.{given_values, answer_values}
use Rattle.buslog.specs.Note.{records_of, pass_records}
use Rattle.buslog.proofs.Records.{one_noted}
use Rattle.buslog.proofs.Written.{none_noted}
use Rattle.buslog.proofs.log.Log.note_last.Goals as goal

pub returns-in-Given : goal.returns-in-Given
unfolding pass_records tells
returns-in-Given c = rw c.in-Given.is (c.note_given.ensures ∙ one_noted _ _ (event _ given (given_values c.args.t.station.part)))

pub returns-in-Answered : goal.returns-in-Answered
unfolding pass_records tells
returns-in-Answered c = rw c.in-Answered.is (c.note_answer.ensures ∙ one_noted _ _ (event _ answer (answer_values c.args.t.station.part)))

-- a station that is told of no word of the last pass
no-last : (s : Told) (a : ℕ) (t : Telegram) → s ≢ Given → s ≢ Answered → those true (events_as s a t) ≡ []
no-last Silence a t i j = refl
no-last Owns a t i j = refl
no-last Taken a t i j = refl
no-last (Failed f) a t i j = refl
no-last Free a t i j = refl
no-last (FailedFree f) a t i j = refl
no-last Given a t i j = absurd (i refl)
no-last Answered a t i j = absurd (j refl)

pub returns-in_default : goal.returns-in_default
unfolding pass_records tells records_of
returns-in_default c = rw (no-last _ _ _ c.in_default.not-Given c.in_default.not-Answered) (none_noted _)
