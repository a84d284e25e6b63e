-- `log::record::Log::note_first` meets its contract.
use mathlib.Core.Path.{◌≡◌, refl, ◌∙◌}
use mathlib.Core.Logic.{◌≢◌}
use mathlib.Core.Bool.{false}
use mathlib.Core.List.{[]}
use Prim.Native.Nat.{ℕ}
use Rattle.wire.specs.declared.part.Telegram.{Telegram}
use Rattle.station.specs.Events.{failed_event, events_as, tells}
use Rattle.station.specs.declared.phase.Failure.{Failure}
use Rattle.station.specs.declared.phase.Told.{Told}
use Rattle.station.specs.declared.phase.Told.TheVariants.{Silence, Owns, Taken, Failed, Free, FailedFree, Given, Answered}
use Rattle.bus.specs.Events.{those}
use Rattle.buslog.specs.Note.{records_of, pass_records}
use Rattle.buslog.proofs.Records.{one_noted, owns_noted, taken_noted, free_noted, two_noted}
use Rattle.buslog.proofs.Written.{none_noted}
use Rattle.buslog.proofs.log.Log.note_first.Goals as goal

pub returns-in-Owns : goal.returns-in-Owns
unfolding pass_records tells
returns-in-Owns c = rw c.in-Owns.is (c.begin.ensures ∙ owns_noted _ _ _)

pub returns-in-Taken : goal.returns-in-Taken
unfolding pass_records tells
returns-in-Taken c = rw c.in-Taken.is (c.begin-in-Taken.ensures ∙ taken_noted _ _ _)

pub returns-in-Failed : goal.returns-in-Failed
unfolding pass_records tells
returns-in-Failed c = rw c.in-Failed.is (c.note_failed.ensures ∙ one_noted _ _ (failed_event _ c.in-Failed.f))

pub returns-in-Free : goal.returns-in-Free
unfolding pass_records tells
returns-in-Free c = rw c.in-Free.is (c.note_free.ensures ∙ free_noted _ _ _ c.args.t.station.part)

pub returns-in-FailedFree : goal.returns-in-FailedFree
unfolding pass_records tells
returns-in-FailedFree c = rw c.in-FailedFree.is (two_noted _ _ _ c.in-FailedFree.f c.args.t.station.part c.note_failed-in-FailedFree.ensures c.note_free-in-FailedFree.ensures)

-- a station that is told of no word of the first pass
no-first : (s : Told) (a : ℕ) (t : Telegram) → s ≢ Owns → s ≢ Taken → ((f : Failure) → s ≢ Failed f) → s ≢ Free → ((f : Failure) → s ≢ FailedFree f)
    → those false (events_as s a t) ≡ []
no-first Silence a t i j k l m = refl
no-first Owns a t i j k l m = absurd (i refl)
no-first Taken a t i j k l m = absurd (j refl)
no-first (Failed f) a t i j k l m = absurd (k f refl)
no-first Free a t i j k l m = absurd (l refl)
no-first (FailedFree f) a t i j k l m = absurd (m f refl)
no-first Given a t i j k l m = refl
no-first Answered a t i j k l m = refl

pub returns-in_default : goal.returns-in_default
unfolding pass_records tells records_of
returns-in_default c =
    let n = c.in_default in
    rw (no-first _ _ _ n.not-Owns n.not-Taken n.not-Failed n.not-Free n.not-FailedFree) (none_noted _)
