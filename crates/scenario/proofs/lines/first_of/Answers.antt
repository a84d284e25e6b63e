-- `scenario::lines::first_of` meets its contract.
use Rattle.std.proofs.Common.{◌≡◌, [], false}
use mathlib.Core.Logic.{◌⊎◌, inl, inr}
use Rattle.station.specs.Events.{tells}
use Rattle.station.specs.declared.phase.Told.TheVariants.{Silence, Given, Answered}
use Rattle.station.specs.declared.station.Turn.{Turn}
use Rattle.bus.specs.declared.time.Time.{Time}
use Rattle.scenario.specs.Lines.{text_of, pass_text}
use Rattle.scenario.proofs.Written.{nothing, both}
use Rattle.scenario.proofs.Texts.{owns_text, taken_text, free_text, failed_text, failed_free_text}
use Rattle.scenario.proofs.lines.first_of.Goals as goal

pub returns-in-Owns : goal.returns-in-Owns
unfolding pass_text tells
returns-in-Owns c = rw (c.in-Owns.is, owns_text) c.plain.ensures

pub returns-in-Taken : goal.returns-in-Taken
unfolding pass_text tells
returns-in-Taken c = rw (c.in-Taken.is, taken_text) c.plain-in-Taken.ensures

pub returns-in-Failed : goal.returns-in-Failed
unfolding pass_text tells
returns-in-Failed c = rw (c.in-Failed.is, failed_text) c.failed.ensures

pub returns-in-Free : goal.returns-in-Free
unfolding pass_text tells
returns-in-Free c = rw (c.in-Free.is, free_text) c.counted.ensures

pub returns-in-FailedFree : goal.returns-in-FailedFree
unfolding pass_text tells
returns-in-FailedFree c = rw (c.in-FailedFree.is, failed_free_text) (both _ _ _ c.failed-in-FailedFree.ensures c.counted-in-FailedFree.ensures)

quiet_first : (time : Time) (t : Turn) → (t.told ≡ Silence) ⊎ ((t.told ≡ Given) ⊎ (t.told ≡ Answered)) → pass_text time false t ≡ []
unfolding pass_text tells text_of
quiet_first time t (inl e) = rw e
quiet_first time t (inr (inl e)) = rw e
quiet_first time t (inr (inr e)) = rw e

pub returns-in-Silence : goal.returns-in-Silence
returns-in-Silence c = rw (quiet_first c.args.time c.args.t c.in-Silence.is) (nothing _)
