-- `scenario::lines::last_of` meets its contract.
use Rattle.std.proofs.Common.{◌≡◌, [], true, length, refl, rules}
use Rattle.station.specs.Events.{tells}
use Rattle.station.specs.declared.phase.Told.{Told}
use Rattle.station.specs.declared.phase.Told.TheVariants.{Silence, Owns, Taken, Failed, Free, FailedFree, Given, Answered}
use Rattle.station.specs.declared.station.Turn.{Turn}
use Rattle.bus.specs.declared.time.Time.{Time}
use Rattle.scenario.specs.Lines.{text_of, pass_text}
use Rattle.scenario.proofs.Written.{nothing}
use Rattle.scenario.proofs.Texts.{given_text_lem, answer_text_lem}
use Rattle.scenario.proofs.lines.last_of.Goals as goal

pub returns-in-Given : goal.returns-in-Given
unfolding pass_text tells
returns-in-Given c =
    let o = c.args in
    let sixteen : length o.t.station.part.load.bytes ≡ 16 = search rules in
    rw (c.in-Given.is, given_text_lem o.time o.t.station.address o.t.station.part sixteen) c.given.ensures

pub returns-in-Answered : goal.returns-in-Answered
unfolding pass_text tells
returns-in-Answered c =
    let o = c.args in
    let sixteen : length o.t.station.part.load.bytes ≡ 16 = search rules in
    rw (c.in-Answered.is, answer_text_lem o.time o.t.station.address o.t.station.part sixteen) c.answer.ensures

quiet_last : (time : Time) (t : Turn) (told : Told) → t.told ≡ told → (t.told ≡ Given → ⊥) → (t.told ≡ Answered → ⊥) → pass_text time true t ≡ []
unfolding pass_text tells text_of
quiet_last time t Silence e g a = rw e
quiet_last time t Owns e g a = rw e
quiet_last time t Taken e g a = rw e
quiet_last time t (Failed f) e g a = rw e
quiet_last time t Free e g a = rw e
quiet_last time t (FailedFree f) e g a = rw e
quiet_last time t Given e g a = absurd (g e)
quiet_last time t Answered e g a = absurd (a e)

pub returns-in_default : goal.returns-in_default
returns-in_default c = rw (quiet_last c.args.time c.args.t c.args.t.told refl c.in_default.not-Given c.in_default.not-Answered) (nothing _)
