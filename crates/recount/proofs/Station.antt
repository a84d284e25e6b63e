-- What one station is told of its part in a transfer: who hands out an answer owns the wire and then releases it, and who releases it
-- leaves. Assumes nothing.
use mathlib.Core.Path.{◌≡◌, refl, subst}
use mathlib.Core.Bool.{Bool, true, false}
use mathlib.Core.List.{List}
use Prim.Native.Nat.{ℕ}
use Rattle.wire.specs.declared.part.Telegram.{Telegram}
use Rattle.station.specs.Admission.{bids}
use Rattle.station.specs.Events.{Event, tells}
use Rattle.station.specs.Hear.{hears}
use Rattle.station.specs.Phase.{owner}
use Rattle.station.specs.declared.phase.Phase.{Phase}
use Rattle.station.specs.declared.phase.Phase.TheVariants.{Silent, Reading, Sending, Awaiting, Judging, Owing, Releasing}
use Rattle.station.specs.declared.phase.Sound.{Sound}
use Rattle.station.specs.declared.phase.Told.{Told}
use Rattle.station.specs.declared.phase.Told.TheVariants.{Free, Answered}
use Rattle.station.specs.declared.station.Station.{Station}
use Rattle.station.proofs.Aa.{by_sound}
use Rattle.station.proofs.AfterSyn.{SynTells, releasing_owner, syn_tells}
use Rattle.station.proofs.Moves.{Moves, leaves_released, gives_answer}
use Rattle.station.proofs.Turned.{moves_of}

answered_row : {bid : Bool} {own : ℕ} {part : Telegram} {p q : Phase} {h : Sound} → Moves bid own part p h Answered q → (owner p ≡ true) × (q ≡ Releasing)
answered_row (gives_answer _) = (refl, refl)

syn_answers_not : {own : ℕ} {part : Telegram} {p : Phase} {l : List Event} → SynTells own part p Answered l → ⊥
syn_answers_not w = elim w [ ]

-- who hands out an answer
pub answered_owner : (s : Station) (h : Sound) → (hears s h).told ≡ Answered → (owner s.phase ≡ true) × ((hears s h).station.phase ≡ Releasing)
answered_owner s h e =
    by_sound h (λ i. absurd (syn_answers_not (rw e at (syn_tells s i)))) (λ n. answered_row (rw e at (moves_of s n)))

released_row : {bid : Bool} {own : ℕ} {part : Telegram} {q : Phase} {h : Sound} {t : Told} → Moves bid own part Releasing h t q → t ≡ Free
released_row leaves_released = refl

syn_released : {own : ℕ} {part : Telegram} {t : Told} {l : List Event} → SynTells own part Releasing t l → t ≡ Free
syn_released releasing_owner = refl

-- who releases the wire
pub released_free : (s : Station) (h : Sound) → s.phase ≡ Releasing → (hears s h).told ≡ Free
released_free s h e =
    by_sound h
    (λ i. syn_released (subst (λ (p : Phase). SynTells s.address s.part p (hears s h).told (tells (hears s h))) e (syn_tells s i)))
    (λ n. released_row (subst (λ (p : Phase). Moves (bids s) s.address s.part p h (hears s h).told (hears s h).station.phase) e (moves_of s n)))

-- an owner may still be told taken
abbrev pub may_yet : Phase → Bool
may_yet Silent = true
may_yet (Reading c p a) = true
may_yet (Sending at p a) = true
may_yet (Awaiting p a) = true
may_yet (Judging p a m k) = true
may_yet Owing = true
may_yet Releasing = false

pub not_yet_released : (p : Phase) → (p ≡ Releasing → ⊥) → may_yet p ≡ true
not_yet_released Silent n = refl
not_yet_released (Reading c p a) n = refl
not_yet_released (Sending at p a) n = refl
not_yet_released (Awaiting p a) n = refl
not_yet_released (Judging p a m k) n = refl
not_yet_released Owing n = refl
not_yet_released Releasing n = absurd (n refl)
