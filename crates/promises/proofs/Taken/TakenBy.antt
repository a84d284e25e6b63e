-- How a station comes to be told Taken: the last symbol of its broadcast is heard, or 00 behind a part that it has sent
-- (01, "Acknowledgement", "Broadcast"). Assumes nothing.
use mathlib.Core.Path.{◌≡◌, refl, sym, ap, ◌∙◌}
use mathlib.Core.Bool.{Bool, true, false, true≢false}
use Prim.Native.Nat.{ℕ}
use Rattle.wire.specs.Symbol.{kind_of}
use Rattle.wire.specs.declared.symbol.Kind.TheVariants.{Syn}
use Rattle.station.specs.Addressed.{for_all}
use Rattle.station.specs.Admission.{bids}
use Rattle.station.specs.Station.{ack}
use Rattle.station.proofs.AfterSyn.{told_by_syn, syn_told}
use Rattle.station.specs.Hear.{hears}
use Rattle.wire.specs.declared.part.Part.{Part}
use Rattle.wire.specs.declared.part.Part.TheVariants.{MasterPart, AnswerPart}
use Rattle.station.specs.declared.phase.Attempt.{Attempt}
use Rattle.station.specs.declared.phase.Phase.{Phase}
use Rattle.station.specs.declared.phase.Phase.TheVariants.{Silent, Reading, Sending, Awaiting, Judging, Owing, Releasing}
use Rattle.station.specs.declared.phase.Sound.{Sound}
use Rattle.station.specs.declared.phase.Sound.TheVariants.{Quiet, Symbol}
use Rattle.station.specs.declared.phase.Told.{Told}
use Rattle.station.specs.declared.phase.Told.TheVariants.{Silence, Owns, Taken, Failed, Free, FailedFree, Given, Answered}
use Rattle.station.specs.declared.station.Station.{Station}
use Rattle.station.proofs.Aa.{NoSyn, quiet, symbol, by_sound}
use Rattle.station.proofs.Moves.{Moves, takes_broadcast, awaits_answer, ends_taken, answer_taken}
use Rattle.station.proofs.Turned.{moves_of}

abbrev pub is_taken : Told → Bool
is_taken Silence = false
is_taken Owns = false
is_taken Taken = true
is_taken (Failed f) = false
is_taken Free = false
is_taken (FailedFree f) = false
is_taken Given = false
is_taken Answered = false

syn_takes_not : (p : Phase) → is_taken (told_by_syn p) ≡ false
syn_takes_not Silent = refl
syn_takes_not (Reading c MasterPart a) = refl
syn_takes_not (Reading c AnswerPart a) = refl
syn_takes_not (Sending i MasterPart a) = refl
syn_takes_not (Sending i AnswerPart a) = refl
syn_takes_not (Awaiting MasterPart a) = refl
syn_takes_not (Awaiting AnswerPart a) = refl
syn_takes_not (Judging MasterPart a m k) = refl
syn_takes_not (Judging AnswerPart a m k) = refl
syn_takes_not Owing = refl
syn_takes_not Releasing = refl

pub data TakenBy (s : Station) : Sound → Type 0 where
  last_sent : {k : ℕ} {n : Attempt} {b : ℕ} → (kind_of b ≡ Syn → ⊥) → s.phase ≡ Sending k MasterPart n → for_all s.part.zz ≡ true → TakenBy s (Symbol b)
  acknowledged : {p : Part} {n : Attempt} {b : ℕ} → (kind_of b ≡ Syn → ⊥) → s.phase ≡ Awaiting p n → b ≡ ack → TakenBy s (Symbol b)

taken_row : (s : Station) {p q : Phase} {b : ℕ} → (kind_of b ≡ Syn → ⊥) → s.phase ≡ p → Moves (bids s) s.address s.part p (Symbol b) Taken q
    → TakenBy s (Symbol b)
taken_row s n e (takes_broadcast f) = last_sent n e f
taken_row s n e (awaits_answer f) = acknowledged n e f
taken_row s n e (ends_taken f) = acknowledged n e f
taken_row s n e (answer_taken f) = acknowledged n e f

quiet_row : (s : Station) {p q : Phase} → Moves (bids s) s.address s.part p Quiet Taken q → ⊥
quiet_row s m = elim m [ ]

pub taken_only_if : (s : Station) {h : Sound} → (hears s h).told ≡ Taken → TakenBy s h
taken_only_if s {h} e =
    by_sound h (λ i. absurd (true≢false (sym (ap is_taken e) ∙ ap is_taken (syn_told s i) ∙ syn_takes_not s.phase))) (by_row e)
  where
    by_row : {h : Sound} → (hears s h).told ≡ Taken → NoSyn h → TakenBy s h
    by_row e quiet = absurd (quiet_row s (rw e at (moves_of s quiet)))
    by_row e (symbol n) = taken_row s n refl (rw e at (moves_of s (symbol n)))
