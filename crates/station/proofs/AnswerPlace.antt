-- An answer is read and sent from its first symbol, with attempts of its own, and no symbol of it is an acknowledgement
-- (01, "Acknowledgement", "Answer", "Errors that look right"). Assumes nothing.
use mathlib.Core.Path.{◌≡◌, subst}
use mathlib.Core.Bool.{Bool, true, false}
use Prim.Native.Nat.{ℕ}
use native.Mathlib.Omega.{arith}
use Rattle.wire.specs.Reader.{answer_start}
use Rattle.wire.specs.declared.part.Telegram.{Telegram}
use Rattle.wire.specs.declared.reader.Cursor.{Cursor}
use Rattle.wire.specs.declared.part.Part.TheVariants.{MasterPart, AnswerPart}
use Rattle.station.specs.declared.phase.Attempt.{Attempt}
use Rattle.station.specs.declared.phase.Attempt.TheVariants.{First}
use Rattle.station.specs.declared.phase.Phase.{Phase}
use Rattle.station.specs.declared.phase.Phase.TheVariants.{Reading, Sending, Awaiting, Judging, Owing, Releasing}
use Rattle.station.specs.declared.phase.Sound.{Sound}
use Rattle.station.specs.declared.phase.Failure.{Failure}
use Rattle.station.specs.declared.phase.Told.{Told}
use Rattle.station.specs.declared.phase.Told.TheVariants.{Silence, Taken, Failed}
use Rattle.station.specs.declared.station.Station.{Station}
use Rattle.station.specs.Admission.{bids}
use Rattle.station.specs.Station.{answering, ready}
use Rattle.station.specs.Hear.{hears}
use Rattle.station.proofs.Aa.{NoSyn}
use Rattle.station.proofs.Moves.{Moves, reading_waits, wins, reads_on, not_for_it, breaks_answer, reads_whole, awaits_answer, ends_taken}
use Rattle.station.proofs.Possible.{InAnswer, Fit, reading_answer, Possible, no_pb, answer_goes_on, bids_at_start}
use Rattle.station.proofs.Turned.{moves_of}

-- where an owner is whose part was taken
pub data AfterTaken : Phase → Type 0 where
  awaits : AfterTaken (Reading answer_start AnswerPart First)
  ends : AfterTaken Releasing

-- what a sound but AA makes of an owner that awaits or reads an answer: it reads on, has it whole, or is told that it is broken
pub data AnswerRead (a : Attempt) : Told → Phase → Type 0 where
  goes_on : {c : Cursor} → AnswerRead a Silence (Reading c AnswerPart a)
  is_whole : {m : Bool} → AnswerRead a Silence (Judging AnswerPart a m false)
  is_broken : {f : Failure} → AnswerRead a (Failed f) Releasing

taken_row : {bid : Bool} {own : ℕ} {part : Telegram} {h : Sound} {a : Attempt} {q : Phase} → Moves bid own part (Awaiting MasterPart a) h Taken q → AfterTaken q
taken_row (awaits_answer _) = awaits
taken_row (ends_taken _) = ends

answer_row : {bid : Bool} {own : ℕ} {part : Telegram} {h : Sound} {c : Cursor} {a : Attempt} {t : Told} {q : Phase}
    → (bid ≡ true → ⊥) → InAnswer c.place → Moves bid own part (Reading c AnswerPart a) h t q → AnswerRead a t q
answer_row n w reading_waits = goes_on
answer_row n w (wins bid _) = absurd (n bid)
answer_row n w (reads_on _) = goes_on
answer_row {part = part} n w (not_for_it {c = c} {b = b} e) = absurd (no_pb (rw e at (answer_goes_on c part b w)))
answer_row n w breaks_answer = is_broken
answer_row n w (reads_whole _) = is_whole

place_of : {c : Cursor} {a : Attempt} → Fit (Reading c AnswerPart a) → InAnswer c.place
place_of (reading_answer w) = w

module _ (s : Station) where
  row_at : (p : Phase) {h : Sound} → s.phase ≡ p → NoSyn h → Moves (bids s) s.address s.part p h (hears s h).told (hears s h).station.phase
  row_at p {h} e n =
      subst (λ (p : Phase). Moves (bids s) s.address s.part p h (hears s h).told (hears s h).station.phase) e (moves_of s n)

  -- the owner reads it from its first symbol on, at the first attempt, whichever attempt of its own part was taken
  pub answer_read_anew : {h : Sound} {a : Attempt} → NoSyn h → s.phase ≡ Awaiting MasterPart a → (hears s h).told ≡ Taken
      → AfterTaken (hears s h).station.phase
  answer_read_anew {h} {a} n e t = taken_row (rw t at (row_at (Awaiting MasterPart a) {h = h} e n))

  -- the slave sends it from its first symbol on, at the first attempt
  pub answer_sent_anew : s.phase ≡ Owing → (ready s).phase ≡ Sending 0 AnswerPart First
  unfolding ready answering
  answer_sent_anew e = rw e

  -- 00 and FF are symbols of the answer like any other
  pub answer_only_read : {h : Sound} {c : Cursor} {a : Attempt} → Possible s → NoSyn h → s.phase ≡ Reading c AnswerPart a
      → AnswerRead a (hears s h).told (hears s h).station.phase
  answer_only_read {h} {c} {a} w n e =
      answer_row (λ b. let q = bids_at_start s w b in let z : ◌≡◌ {A = ℕ} 0 1 = cc q in omega arith)
      (place_of (subst Fit e w.fit)) (row_at (Reading c AnswerPart a) {h = h} e n)
