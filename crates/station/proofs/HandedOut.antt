-- The scorched bale: what a station hands out it has read whole with a matching CRC, on the first reading or on the repeat
-- (01, "Acknowledgement", "Broadcast", "Errors that look right"). Assumes nothing.
use mathlib.Core.Path.{◌≡◌, refl}
use mathlib.Core.Bool.{Bool, true}
use Prim.Native.Nat.{ℕ}
use native.Mathlib.Omega.{arith}
use Rattle.wire.specs.Reader.{read_one}
use Rattle.wire.specs.declared.reader.Cursor.{Cursor}
use Rattle.wire.specs.declared.reader.Outcome.TheVariants.{Whole}
use Rattle.wire.specs.declared.part.Part.{Part}
use Rattle.wire.specs.declared.part.Part.TheVariants.{MasterPart, AnswerPart}
use Rattle.station.specs.declared.phase.Attempt.{Attempt}
use Rattle.station.specs.declared.phase.Phase.{Phase}
use Rattle.station.specs.declared.phase.Phase.TheVariants.{Reading, Judging}
use Rattle.station.specs.declared.phase.Sound.{Sound}
use Rattle.station.specs.declared.phase.Sound.TheVariants.{Quiet, Symbol}
use Rattle.station.specs.declared.phase.Told.{Told}
use Rattle.station.specs.declared.phase.Told.TheVariants.{Given, Answered}
use Rattle.station.specs.declared.station.Station.{Station}
use Rattle.station.specs.Events.{Event}
use mathlib.Core.List.{List}
use Rattle.station.specs.Admission.{bids}
use Rattle.station.specs.Station.{ack}
use Rattle.station.specs.Addressed.{for_all}
use Rattle.station.specs.Hear.{hears}
use Rattle.station.proofs.AfterSyn.{SynTells, syn_tells, after_syn}
use Rattle.station.proofs.Moves.{Moves, gives_broadcast, gives_and_owes, gives, gives_answer, acknowledges, reads_whole}
use Rattle.station.proofs.Aa.{by_sound}
use Rattle.station.proofs.Turned.{moves_of}

-- how a master part comes to be handed out: acknowledged by 00 after a CRC that matched, or a broadcast whose CRC matches on this symbol
pub data GivenBy (s : Station) : Sound → Type 0 where
  acknowledged : {a : Attempt} {k : Bool} {b : ℕ} → s.phase ≡ Judging MasterPart a true k → b ≡ ack → GivenBy s (Symbol b)
  broadcast : {c : Cursor} {a : Attempt} {b : ℕ} → s.phase ≡ Reading c MasterPart a
      → (read_one c s.part b).outcome ≡ Whole true → for_all (read_one c s.part b).part.zz ≡ true → GivenBy s (Symbol b)

-- how an answer does: acknowledged by 00 after a CRC that matched
pub data AnsweredBy (s : Station) : Sound → Type 0 where
  acknowledged_answer : {a : Attempt} {k : Bool} {b : ℕ} → s.phase ≡ Judging AnswerPart a true k → b ≡ ack → AnsweredBy s (Symbol b)

-- how a station comes to judge a part whose CRC matched: it did so and heard quiet, or read the part whole, on the attempt it is at
pub data ReadBy (s : Station) (p : Part) (a : Attempt) : Sound → Type 0 where
  was_judging : {k : Bool} → s.phase ≡ Judging p a true k → ReadBy s p a Quiet
  was_reading : {c : Cursor} {b : ℕ} → s.phase ≡ Reading c p a → (read_one c s.part b).outcome ≡ Whole true → ReadBy s p a (Symbol b)

module _ (s : Station) where
  given_row : {p q : Phase} {h : Sound} → s.phase ≡ p → Moves (bids s) s.address s.part p h Given q → GivenBy s h
  given_row e (gives_broadcast o f) = broadcast e o f
  given_row e (gives_and_owes i) = acknowledged e i
  given_row e (gives i) = acknowledged e i

  answered_row : {p q : Phase} {h : Sound} → s.phase ≡ p → Moves (bids s) s.address s.part p h Answered q → AnsweredBy s h
  answered_row e (gives_answer i) = acknowledged_answer e i

  read_row : {p : Phase} {t : Told} {h : Sound} {r : Part} {a : Attempt} {k : Bool} → s.phase ≡ p
      → Moves (bids s) s.address s.part p h t (Judging r a true k) → ReadBy s r a h
  read_row e acknowledges = was_judging e
  read_row e (reads_whole o) = was_reading e o

  syn_gives_not : {p : Phase} {l : List Event} → SynTells s.address s.part p Given l → ⊥
  syn_gives_not w = elim w [ ]

  syn_answers_not : {p : Phase} {l : List Event} → SynTells s.address s.part p Answered l → ⊥
  syn_answers_not w = elim w [ ]

  -- told given only so
  pub given_only_if : {h : Sound} → (hears s h).told ≡ Given → GivenBy s h
  given_only_if {h} e =
      by_sound h (λ i. absurd (syn_gives_not (rw e at (syn_tells s i)))) (λ n. given_row refl (rw e at (moves_of s n)))

  -- told of an answer only so
  pub answered_only_if : {h : Sound} → (hears s h).told ≡ Answered → AnsweredBy s h
  answered_only_if {h} e =
      by_sound h (λ i. absurd (syn_answers_not (rw e at (syn_tells s i)))) (λ n. answered_row refl (rw e at (moves_of s n)))

  -- a part judged to match was read whole with a CRC that matched, on this very attempt
  pub matched_was_read : {h : Sound} {p : Part} {a : Attempt} {k : Bool} → (hears s h).station.phase ≡ Judging p a true k → ReadBy s p a h
  matched_was_read {h} {p} {a} {k} e =
      by_sound h (λ i. let z : ◌≡◌ {A = ℕ} 0 1 = cc (after_syn s i).phase in absurd (omega arith)) (λ n. read_row refl (rw e at (moves_of s n)))
