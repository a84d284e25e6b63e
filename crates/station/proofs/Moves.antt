-- The phases of a station, row by row: from which, on what sound, told what, into which (01, "Admission" to "Release").
-- A heard AA has a file of its own (`AfterSyn`); every other sound is here, and the laws on slots match on these rows. Assumes nothing.
use mathlib.Core.Path.{◌≡◌}
use mathlib.Core.Bool.{Bool, true, false}
use Prim.Native.Nat.{ℕ, ◌+◌}
use Rattle.wire.specs.Reader.{answer_start, read_one, start_of}
use Rattle.wire.specs.declared.part.Telegram.{Telegram}
use Rattle.wire.specs.declared.reader.Cursor.{Cursor}
use Rattle.wire.specs.declared.reader.Outcome.TheVariants.{More, Whole}
use Rattle.wire.specs.declared.reader.Place.TheVariants.{Pb}
use Rattle.wire.specs.declared.part.Part.{Part}
use Rattle.wire.specs.declared.part.Part.TheVariants.{MasterPart, AnswerPart}
use Rattle.station.specs.declared.phase.Attempt.{Attempt}
use Rattle.station.specs.declared.phase.Attempt.TheVariants.{First, Again}
use Rattle.station.specs.declared.phase.Phase.{Phase}
use Rattle.station.specs.declared.phase.Phase.TheVariants.{Silent, Reading, Sending, Awaiting, Judging, Owing, Releasing}
use Rattle.station.specs.declared.phase.Sound.{Sound}
use Rattle.station.specs.declared.phase.Sound.TheVariants.{Quiet, Symbol}
use Rattle.station.specs.declared.phase.Failure.{Failure}
use Rattle.station.specs.declared.phase.Failure.TheVariants.{Disturbed}
use Rattle.station.specs.declared.phase.Told.{Told}
use Rattle.station.specs.declared.phase.Told.TheVariants.{Silence, Owns, Taken, Failed, Free, FailedFree, Given, Answered}
use Rattle.station.specs.Station.{ack, nak}
use Rattle.station.specs.Addressed.{for_all}

-- the rows, for a station that bids or not, with its own address and the part so far
pub data Moves (bid : Bool) (own : ℕ) (part : Telegram) : Phase → Sound → Told → Phase → Type 0 where
  -- skipped: a silent station anything, a reader and a sender that waits quiet
  silent_on : {h : Sound} → Moves bid own part Silent h Silence Silent
  owing_on : {h : Sound} → Moves bid own part Owing h Silence Owing
  reading_waits : {c : Cursor} {p : Part} {a : Attempt} → Moves bid own part (Reading c p a) Quiet Silence (Reading c p a)
  awaiting_waits : {p : Part} {a : Attempt} → Moves bid own part (Awaiting p a) Quiet Silence (Awaiting p a)
  acknowledges : {p : Part} {a : Attempt} {m k : Bool} → Moves bid own part (Judging p a m k) Quiet Silence (Judging p a m true)
  -- the owner that sent SYN leaves, whatever is heard
  leaves_released : {h : Sound} → Moves bid own part Releasing h Free Silent
  -- a sender hears another symbol than its own
  leaves_disturbed : {i : ℕ} {a : Attempt} {h : Sound} → Moves bid own part (Sending i MasterPart a) h (FailedFree Disturbed) Silent
  stops_disturbed : {i : ℕ} {a : Attempt} {h : Sound} → Moves bid own part (Sending i AnswerPart a) h (Failed Disturbed) Silent
  -- who bids and hears its address owns the wire
  wins : {c : Cursor} {p : Part} {a : Attempt} {b : ℕ} → bid ≡ true → b ≡ own
      → Moves bid own part (Reading c p a) (Symbol b) Owns (Sending 1 MasterPart First)
  -- reading
  reads_on : {c : Cursor} {p : Part} {a : Attempt} {b : ℕ} → (read_one c part b).outcome ≡ More
      → Moves bid own part (Reading c p a) (Symbol b) Silence (Reading (read_one c part b).cursor p a)
  not_for_it : {c : Cursor} {p : Part} {a : Attempt} {b : ℕ} → (read_one c part b).cursor.place ≡ Pb
      → Moves bid own part (Reading c p a) (Symbol b) Silence Silent
  reads_in_vain : {c : Cursor} {a : Attempt} {b : ℕ} → Moves bid own part (Reading c MasterPart a) (Symbol b) Silence Silent
  breaks_answer : {c : Cursor} {a : Attempt} {b : ℕ} {f : Failure} → Moves bid own part (Reading c AnswerPart a) (Symbol b) (Failed f) Releasing
  gives_broadcast : {c : Cursor} {a : Attempt} {b : ℕ} → (read_one c part b).outcome ≡ Whole true → for_all (read_one c part b).part.zz ≡ true
      → Moves bid own part (Reading c MasterPart a) (Symbol b) Given Silent
  reads_whole : {c : Cursor} {p : Part} {a : Attempt} {b : ℕ} {m : Bool} → (read_one c part b).outcome ≡ Whole m
      → Moves bid own part (Reading c p a) (Symbol b) Silence (Judging p a m false)
  -- sending
  sends_on : {i : ℕ} {p : Part} {a : Attempt} {b : ℕ} → Moves bid own part (Sending i p a) (Symbol b) Silence (Sending (i + 1) p a)
  takes_broadcast : {i : ℕ} {a : Attempt} {b : ℕ} → for_all part.zz ≡ true
      → Moves bid own part (Sending i MasterPart a) (Symbol b) Taken Releasing
  sends_whole : {i : ℕ} {p : Part} {a : Attempt} {b : ℕ} → Moves bid own part (Sending i p a) (Symbol b) Silence (Awaiting p a)
  -- the acknowledgement of a part that it sent: 00, FF, any other
  awaits_answer : {a : Attempt} {b : ℕ} → b ≡ ack
      → Moves bid own part (Awaiting MasterPart a) (Symbol b) Taken (Reading answer_start AnswerPart First)
  ends_taken : {a : Attempt} {b : ℕ} → b ≡ ack → Moves bid own part (Awaiting MasterPart a) (Symbol b) Taken Releasing
  answer_taken : {a : Attempt} {b : ℕ} → b ≡ ack → Moves bid own part (Awaiting AnswerPart a) (Symbol b) Taken Silent
  sends_again : {p : Part} {b : ℕ} → b ≡ nak → Moves bid own part (Awaiting p First) (Symbol b) Silence (Sending 0 p Again)
  ends_failed : {a : Attempt} {b : ℕ} {f : Failure} → Moves bid own part (Awaiting MasterPart a) (Symbol b) (Failed f) Releasing
  answer_failed : {a : Attempt} {b : ℕ} {f : Failure} → Moves bid own part (Awaiting AnswerPart a) (Symbol b) (Failed f) Silent
  -- the acknowledgement of a part that it read: 00 with a CRC that matched, FF, any other
  gives_and_owes : {a : Attempt} {k : Bool} {b : ℕ} → b ≡ ack → Moves bid own part (Judging MasterPart a true k) (Symbol b) Given Owing
  gives : {a : Attempt} {k : Bool} {b : ℕ} → b ≡ ack → Moves bid own part (Judging MasterPart a true k) (Symbol b) Given Silent
  gives_answer : {a : Attempt} {k : Bool} {b : ℕ} → b ≡ ack → Moves bid own part (Judging AnswerPart a true k) (Symbol b) Answered Releasing
  reads_again : {p : Part} {m k : Bool} {b : ℕ} → b ≡ nak
      → Moves bid own part (Judging p First m k) (Symbol b) Silence (Reading (start_of p) p Again)
  gives_nothing : {a : Attempt} {m k : Bool} {b : ℕ} → Moves bid own part (Judging MasterPart a m k) (Symbol b) Silence Silent
  answer_lost : {a : Attempt} {m k : Bool} {b : ℕ} {f : Failure} → Moves bid own part (Judging AnswerPart a m k) (Symbol b) (Failed f) Releasing
