-- What a station makes of what is heard: phase and sound to what it is told and its next phase (01, "Sending" to "Release").
-- The table stands at the end, its entries before it. Assumes nothing.
use Rattle.std.specs.Prelude.{Bool, true, false, cond, ℕ, ◌+◌, eqb, ltb}
use Rattle.wire.specs.Reader.{answer_start, start_of, read_one}
use Rattle.wire.specs.declared.part.Part.{Part}
use Rattle.wire.specs.declared.part.Part.TheVariants.{MasterPart, AnswerPart}
use Rattle.wire.specs.declared.reader.Cursor.{Cursor}
use Rattle.wire.specs.declared.reader.Outcome.{Outcome}
use Rattle.wire.specs.declared.reader.Outcome.TheVariants.{More, Cut, NoMaster, Unusable, TooLong, BrokenPair, Whole}
use Rattle.wire.specs.declared.reader.Place.{Place}
use Rattle.wire.specs.declared.reader.Place.TheVariants.{Qq, Zz, Pb, Sb, Nn, Data, Crc}
use Rattle.wire.specs.declared.reader.Step.{Step}
use Rattle.station.specs.declared.phase.Attempt.{Attempt}
use Rattle.station.specs.declared.phase.Attempt.TheVariants.{First, Again}
use Rattle.station.specs.declared.phase.Phase.{Phase}
use Rattle.station.specs.declared.phase.Phase.TheVariants.{Silent, Reading, Sending, Awaiting, Judging, Owing, Releasing}
use Rattle.station.specs.declared.phase.Sound.{Sound}
use Rattle.station.specs.declared.phase.Sound.TheVariants.{Quiet, Symbol}
use Rattle.station.specs.declared.phase.Failure.{Failure}
use Rattle.station.specs.declared.phase.Failure.TheVariants.{Disturbed, WrongAck, TwiceNak, SynHeard, PairBroken, OverLong}
use Rattle.station.specs.declared.phase.Told.TheVariants.{Silence, Taken, Failed, Free, FailedFree, Given, Answered}
use Rattle.station.specs.declared.station.Station.{Station}
use Rattle.station.specs.declared.station.Turn.{Turn}
use Rattle.station.specs.Addressed.{for_all, answered, is_own}
use Rattle.station.specs.Admission.{owned, withdrawn}
use Rattle.station.specs.Outbox.{dropped}
use Rattle.station.specs.Station.{ack, nak, due}
use Rattle.station.specs.Turn.{goes, with_outbox, with_part}

-- ---- release

-- every way in which an owner leaves the wire: its telegram leaves the outbox, taken or not
unfoldable pub left : Station → Station
left s = with_outbox s Silent (dropped s.outbox)

-- the owner sent AA: it leaves, whatever is heard
unfoldable pub released : Station → Turn
released s = record { station = left s; told = Free }

-- ---- failed: after 1 and 4 an owner leaves in that slot, after 2, 3 and 5 it sends AA in the next

abbrev pub owner_fails : Failure → Station → Turn
owner_fails Disturbed s = record { station = left s; told = FailedFree Disturbed }
owner_fails WrongAck s = goes s Releasing (Failed WrongAck)
owner_fails TwiceNak s = goes s Releasing (Failed TwiceNak)
owner_fails SynHeard s = record { station = left s; told = FailedFree SynHeard }
owner_fails (PairBroken x) s = goes s Releasing (Failed (PairBroken x))
owner_fails OverLong s = goes s Releasing (Failed OverLong)

-- the sender of a master part is the owner, of an answer a slave, which falls silent
abbrev pub sender_fails : Part → Failure → Station → Turn
sender_fails MasterPart f s = owner_fails f s
sender_fails AnswerPart f s = goes s Silent (Failed f)

-- the reader of an answer is the owner, of a master part any other station, which is not told and falls silent
abbrev pub reader_fails : Part → Failure → Station → Turn
reader_fails MasterPart f s = goes s Silent Silence
reader_fails AnswerPart f s = owner_fails f s

-- ---- sending: one symbol a slot, and it must be heard

-- the part is out: a broadcast is taken, any other part awaits its acknowledgement
abbrev pub sent_whole_of : Part → Station → Attempt → Turn
sent_whole_of MasterPart s a = cond (for_all s.part.zz) (goes s Releasing Taken) (goes s (Awaiting MasterPart a) Silence)
sent_whole_of AnswerPart s a = goes s (Awaiting AnswerPart a) Silence

unfoldable pub sent_whole : Station → Part → Attempt → Turn
sent_whole s p a = sent_whole_of p s a

-- its symbol was heard: the next one, or the part is out
unfoldable pub sent : Station → ℕ → Part → Attempt → Turn
sent s at p a = cond (ltb (at + 1) s.out.len) (goes s (Sending (at + 1) p a) Silence) (sent_whole s p a)

abbrev pub hear_own_as : Sound → Station → ℕ → ℕ → Part → Attempt → Turn
hear_own_as Quiet s symbol at p a = sender_fails p Disturbed s
hear_own_as (Symbol own) s symbol at p a = cond (eqb own symbol) (sent s at p a) (sender_fails p Disturbed s)

unfoldable pub hear_own : Station → ℕ → ℕ → Part → Attempt → Turn
hear_own s symbol at p a = hear_own_as (due s at) s symbol at p a

-- ---- reading: the owner reads an answer, any other station a master part

-- the part has come to its end: a broadcast is handed out at once if the CRC matched, any other part is acknowledged
abbrev pub whole_of : Part → Station → Attempt → Bool → Turn
whole_of MasterPart s a matched =
    cond (for_all s.part.zz)
    (cond matched (goes s Silent Given) (goes s Silent Silence))
    (goes s (Judging MasterPart a matched false) Silence)
whole_of AnswerPart s a matched = goes s (Judging AnswerPart a matched false) Silence

unfoldable pub whole : Station → Part → Attempt → Bool → Turn
whole s p a matched = whole_of p s a matched

-- ZZ is read: it goes on where that is its own or FE, else it is silent
unfoldable pub addressed : Station → Phase → Turn
addressed s on =
    cond (is_own s s.part.zz) (goes s on Silence) (cond (for_all s.part.zz) (goes s on Silence) (goes s Silent Silence))

-- more to come; where PB comes next, ZZ has just been read
abbrev pub read_on_at : Place → Station → Phase → Turn
read_on_at Qq s on = goes s on Silence
read_on_at Zz s on = goes s on Silence
read_on_at Pb s on = addressed s on
read_on_at Sb s on = goes s on Silence
read_on_at Nn s on = goes s on Silence
read_on_at (Data read) s on = goes s on Silence
read_on_at Crc s on = goes s on Silence

unfoldable pub read_on : Station → Cursor → Part → Attempt → Turn
read_on s c p a = read_on_at c.place s (Reading c p a)

-- by the reader's outcome: an NN above 16 and a broken pair get no acknowledgement (02, E3), and in an answer they are failed 5, which
-- for a broken pair says which it was (02, E6). (An owner comes to none of the last three: an answer has neither QQ nor ZZ, PB, SB,
-- and AA is told apart before it is read.)
abbrev pub reads_as : Outcome → Station → Cursor → Part → Attempt → Turn
reads_as More s c p a = read_on s c p a
reads_as (Whole matched) s c p a = whole s p a matched
reads_as TooLong s c p a = reader_fails p OverLong s
reads_as (BrokenPair x) s c p a = reader_fails p (PairBroken x) s
reads_as NoMaster s c p a = reader_fails p OverLong s
reads_as Unusable s c p a = reader_fails p OverLong s
reads_as Cut s c p a = reader_fails p OverLong s

abbrev pub reads_step : Step → Station → Part → Attempt → Turn
reads_step t s p a = reads_as t.outcome (with_part s t.part) t.cursor p a

-- one symbol more
unfoldable pub reads : Station → ℕ → Cursor → Part → Attempt → Turn
reads s symbol c p a = reads_step (read_one c s.part symbol) s p a

-- who sent its QQ owns the wire or withdraws, and reads the symbol as QQ like any other station
unfoldable pub hear_bid : Station → ℕ → Cursor → Part → Attempt → Turn
hear_bid s symbol c p a = cond (eqb symbol s.address) (owned s) (reads (withdrawn s symbol) symbol c p a)

unfoldable pub hear_reading : Bool → Station → ℕ → Cursor → Part → Attempt → Turn
hear_reading bid s symbol c p a = cond bid (hear_bid s symbol c p a) (reads s symbol c p a)

-- ---- acknowledgement, at the sender: 00, FF, or any other symbol, which is failed 2

-- 00: taken; the owner awaits the answer of a slave address, from its first attempt
abbrev pub taken_of : Part → Station → Turn
taken_of MasterPart s =
    cond (answered s.part.zz) (goes s (Reading answer_start AnswerPart First) Taken) (goes s Releasing Taken)
taken_of AnswerPart s = goes s Silent Taken

unfoldable pub taken : Station → Part → Turn
taken s p = taken_of p s

-- FF the first time: the part is sent again from its first symbol; a second time: failed 3
abbrev pub nak_heard : Attempt → Station → Part → Turn
nak_heard First s p = goes s (Sending 0 p Again) Silence
nak_heard Again s p = sender_fails p TwiceNak s

unfoldable pub hear_reply : Station → ℕ → Part → Attempt → Turn
hear_reply s symbol p a =
    cond (eqb symbol ack) (taken s p) (cond (eqb symbol nak) (nak_heard a s p) (sender_fails p WrongAck s))

-- ---- acknowledgement, at the reader: likewise; for the owner 00 after a wrong CRC is failed 2

-- a station hands out the master part, and a slave then owes its answer; the owner hands out the answer, and then releases
abbrev pub handed_out_of : Part → Station → Turn
handed_out_of MasterPart s = cond (answered s.part.zz) (goes s Owing Given) (goes s Silent Given)
handed_out_of AnswerPart s = goes s Releasing Answered

unfoldable pub handed_out : Station → Part → Turn
handed_out s p = handed_out_of p s

-- 00: handed out if the CRC matched
unfoldable pub judged_taken : Station → Part → Bool → Turn
judged_taken s p matched = cond matched (handed_out s p) (reader_fails p WrongAck s)

-- FF the first time: the part is read again from its first symbol; a second time: failed 3
abbrev pub read_again : Attempt → Station → Part → Turn
read_again First s p = goes s (Reading (start_of p) p Again) Silence
read_again Again s p = reader_fails p TwiceNak s

unfoldable pub judges : Station → ℕ → Part → Attempt → Bool → Turn
judges s symbol p a matched =
    cond (eqb symbol ack) (judged_taken s p matched)
    (cond (eqb symbol nak) (read_again a s p) (reader_fails p WrongAck s))

-- ---- the table

-- what is heard
pub data Heard : Type 0 where
  heard_nothing : Heard
  heard_aa : Heard
  heard_other : ℕ → Heard

-- `bid`: it sent its QQ in this slot. An acknowledgement is sent once: after the slot it has been, whatever was heard. (Owing does
-- not occur: a slave that owes its answer is made ready as the slot begins.)
abbrev pub row : Phase → Heard → Bool → Station → Turn
row Silent h bid s = goes s Silent Silence
row (Reading c p a) heard_nothing bid s = goes s (Reading c p a) Silence
row (Reading c p a) heard_aa bid s = reader_fails p SynHeard s
row (Reading c p a) (heard_other x) bid s = hear_reading bid s x c p a
row (Sending at p a) heard_nothing bid s = sender_fails p Disturbed s
row (Sending at p a) heard_aa bid s = sender_fails p Disturbed s
row (Sending at p a) (heard_other x) bid s = hear_own s x at p a
row (Awaiting p a) heard_nothing bid s = goes s (Awaiting p a) Silence
row (Awaiting p a) heard_aa bid s = sender_fails p SynHeard s
row (Awaiting p a) (heard_other x) bid s = hear_reply s x p a
row (Judging p a matched k) heard_nothing bid s = goes s (Judging p a matched true) Silence
row (Judging p a matched k) heard_aa bid s = reader_fails p SynHeard s
row (Judging p a matched k) (heard_other x) bid s = judges s x p a matched
row Owing h bid s = goes s Owing Silence
row Releasing h bid s = released s
