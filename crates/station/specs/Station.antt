-- A station: fresh, made ready for a slot, and what it says in it. Assumes nothing.
use Rattle.std.specs.Prelude.{Bool, false, cond, [], ℕ, ltb, get_or}
use Rattle.wire.specs.Form.{room, holding, answer_form}
use Rattle.wire.specs.declared.form.Wire.{Wire}
use Rattle.wire.specs.declared.part.Part.TheVariants.{AnswerPart}
use Rattle.station.specs.declared.phase.Attempt.TheVariants.{First}
use Rattle.station.specs.declared.phase.Phase.{Phase}
use Rattle.station.specs.declared.phase.Phase.TheVariants.{Silent, Reading, Sending, Awaiting, Judging, Owing, Releasing}
use Rattle.station.specs.declared.phase.Since.TheVariants.{ManyOrNoSyn}
use Rattle.station.specs.declared.phase.Sound.{Sound}
use Rattle.station.specs.declared.phase.Sound.TheVariants.{Quiet, Symbol}
use Rattle.station.specs.declared.station.Station.{Station}
use Rattle.station.specs.Admission.{say_bid}
use Rattle.station.specs.Outbox.{none_held, oldest_of}
use Rattle.station.specs.Replies.{no_entries, answer_for}
use Rattle.station.specs.Turn.{about}

-- SYN, and the two acknowledgements
abbrev pub syn : ℕ
syn = 0xAA

abbrev pub ack : ℕ
ack = 0x00

abbrev pub nak : ℕ
nak = 0xFF

-- before the first AA it is silent
unfoldable pub fresh : ℕ → Bool → Station
fresh address master =
    record {
      address = address;
      master = master;
      admitted = false;
      marked = false;
      since = ManyOrNoSyn;
      phase = Silent;
      part = oldest_of none_held;
      out = holding [];
      outbox = none_held;
      replies = no_entries;
    }

-- the station with a part to send, in a phase
abbrev pub with_out : Station → Phase → Wire → Station
with_out s p w = about s p s.part w

-- a slave takes its answer from its reply book as it stands now, for the PB and SB that it handed out
unfoldable pub answering : Station → Station
answering s =
    with_out s (Sending 0 AnswerPart First) (holding (answer_form (answer_for s.replies s.part.pb s.part.sb)))

-- as a slot begins, a slave that owes an answer takes it
abbrev pub ready_at : Phase → Station → Station
ready_at Silent s = s
ready_at (Reading c p a) s = s
ready_at (Sending at p a) s = s
ready_at (Awaiting p a) s = s
ready_at (Judging p a m k) s = s
ready_at Owing s = answering s
ready_at Releasing s = s

unfoldable pub ready : Station → Station
ready s = ready_at s.phase s

-- the symbol at a place of the part that it sends
unfoldable pub due : Station → ℕ → Sound
due s at = cond (ltb at room) (cond (ltb at s.out.len) (Symbol (get_or s.out.bytes at 0)) Quiet) Quiet

-- 00 if the CRC matched, else FF: once for each reading
unfoldable pub acknowledgement : Bool → Bool → Sound
acknowledgement matched acknowledged = cond acknowledged Quiet (cond matched (Symbol ack) (Symbol nak))

-- what it says in a slot
abbrev pub says_at : Phase → Station → Sound
says_at Silent s = Quiet
says_at (Reading c p a) s = say_bid s
says_at (Sending at p a) s = due s at
says_at (Awaiting p a) s = Quiet
says_at (Judging p a matched acknowledged) s = acknowledgement matched acknowledged
says_at Owing s = Quiet
says_at Releasing s = Symbol syn

unfoldable pub says : Station → Sound
says s = says_at s.phase s
