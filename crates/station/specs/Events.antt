-- What a station is told, in 01's words, numbers and values (01, "Bench program", Lines). Assumes nothing.
use Rattle.std.specs.Prelude.{List, [], ◌∷◌, ℕ, length}
use Rattle.std.proofs.Math.Option.{Option, none, some}
use Rattle.wire.specs.Form.{bytes_of}
use Rattle.wire.specs.declared.pair.WrongPair.{WrongPair}
use Rattle.wire.specs.declared.part.Telegram.{Telegram}
use Rattle.station.specs.declared.phase.Failure.{Failure}
use Rattle.station.specs.declared.phase.Failure.TheVariants.{Disturbed, WrongAck, TwiceNak, SynHeard, PairBroken, OverLong}
use Rattle.station.specs.declared.phase.Told.{Told}
use Rattle.station.specs.declared.phase.Told.TheVariants.{Silence, Owns, Taken, Failed, Free, FailedFree, Given, Answered}
use Rattle.station.specs.declared.station.Turn.{Turn}

-- the six words, in the order in which 01 names them
pub data Word : Type 0 where
  owns taken failed free given answer : Word

-- one line of the bench: the station by the address it was attached with, the word, and the line's other values
pub record Event : Type 0 where
  pub station : ℕ
  pub word : Word
  pub values : List ℕ
  -- not printed: QQ and ZZ of the telegram that a free line lets go
  pub leaving : List ℕ
  -- not printed: of a broken pair where its A9 stands and the symbol after it (02, E6)
  pub pair : Option WrongPair

-- 1 heard anything but its own symbol; 2 another symbol than 00, FF or AA as acknowledgement, or 00 after a wrong CRC; 3 FF twice;
-- 4 AA; 5 a broken pair in an answer, or an NN above 16 there
abbrev pub number_of : Failure → ℕ
number_of Disturbed = 1
number_of WrongAck = 2
number_of TwiceNak = 3
number_of SynHeard = 4
number_of (PairBroken x) = 5
number_of OverLong = 5

-- failed 5 for a broken pair carries both its numbers, any other failure none
abbrev pub pair_of : Failure → Option WrongPair
pair_of Disturbed = none
pair_of WrongAck = none
pair_of TwiceNak = none
pair_of SynHeard = none
pair_of (PairBroken x) = some x
pair_of OverLong = none

abbrev pub event : ℕ → Word → List ℕ → Event
event a w vs = record { station = a; word = w; values = vs; leaving = []; pair = none }

abbrev pub failed_event : ℕ → Failure → Event
failed_event a f = record { station = a; word = failed; values = number_of f ∷ []; leaving = []; pair = pair_of f }

abbrev pub free_event : ℕ → Telegram → Event
free_event a t = record { station = a; word = free; values = []; leaving = t.qq ∷ t.zz ∷ []; pair = none }

-- the lines of one station in one slot, in the order in which 01 names the words
abbrev pub events_as : Told → ℕ → Telegram → List Event
events_as Silence a t = []
events_as Owns a t = event a owns [] ∷ []
events_as Taken a t = event a taken [] ∷ []
events_as (Failed f) a t = failed_event a f ∷ []
events_as Free a t = free_event a t ∷ []
events_as (FailedFree f) a t = failed_event a f ∷ free_event a t ∷ []
events_as Given a t = event a given (t.qq ∷ t.pb ∷ t.sb ∷ length (bytes_of t.load) ∷ bytes_of t.load) ∷ []
events_as Answered a t = event a answer (t.zz ∷ length (bytes_of t.load) ∷ bytes_of t.load) ∷ []

-- what a turn tells: the part that it speaks of is the station's own
unfoldable pub tells : Turn → List Event
tells t = events_as t.told t.station.address t.station.part
