-- What is told in a slot, as lines by name, and what the types of a bus say of them (01, "Bench program", Lines). Assumes nothing.
use Rattle.std.specs.Prelude.{◌≡◌, List, [], ◌∷◌, ℕ, ◌<◌, ◌^◌, length}
use Rattle.laws.proofs.FirstIs.{Every}
use Rattle.wire.specs.Form.{bytes_of}
use Rattle.wire.specs.declared.part.Telegram.{Telegram}
use Rattle.station.specs.Events.{Word, Event, number_of}
use Rattle.station.specs.Events as word
use Rattle.station.specs.declared.phase.Told.{Told}
use Rattle.station.specs.declared.phase.Told.TheVariants.{Silence, Owns, Taken, Failed, Free, FailedFree, Given, Answered}
use Rattle.station.specs.declared.station.Turn.{Turn}
use Rattle.bus.specs.Bus.{attached_turns}
use Rattle.bus.specs.Events as bus
use Rattle.bus.specs.declared.bus.Bus.{Bus}
use Rattle.promises.specs.Calls.{AllBytes}
use Rattle.printed.specs.ReadLine.{Says, owns, taken, free, failed, given, answer, Line, told, named}

-- the values that a line has; a free line has the elapsed slots (QQ and ZZ of it are not printed)
abbrev pub printed_values : Word → List ℕ → ℕ → List ℕ
printed_values word.owns vs elapsed = vs
printed_values word.taken vs elapsed = vs
printed_values word.failed vs elapsed = vs
printed_values word.free vs elapsed = elapsed ∷ []
printed_values word.given vs elapsed = vs
printed_values word.answer vs elapsed = vs

-- the line of an event
abbrev pub line_of : bus.Line → Line
line_of l = told l.time.slot l.event.station (named l.event.word (printed_values l.event.word l.event.values l.time.elapsed))

-- what a station is told, with the elapsed slots and the part that it speaks of
abbrev pub says_by : Told → ℕ → Telegram → List Says
says_by Silence elapsed t = []
says_by Owns elapsed t = owns ∷ []
says_by Taken elapsed t = taken ∷ []
says_by (Failed f) elapsed t = failed (number_of f) ∷ []
says_by Free elapsed t = free elapsed ∷ []
says_by (FailedFree f) elapsed t = failed (number_of f) ∷ free elapsed ∷ []
says_by Given elapsed t = given t.qq t.pb t.sb (length (bytes_of t.load)) (bytes_of t.load) ∷ []
says_by Answered elapsed t = answer t.zz (length (bytes_of t.load)) (bytes_of t.load) ∷ []

-- ---- what the types of a bus say: addresses, heads and data are bytes, a part has an array of 16 of them, the slot number has 32 bits

pub record ByteTelegram (t : Telegram) : Type 0 where
  pub qq : t.qq < 256
  pub zz : t.zz < 256
  pub pb : t.pb < 256
  pub sb : t.sb < 256
  pub bytes : AllBytes t.load.bytes
  pub array : length t.load.bytes ≡ 16

pub record ByteTurn (t : Turn) : Type 0 where
  pub address : t.station.address < 256
  pub part : ByteTelegram t.station.part

pub record ByteBus (b : Bus) : Type 0 where
  pub slot : b.slot < 2 ^ 32
  pub turns : Every ByteTurn (attached_turns b)

-- so of an event the station is a byte, failed has one number, and all other values are bytes

abbrev pub OneNumber : List ℕ → Type 0
OneNumber [] = ⊥
OneNumber (n ∷ []) = n < 2 ^ 32
OneNumber (n ∷ m ∷ ms) = ⊥

abbrev pub Values : Word → List ℕ → Type 0
Values word.owns vs = AllBytes vs
Values word.taken vs = AllBytes vs
Values word.failed vs = OneNumber vs
Values word.free vs = AllBytes vs
Values word.given vs = AllBytes vs
Values word.answer vs = AllBytes vs

pub record ByteEvent (e : Event) : Type 0 where
  pub station_byte : e.station < 256
  pub values : Values e.word e.values
