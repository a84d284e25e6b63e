-- Every record is a tag, a length in two bytes and as many bytes as that says; none has more than 28 bytes, and there are some of 28. Assumes nothing.
use mathlib.Core.Path.{◌≡◌, refl}
use mathlib.Core.Bool.{false}
use mathlib.Core.List.{List, [], ◌∷◌, map}
use mathlib.Core.Option.{Option, none, some}
use Prim.Native.Nat.{ℕ, ◌+◌, ◌*◌, ◌/◌, ◌%◌, ◌≤◌}
use native.Mathlib.Omega.{arith}
use lib.ListN.{length, length-take, replicate}
use Rattle.laws.proofs.FirstIs.{Every, next}
use Rattle.laws.proofs.FirstIs as every
use Rattle.station.specs.Events.{owns, taken, given, answer, Event, event, failed_event, free_event, pair_of, events_as, tells}
use Rattle.station.specs.Station.{fresh}
use Rattle.station.specs.Turn.{about}
use Rattle.station.specs.declared.phase.Phase.TheVariants.{Silent}
use Rattle.station.specs.declared.phase.Told.{Told}
use Rattle.station.specs.declared.phase.Told.TheVariants.{Silence, Owns, Taken, Failed, Free, FailedFree, Given, Answered}
use Rattle.station.specs.declared.station.Turn.{Turn}
use Rattle.wire.specs.Form.{holding}
use Rattle.wire.specs.declared.pair.WrongPair.{WrongPair}
use Rattle.wire.specs.declared.part.Telegram.{Telegram}
use Rattle.bus.specs.Events.{Line, line, events}
use Rattle.bus.specs.Time.{time_of}
use Rattle.bus.specs.declared.bus.Bus.{Bus}
use Rattle.bus.specs.declared.time.Time.{Time}
use Rattle.buslog.specs.Record.{tag_of, four_bytes, pair_bytes, others_of, value_of, record_of, given_values, answer_values}
use Rattle.buslog.specs.Roomy.{Roomy, RoomyTurns}
use Rattle.buslog.specs.Roomy as roomy
use Rattle.buslog.proofs.EachTold.{EachOf, tellings_each}

-- ---- the form

-- tag, high and low byte of the length, and the value
pub record Formed (r : List ℕ) : Type 0 where
  pub tag : ℕ
  pub high : ℕ
  pub low : ℕ
  pub value : List ℕ
  pub is : r ≡ tag ∷ high ∷ low ∷ value
  pub counted : high * 256 + low ≡ length value

-- every record is well formed
pub formed : (l : Line) → Formed (record_of l)
unfolding record_of
formed l =
    record {
      tag = tag_of l.event.word;
      high = length (value_of l) / 256;
      low = length (value_of l) % 256;
      value = value_of l;
      is = refl;
      counted = omega arith;
    }

-- 5 bytes of slot and station, and the others
pub length_value : (l : Line) → length (value_of l) ≡ 5 + length (others_of l)
unfolding value_of four_bytes
length_value l = omega arith

-- with the tag and the length 3 bytes more
pub length_record : (l : Line) → length (record_of l) ≡ 8 + length (others_of l)
unfolding record_of
length_record l = omega (arith, length_value l)

-- ---- the longest

pair_short : (x : Option WrongPair) → length (pair_bytes x) ≤ 2
pair_short none = omega arith
pair_short (some x) = omega arith

module _ (w : Time) where
  abbrev Short : Event → Type 0
  Short e = length (others_of (line w e)) ≤ 20

  -- what a station is told
  short_told : (s : Told) (a : ℕ) (t : Telegram) → length t.load.bytes ≡ 16 → Every Short (events_as s a t)
  unfolding four_bytes
  short_told Silence a t h = every.none
  short_told Owns a t h = next {a = event a owns []} (omega arith) every.none
  short_told Taken a t h = next {a = event a taken []} (omega arith) every.none
  short_told (Failed f) a t h = next {a = failed_event a f} (omega (arith, pair_short (pair_of f))) every.none
  short_told Free a t h = next {a = free_event a t} (omega arith) every.none
  short_told (FailedFree f) a t h = next {a = failed_event a f} (omega (arith, pair_short (pair_of f))) (next {a = free_event a t} (omega arith) every.none)
  short_told Given a t h = next {a = event a given (given_values t)} (omega (arith, length-take t.load.nn t.load.bytes)) every.none
  short_told Answered a t h = next {a = event a answer (answer_values t)} (omega (arith, length-take t.load.nn t.load.bytes)) every.none

  short_turns : {ts : List Turn} → RoomyTurns ts → Every (EachOf Short) ts
  unfolding tells
  short_turns roomy.none = every.none
  short_turns (roomy.next {t = t} h hs) = next (short_told t.told t.station.address t.station.part h) (short_turns hs)

-- a line whose record has at most 28 bytes
abbrev pub Short28 : Line → Type 0
Short28 l = length (record_of l) ≤ 28

all_short : (w : Time) {es : List Event} → Every (Short w) es → Every Short28 (map (line w) es)
all_short w every.none = every.none
all_short w (next {a = e} p ps) = next {a = line w e} (omega (arith, length_record (line w e))) (all_short w ps)

-- no record of a slot has more than 28 bytes
pub longest_record : (b : Bus) → Roomy b → Every Short28 (events b)
unfolding events
longest_record b h = all_short (time_of b) (tellings_each (Short (time_of b)) b (short_turns (time_of b) h))

-- a station that is told of a telegram with 16 data bytes
unfoldable pub full_turn : Turn
full_turn =
    let full : Telegram = record { qq = 16; zz = 21; pb = 7; sb = 4; load = record { nn = 16; bytes = replicate 16 1 } } in
    record { station = about (fresh 21 false) Silent full (holding []); told = Given }

-- some record has 28 bytes
pub longest_has_28 : (w : Time) → map (λ (e : Event). length (record_of (line w e))) (tells full_turn) ≡ 28 ∷ []
unfolding full_turn tells record_of value_of four_bytes
longest_has_28 w = refl
