-- The bus as a value: at power-on, and what a call gives back. Assumes nothing.
use Rattle.std.specs.Prelude.{ℕ, false, List, take, replicate, slice_index_or, slice_set}
use Rattle.laws.specs.AtMost.{at_most}
use Rattle.station.specs.Station.{fresh}
use Rattle.station.specs.declared.phase.Told.TheVariants.{Silence}
use Rattle.station.specs.declared.station.Turn.{Turn}
use Rattle.bus.specs.declared.bus.Bus.{Bus}
use Rattle.bus.specs.declared.refusal.Refusal.{Refusal}
use Rattle.std.specs.Prelude.{Result, Ok, Err, ⊤}

-- room for 32 stations
abbrev pub seats : ℕ
seats = 32

-- a seat that nobody has taken
abbrev pub unseated : Turn
unseated = record { station = fresh 0 false; told = Silence }

-- nobody attached, no slot run
unfoldable pub powered_on : Bus
powered_on = record { turns = replicate seats unseated; count = 0; slot = 0; ran = false; quiet = 0; began = 0; waiting = 0 }

-- how many stations are attached
unfoldable pub attached_to : Bus → ℕ
attached_to b = at_most b.count seats

-- the attached stations, each with what the last slot told it, in attach order
abbrev pub attached_turns : Bus → List Turn
attached_turns b = take (attached_to b) b.turns

unfoldable pub turn_at : Bus → ℕ → Turn
turn_at b i = slice_index_or b.turns i unseated

-- the bus with that turn in a seat, and with these bits of who waits
abbrev pub with_bits : Bus → ℕ → Turn → ℕ → Bus
with_bits b i t bits =
    record { turns = slice_set b.turns i t; count = b.count; slot = b.slot; ran = b.ran; quiet = b.quiet; began = b.began; waiting = bits }

unfoldable pub with_turn : Bus → ℕ → Turn → Bus
with_turn b i t = with_bits b i t b.waiting

-- the bus after a call, and what the call says
pub record Answer : Type 0 where
  pub bus : Bus
  pub verdict : Result ⊤ Refusal

abbrev pub answer : Bus → Result ⊤ Refusal → Answer
answer b v = record { bus = b; verdict = v }

-- a refused call changes nothing
unfoldable pub refused_by : Bus → Refusal → Answer
refused_by b r = record { bus = b; verdict = Err r }

unfoldable pub done : Bus → Answer
done b = record { bus = b; verdict = Ok tt }
