-- What a slot told, noted: one record for each event, in the order of `events` (02, E1). Assumes nothing.
use Rattle.std.specs.Prelude.{Bool, cond, List, [], ◌∷◌, map, ℕ, ◌+◌, length, Result, Ok, Err}
use Rattle.station.specs.Events.{Event, tells}
use Rattle.station.specs.declared.station.Turn.{Turn}
use Rattle.bus.specs.Events.{those, Line, line, events}
use Rattle.bus.specs.declared.bus.Bus.{Bus}
use Rattle.bus.specs.declared.time.Time.{Time}
use Rattle.buslog.specs.declared.log.OtherLength.{OtherLength}
use Rattle.buslog.specs.Log.{is_of}
use Rattle.buslog.specs.Record.{record_of, head_of}
use Rattle.buslog.specs.Ring.{Ring, ring, room_for, pushed}

-- a record is noted: the oldest go until it fits, and it goes behind the newest
unfoldable pub noted : Ring → List ℕ → Ring
noted d r = pushed (ring d.bytes (room_for (length r) d.bytes d.log)) r

-- one after the other
unfoldable pub noted_all : Ring → List (List ℕ) → Ring
noted_all d [] = d
noted_all d (r ∷ rs) = noted_all (noted d r) rs

-- the records of some lines
unfoldable pub records_of : List Line → List (List ℕ)
records_of [] = []
records_of (l ∷ ls) = record_of l ∷ records_of ls

-- the records of a slot, in the order of its events
unfoldable pub slot_records : Bus → List (List ℕ)
slot_records b = records_of (events b)

-- a log, its buffer, and what a call says
pub record Keeping : Type 0 where
  pub ring : Ring
  pub said : Result Unit OtherLength

abbrev pub kept : Ring → Result Unit OtherLength → Keeping
kept d s = record { ring = d; said = s }

abbrev pub other_length : OtherLength
other_length = record {}

-- a buffer of another length than at set-up changes nothing
unfoldable pub note_in : Ring → Bus → Keeping
note_in d b = cond (is_of d.log (length d.bytes)) (kept (noted_all d (slot_records b)) (Ok tt)) (kept d (Err other_length))

-- ---- no rule: a record as the code writes it, proved equal to the above (proofs/Records.antt)

-- room is made, and what stands before the other values is written
unfoldable pub begun : Ring → ℕ → ℕ → ℕ → ℕ → Ring
begun d tag more slot station = pushed (ring d.bytes (room_for (8 + more) d.bytes d.log)) (head_of tag more slot station)

-- and the other values
unfoldable pub written : Ring → ℕ → ℕ → ℕ → List ℕ → Ring
written d tag slot station values = pushed (begun d tag (length values) slot station) values

-- the records of some events of one time
abbrev pub records_at : Time → List Event → List (List ℕ)
records_at time es = records_of (map (line time) es)

-- the records of one station in one of the two passes
unfoldable pub pass_records : Time → Bool → Turn → List (List ℕ)
pass_records time last t = records_at time (those last (tells t))
