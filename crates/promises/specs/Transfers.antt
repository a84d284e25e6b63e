-- What a slot tells a station of a part that came to it, and what becomes of a part that was taken (01, "Acknowledgement",
-- "Broadcast", "Answer"). Assumes nothing.
use Rattle.std.specs.Prelude.{◌≡◌, ◌≢◌, true, false, ℕ, ◌<◌}
use Rattle.wire.specs.Form.{bytes_of, answer_form, held_by}
use Rattle.wire.specs.Reading.{SameMessage}
use Rattle.wire.specs.declared.part.Load.{Load}
use Rattle.wire.specs.declared.part.Telegram.{Telegram}
use Rattle.station.specs.Addressed.{for_all, is_own}
use Rattle.station.specs.declared.phase.Told.TheVariants.{Given, Answered}
use Rattle.station.specs.declared.station.Turn.{Turn}
use Rattle.bus.specs.declared.bus.Bus.{Bus}
use Rattle.bus.specs.Bus.{attached_to, turn_at}
use Rattle.promises.specs.Fit.{station_at}

-- it is told Given, and its part has the QQ, ZZ, PB, SB and bytes of this telegram
pub record IsGiven (t : Turn) (sent : Telegram) : Type 0 where
  pub told_given : t.told ≡ Given
  pub same : SameMessage t.station.part sent

-- it is told Answered, and has read the bytes of this answer
pub record IsAnswered (t : Turn) (sent : Load) : Type 0 where
  pub told_answered : t.told ≡ Answered
  pub same : bytes_of t.station.part.load ≡ bytes_of sent

-- it is told neither Given nor Answered
pub record HandsOutNothing (t : Turn) : Type 0 where
  pub not_given : t.told ≡ Given → ⊥
  pub not_answered : t.told ≡ Answered → ⊥

-- ---- a part that was taken in a slot: `b` is the bus as the slot began, `after` the bus after it

-- the telegram of the station in seat i, to one station
pub record ToOne (b after : Bus) (i : ℕ) : Type 0 where
  -- the addressee, if attached, hands out exactly that part
  pub addressee : (j : ℕ) → j < attached_to b → is_own (station_at b j) (station_at b i).part.zz ≡ true
      → IsGiven (turn_at after j) (station_at b i).part
  -- and no one else hands out anything
  pub no_one_else : (j : ℕ) → j < attached_to b → is_own (station_at b j) (station_at b i).part.zz ≡ false → HandsOutNothing (turn_at after j)

-- the telegram of the station in seat i, to all
pub record ToAll (b after : Bus) (i : ℕ) : Type 0 where
  -- every other attached station hands out exactly that part
  pub every_other : (j : ℕ) → j < attached_to b → j ≢ i → IsGiven (turn_at after j) (station_at b i).part
  -- and the owner nothing
  pub not_the_owner : HandsOutNothing (turn_at after i)

-- an answer of the station in seat i to the master in seat m
pub record ToMaster (b after : Bus) (i m : ℕ) : Type 0 where
  -- the answer that was sent: the symbols that the station had to send are its wire form
  pub answer : Load
  pub was_sent : held_by (station_at b i).out ≡ answer_form answer
  -- that master hands out exactly that answer
  pub master : IsAnswered (turn_at after m) answer
  -- and no one else hands out anything
  pub no_one_else : (j : ℕ) → j < attached_to b → j ≢ m → HandsOutNothing (turn_at after j)

-- the part of the station in seat i, while the master in seat m owns the wire: its own telegram, or an answer to it
pub record HandedOut (b after : Bus) (i m : ℕ) : Type 0 where
  pub to_one : i ≡ m → for_all (station_at b i).part.zz ≡ false → ToOne b after i
  pub to_all : i ≡ m → for_all (station_at b i).part.zz ≡ true → ToAll b after i
  pub an_answer : i ≢ m → ToMaster b after i m
