-- What every bus that was powered on has: a load of every attached station has 16 places. Assumes nothing.
use Rattle.std.specs.Prelude.{◌≡◌, List, [], ◌∷◌, length}
use Rattle.station.specs.declared.station.Turn.{Turn}
use Rattle.bus.specs.Bus.{attached_turns}
use Rattle.bus.specs.declared.bus.Bus.{Bus}

pub data RoomyTurns : List Turn → Type 0 where
  none : RoomyTurns []
  next : {t : Turn} {ts : List Turn} → length t.station.part.load.bytes ≡ 16 → RoomyTurns ts → RoomyTurns (t ∷ ts)

abbrev pub Roomy : Bus → Type 0
Roomy b = RoomyTurns (attached_turns b)

-- and of some buses each
pub data AllRoomy : List Bus → Type 0 where
  none : AllRoomy []
  next : {b : Bus} {bs : List Bus} → Roomy b → AllRoomy bs → AllRoomy (b ∷ bs)
