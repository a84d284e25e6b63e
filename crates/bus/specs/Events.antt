-- What a slot told, one element a line, in 01's line order ("Bench program", Lines), each with its time (02, E4). Assumes nothing.
use Rattle.std.specs.Prelude.{Bool, true, false, cond, List, [], ◌∷◌, ◌++◌, map}
use Rattle.station.specs.Events.{Word, owns, taken, failed, free, given, answer, Event, tells}
use Rattle.station.specs.declared.station.Turn.{Turn}
use Rattle.bus.specs.declared.bus.Bus.{Bus}
use Rattle.bus.specs.declared.time.Time.{Time}
use Rattle.bus.specs.Bus.{attached_turns}
use Rattle.bus.specs.Time.{time_of}

-- given and answer lines come last
abbrev pub comes_last : Word → Bool
comes_last owns = false
comes_last taken = false
comes_last failed = false
comes_last free = false
comes_last given = true
comes_last answer = true

-- the lines of one station that come first, or those that come last
abbrev pub those : Bool → List Event → List Event
those last [] = []
those true (e ∷ es) = cond (comes_last e.word) (e ∷ those true es) (those true es)
those false (e ∷ es) = cond (comes_last e.word) (those false es) (e ∷ those false es)

abbrev pub lines_of : Bool → List Turn → List Event
lines_of last [] = []
lines_of last (t ∷ ts) = those last (tells t) ++ lines_of last ts

-- owns, taken, failed, free lines by station in attach order, then given and answer lines in attach order
unfoldable pub tellings : Bus → List Event
tellings b = lines_of false (attached_turns b) ++ lines_of true (attached_turns b)

-- an event, with the slot number and the elapsed slots
pub record Line : Type 0 where
  pub time : Time
  pub event : Event

abbrev pub line : Time → Event → Line
line w e = record { time = w; event = e }

-- what a slot hands out: all its events carry one time
unfoldable pub events : Bus → List Line
events b = map (line (time_of b)) (tellings b)
