-- The order of a slot's lines (01, "Bench program", Lines): owns, taken, failed and free lines first by station in attach order, then
-- given and answer lines in attach order; one station's lines in the order in which the words are named. Assumes nothing.
use mathlib.Core.List.{List, [], ◌∷◌, Memᴰ}
use Rattle.std.specs.Prelude.{ℕ, suc, ◌+◌, ◌*◌, ◌≤◌, ◌<◌}
use Rattle.station.specs.Events.{Word, owns, taken, failed, free, given, answer, Event, tells}
use Rattle.bus.specs.Bus.{attached_to, turn_at}
use Rattle.bus.specs.declared.bus.Bus.{Bus}

-- the first lines, then the last
abbrev pub group : Word → ℕ
group owns = 0
group taken = 0
group failed = 0
group free = 0
group given = 1
group answer = 1

-- as the words are named
abbrev pub place : Word → ℕ
place owns = 0
place taken = 1
place failed = 2
place free = 3
place given = 4
place answer = 5

-- where a line with this word, of the station in this seat, stands: the group decides, then the seat, which is below 32, then the word
abbrev pub rank : Word → ℕ → ℕ
rank w seat = group w * 1000 + seat * 10 + place w

-- the station in this seat is told so; seats are taken in attach order
pub record TellsAt (b : Bus) (seat : ℕ) (e : Event) : Type 0 where
  pub attached : seat < attached_to b
  pub tells_it : Memᴰ e (tells (turn_at b seat))

-- events, each told to an attached station, from this rank on and each before the next
pub data InOrder (b : Bus) : ℕ → List Event → Type 0 where
  none : {from : ℕ} → InOrder b from []
  next : {from : ℕ} {e : Event} {es : List Event} (seat : ℕ) → TellsAt b seat e → from ≤ rank e.word seat → InOrder b (suc (rank e.word seat)) es
      → InOrder b from (e ∷ es)
