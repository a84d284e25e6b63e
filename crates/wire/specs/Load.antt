-- A load from the bytes that its user has. Assumes nothing.
use Rattle.std.specs.Prelude.{ℕ, ◌-◌, List, ◌++◌, length, take, replicate}
use Rattle.laws.specs.AtMost.{at_most}
use Rattle.wire.specs.declared.part.Load.{Load}

-- a part carries at most 16 data bytes
abbrev pub most_data : ℕ
most_data = 16

-- a load of no bytes
abbrev pub empty_load : Load
empty_load = record { nn = 0; bytes = replicate most_data 0 }

-- how many of so many bytes there is room for
unfoldable pub fitting : ℕ → ℕ
fitting len = at_most len most_data

-- these bytes, as far as there is room, and zeros behind them
unfoldable pub load_of : List ℕ → Load
load_of xs =
    record {
      nn = fitting (length xs);
      bytes = take (fitting (length xs)) xs ++ replicate (most_data - fitting (length xs)) 0;
    }
