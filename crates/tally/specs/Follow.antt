-- A scenario followed with a table that is kept by value: what each of its slots told is counted. Assumes nothing.
use Rattle.std.specs.Prelude.{List, ℕ, replicate}
use Rattle.bus.specs.declared.bus.Bus.{Bus}
use Rattle.walk.specs.Follow as walk
use Rattle.walk.specs.Moments.{moments}
use Rattle.pairs.specs.Counts.{records, fresh}
use Rattle.pairs.specs.Table.{blank, listened, book_of}
use Rattle.pairs.specs.declared.Book.{Book}

-- no record is in use
unfoldable pub unused : Book
unused = record { counts = fresh; table = replicate records blank }

-- the slot that the bus has just run
abbrev pub counted_in : Book → Bus → Book
counted_in k b = book_of (listened k.table k.counts b)

-- from power-on to the scenario's end
unfoldable pub followed : List ℕ → Book
followed s = walk.followed counted_in unused s

-- the same by the slots that the scenario tells of, one after the other
abbrev pub counted_of : List ℕ → Book
counted_of s = walk.heard_slots counted_in unused (walk.told_buses (moments s))
