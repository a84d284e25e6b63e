-- The longest run of latest records that fits, over the list of all records; nothing here knows of a ring (02, E1). Assumes nothing.
use Rattle.std.specs.Prelude.{cond, List, [], ◌∷◌, ◌++◌, ℕ, leb, length}
use Rattle.bus.specs.Events.{Line, events}
use Rattle.bus.specs.declared.bus.Bus.{Bus}
use Rattle.buslog.specs.Record.{record_of}

-- records one behind the other
unfoldable pub joined : List Line → List ℕ
joined [] = []
joined (l ∷ ls) = record_of l ++ joined ls

-- the longest run of latest lines whose records together fit into so many bytes: all, or else all but the oldest, and so on
unfoldable pub longest_run : ℕ → List Line → List Line
longest_run room [] = []
longest_run room (l ∷ ls) =
    let later = longest_run room ls in
    cond (leb (length (joined (l ∷ ls))) room) (l ∷ ls) later

-- the lines of some slots
unfoldable pub all_lines : List Bus → List Line
all_lines [] = []
all_lines (b ∷ bs) = events b ++ all_lines bs
