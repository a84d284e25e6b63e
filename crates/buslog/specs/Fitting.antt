-- The lines from the oldest on whose records fit into so many bytes, whole; nothing here knows of a ring (02, E1). Assumes nothing.
use Rattle.std.specs.Prelude.{cond, List, [], ◌∷◌, ℕ, ◌-◌, leb, length}
use Rattle.bus.specs.Events.{Line}
use Rattle.buslog.specs.Record.{record_of}

unfoldable pub fitting_run : ℕ → List Line → List Line
fitting_run n [] = []
fitting_run n (l ∷ ls) =
    let more = fitting_run (n - length (record_of l)) ls in
    cond (leb (length (record_of l)) n) (l ∷ more) []
