-- The symbols that all heard since the last AA. Assumes nothing.
use Rattle.std.specs.Prelude.{cond, List, [], ◌∷◌, ◌++◌, ℕ, eqb}
use Rattle.station.specs.declared.phase.Sound.{Sound}
use Rattle.station.specs.declared.phase.Sound.TheVariants.{Quiet, Symbol}
use Rattle.promises.specs.Calls.{Call}
use Rattle.history.specs.Generator.{sounds}

-- oldest first, quiet left out, from what all heard, newest first
abbrev pub symbols_since : List Sound → List ℕ
symbols_since [] = []
symbols_since (Quiet ∷ hs) = symbols_since hs
symbols_since (Symbol s ∷ hs) = cond (eqb s 0xAA) [] (symbols_since hs ++ (s ∷ []))

-- after these calls from power-on
abbrev pub since_aa : List Call → List ℕ
since_aa cs = symbols_since (sounds cs)
