-- A count, but never more than there is room for. Assumes nothing.
use Rattle.std.specs.Prelude.{cond, ℕ, ltb}

abbrev pub at_most : ℕ → ℕ → ℕ
at_most n room = cond (ltb n room) n room
