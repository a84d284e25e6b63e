-- Who ranks before whom, by the halves of their addresses alone, and the first of those met on a walk (02, E7): nothing of bits
-- or of numbers of ranks. Assumes nothing.
use Rattle.std.specs.Prelude.{Bool, cond, ℕ, eqb, ltb}
use Rattle.address.specs.Half.{low_half, high_half}
use Rattle.std.specs.Prelude.{Option, Some, None}

-- by priority class and then by sub-address
unfoldable pub before : ℕ → ℕ → Bool
before a c = cond (eqb (low_half a) (low_half c)) (ltb (high_half a) (high_half c)) (ltb (low_half a) (low_half c))

-- the one met first on the walk so far, or this one if it ranks before
abbrev pub or_before : Option ℕ → ℕ → Option ℕ
or_before None a = Some a
or_before (Some c) a = cond (before a c) (Some a) (Some c)
