-- How many fields a scenario has, by their lengths alone, and how many lines a text has: nothing of a bus. Assumes nothing.
use Rattle.std.specs.Prelude.{cond, List, [], ◌∷◌, ℕ, zero, suc, ◌+◌, eqb, ltb, length}
use Rattle.walk.specs.Field.{length_at}

-- from a place on: a tag, two bytes of length and a value each; a scenario has no more fields than bytes
unfoldable pub fields_from : ℕ → List ℕ → ℕ → ℕ
fields_from zero s at = 0
fields_from (suc k) s at =
    let rest = fields_from k s (at + 3 + length_at s at) in
    cond (ltb at (length s)) (suc rest) 0

unfoldable pub fields_in : List ℕ → ℕ
fields_in s = fields_from (length s) s 0

-- a line ends with a line feed
unfoldable pub lines_in : List ℕ → ℕ
lines_in [] = 0
lines_in (c ∷ cs) = let rest = lines_in cs in cond (eqb c 10) (suc rest) rest
