-- The log's length as its user gives it: a decimal number. Assumes nothing.
use Rattle.std.specs.Prelude.{Bool, true, false, cond, List, [], ◌∷◌, ℕ, ◌+◌, ◌-◌, ◌*◌, eqb, ltb, length, Option, Some, None}
use Rattle.laws.specs.AtMost.{at_most}

-- more than any log may have
abbrev pub past : ℕ
past = 65537

-- 0 to 9
unfoldable pub is_digit : ℕ → Bool
is_digit c = cond (ltb c 48) false (cond (ltb 57 c) false true)

unfoldable pub all_digits : List ℕ → Bool
all_digits [] = true
all_digits (c ∷ cs) = let rest = all_digits cs in cond (is_digit c) rest false

-- the number that digits make, behind what is read so far
unfoldable pub number_from : ℕ → List ℕ → ℕ
number_from n [] = n
number_from n (c ∷ cs) = number_from (n * 10 + (c - 48)) cs

-- at least one digit and nothing else; a number past the limits is kept to the first such
unfoldable pub length_of : List ℕ → Option ℕ
length_of s = cond (eqb (length s) 0) None (cond (all_digits s) (Some (at_most (number_from 0 s) past)) None)
