-- A decimal number read from its text, for the laws that every float's text is exact and short. Assumes nothing.
use Rattle.std.specs.Prelude.{◌≡◌, Bool, true, false, cond, List, [], ◌∷◌, ℕ, suc, ◌+◌, ◌*◌, ◌^◌, eqb, ℤ, pos, negsuc, length}
use Rattle.scenario.specs.ReadBack.{read_decimal}

-- a minus in front
unfoldable pub has_minus : List ℕ → Bool
has_minus [] = false
has_minus (c ∷ cs) = eqb c 45

unfoldable pub without_minus : List ℕ → List ℕ
without_minus [] = []
without_minus (c ∷ cs) = cond (eqb c 45) cs (c ∷ cs)

-- what stands before the first point, and behind it; without a point all stands before it
unfoldable pub before_point : List ℕ → List ℕ
before_point [] = []
before_point (c ∷ cs) = let rest = before_point cs in cond (eqb c 46) [] (c ∷ rest)

unfoldable pub behind_point : List ℕ → List ℕ
behind_point [] = []
behind_point (c ∷ cs) = let rest = behind_point cs in cond (eqb c 46) cs rest

-- a text of digits that says n / c: w.f, with d digits behind the point, is (w * 10 ^ d + f) / 10 ^ d
unfoldable pub Measures : List ℕ → ℕ → ℕ → Type 0
Measures t n c =
    (read_decimal 0 (before_point t) * 10 ^ length (behind_point t) + read_decimal 0 (behind_point t)) * c ≡ n * 10 ^ length (behind_point t)

-- a text that says n / c, or with a minus -n / c, exactly
pub record Says (t : List ℕ) (minus : Bool) (n c : ℕ) : Type 0 where
  pub sign : has_minus t ≡ minus
  pub size : Measures (without_minus t) n c

-- the same of a number with its sign; zero has no minus
abbrev pub SaysNumber : List ℕ → ℤ → ℕ → Type 0
SaysNumber t (pos n) c = Says t false n c
SaysNumber t (negsuc n) c = Says t true (suc n) c

-- the first and the last character of a text
unfoldable pub first_of : List ℕ → ℕ
first_of [] = 0
first_of (c ∷ cs) = c

unfoldable pub last_of : List ℕ → ℕ
last_of [] = 0
last_of (c ∷ []) = c
last_of (c ∷ d ∷ cs) = last_of (d ∷ cs)
