-- The first of a list that passes a test. Assumes nothing.
use Rattle.std.specs.Prelude.{Bool, true, false, cond, List, [], ◌∷◌, ℕ, suc}
use Rattle.std.specs.Prelude.{Option, Some, None}

-- its place, counted from i
unfoldable pub first_from : {A : Type 0} → (A → Bool) → ℕ → List A → Option ℕ
first_from test i [] = None
first_from test i (a ∷ l) = let later = first_from test (suc i) l in cond (test a) (Some i) later

abbrev pub is_found : Option ℕ → Bool
is_found (Some i) = true
is_found None = false
