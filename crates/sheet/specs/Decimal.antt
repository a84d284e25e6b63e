-- A float that is a number of 1/256 steps, as a decimal: exactly, and as short as it can be (02, E2). Assumes nothing.
use Rattle.std.specs.Prelude.{cond, List, [], ◌∷◌, ◌++◌, ℕ, zero, suc, ◌*◌, ◌/◌, ◌%◌, eqb, Float, Option, Some, None}
use Rattle.value.specs.Steps.{per, count_of}
use Rattle.value.specs.declared.steps.Count.{Count}
use Rattle.value.specs.declared.steps.Count.TheVariants.{Up, Down}
use Rattle.scenario.specs.Pen.{decimal_text}

-- the digits behind the point: times ten, the whole part, and the same of what is left, until nothing is; k digits at most
unfoldable pub fraction_text : ℕ → ℕ → List ℕ
fraction_text zero part = []
fraction_text (suc k) part =
    let rest = fraction_text k (part * 10 % 256) in
    cond (eqb part 0) [] (decimal_text (part * 10 / 256) ++ rest)

-- "." and "-"
abbrev pub point : List ℕ
point = 46 ∷ []

abbrev pub minus : List ℕ
minus = 45 ∷ []

-- so many 256ths; they have at most eight digits behind the point
unfoldable pub steps_text : ℕ → List ℕ
steps_text n =
    cond (eqb (n % 256) 0) (decimal_text (n / 256)) (decimal_text (n / 256) ++ point ++ fraction_text 8 (n % 256))

abbrev pub count_text : Option Count → List ℕ
count_text (Some (Up n)) = steps_text n
count_text (Some (Down n)) = minus ++ steps_text n
count_text None = []

-- a float that is no such number has no text: none is ever read
unfoldable pub float_text : Float → List ℕ
float_text x = count_text (count_of (per 8) x)
