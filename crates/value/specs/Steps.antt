-- A float as so many steps of 1 / scale, and so many steps as a float. Assumes nothing.
use Rattle.std.specs.Prelude.{ℕ, true, false, cond, pos, nat_lt, Float, Option, Some, None}
use Rattle.std.specs.Float.{fin, binary32}
use Rattle.std.specs.Float.Ieee.{of_int, mul, div, neg, lt, eq, to_unsigned}
use Rattle.value.specs.declared.steps.Count.{Count}
use Rattle.value.specs.declared.steps.Count.TheVariants.{Up, Down}

-- 2 ^ k as a float: so many steps make 1
abbrev pub per : ℕ → Float
per k = fin false 1 (pos k)

-- n steps
unfoldable pub steps_of : Float → ℕ → Float
steps_of scale n = div binary32 (of_int binary32 (pos n)) scale

-- x times the scale, cut to a whole number, is a candidate; it stands if so many steps are x
unfoldable pub size_of : Float → Float → Option ℕ
size_of scale x =
    let y = mul binary32 x scale in
    let n = to_unsigned 64 y in
    cond (lt (fin true 1 (pos 0)) y)
    (cond (lt y (fin false 1 (pos 64)))
    (cond (nat_lt n 16777216)
    (cond (eq (steps_of scale n) x) (Some n) None)
    None)
    None)
    None

abbrev pub upward : Option ℕ → Option Count
upward (Some n) = Some (Up n)
upward None = None

abbrev pub downward : Option ℕ → Option Count
downward (Some n) = Some (Down n)
downward None = None

-- with the sign of x; minus zero is not below zero
unfoldable pub count_of : Float → Float → Option Count
count_of scale x = cond (lt x (fin false 0 (pos 0))) (downward (size_of scale (neg x))) (upward (size_of scale x))
