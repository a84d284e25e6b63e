-- The halves of an address: the row of those that a master may have, and the place of a half in it.
-- Assumes nothing.
use Rattle.std.specs.Prelude.{ℕ, suc, ◌/◌, ◌%◌, cond, List, [], ◌∷◌, ◌==◌, slice_index}
use Rattle.std.specs.Prelude.{Option, Some, None}

-- the halves of a master address
abbrev pub row : List ℕ
row = 0x0 ∷ 0x1 ∷ 0x3 ∷ 0x7 ∷ 0xF ∷ []

-- the place of x in a list, counted from i
abbrev pub place_from : ℕ → ℕ → List ℕ → Option ℕ
place_from i x [] = None
place_from i x (y ∷ ys) = cond (x == y) (Some i) (place_from (suc i) x ys)

-- the place of a half in the row
unfoldable pub half_index : ℕ → Option ℕ
half_index half = place_from 0 half row

-- the half in a place of the row, 0 past its end
abbrev pub half_at : ℕ → ℕ
half_at i = slice_index row i

abbrev pub low_half : ℕ → ℕ
low_half a = a % 16

abbrev pub high_half : ℕ → ℕ
high_half a = a / 16

-- low half: priority class
unfoldable pub class_of : ℕ → Option ℕ
class_of a = half_index (low_half a)

-- high half: sub-address
unfoldable pub sub_of : ℕ → Option ℕ
sub_of a = half_index (high_half a)
