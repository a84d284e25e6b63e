-- The master addresses: which they are, their slave addresses and their ranks.
-- Assumes nothing.
use Rattle.std.specs.Prelude.{ℕ, ◌+◌, ◌*◌, ◌/◌, ◌%◌, Bool, true, false, ◌&&◌}
use Rattle.address.specs.Half.{half_index, half_at, low_half, high_half, class_of, sub_of}
use Rattle.std.specs.Prelude.{Option, Some, None}

abbrev pub found : Option ℕ → Bool
found (Some i) = true
found None = false

abbrev pub in_row : ℕ → Bool
in_row half = found (half_index half)

-- a master address has both halves in 0, 1, 3, 7, F
unfoldable pub is_master : ℕ → Bool
is_master a = in_row (low_half a) && in_row (high_half a)

-- a master also answers at its address plus 5; FF gives 04
unfoldable pub slave_of : ℕ → ℕ
slave_of m = (m + 5) % 256

-- the rank from the indexes of class and sub-address, where both have one
abbrev pub rank_at : Option ℕ → Option ℕ → Option ℕ
rank_at (Some c) (Some s) = Some (5 * c + s)
rank_at (Some c) None = None
rank_at None s = None

-- class first, then sub-address, both rising
unfoldable pub rank_of : ℕ → Option ℕ
rank_of a = rank_at (class_of a) (sub_of a)

-- the master of a rank below 25: its class index is r / 5, its sub-address index r % 5
unfoldable pub master_at : ℕ → ℕ
master_at r = 16 * half_at (r % 5) + half_at (r / 5)
