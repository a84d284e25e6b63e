-- How many symbols a part has, counted from its bytes, and a wire buffer with nothing cut off (02, E8). Assumes nothing.
use Rattle.std.specs.Prelude.{◌≡◌, ℕ, ◌+◌, ◌≤◌, cond, List, [], ◌∷◌, length, ◌==◌}
use Rattle.wire.specs.Form.{room, held_by}
use Rattle.wire.specs.declared.form.Wire.{Wire}

-- AA and A9 go out as two symbols, any other byte as one
abbrev pub pair_of : ℕ → ℕ
pair_of b = cond (b == 0xAA) 1 (cond (b == 0xA9) 1 0)

-- how many of these bytes go out as two
unfoldable pub pairs_in : List ℕ → ℕ
pairs_in [] = 0
pairs_in (b ∷ bs) = pair_of b + pairs_in bs

-- a buffer with room for `room` symbols that holds these, every one of them, and no other
pub record InFull (w : Wire) (symbols : List ℕ) : Type 0 where
  pub array : length w.bytes ≡ room
  pub fits : length symbols ≤ room
  pub len : w.len ≡ length symbols
  pub held : held_by w ≡ symbols
