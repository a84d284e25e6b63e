-- The bytes of a value read as what they stand for (02, E2: "This table decides"). Assumes nothing.
use Rattle.std.specs.Prelude.{ℕ, ◌+◌, ◌-◌, ◌*◌, ◌/◌, ◌%◌, cond, List, [], ◌∷◌, ◌==◌, nat_le, nat_lt, Float, Option, Some, None}
use Rattle.std.specs.Float.Ieee.{neg}
use Rattle.value.specs.Steps.{per, steps_of}
use Rattle.value.specs.declared.value.DataType.{DataType}
use Rattle.value.specs.declared.value.DataType.TheVariants.{Bcd, Data1c, Data2b, Data2c}
use Rattle.value.specs.declared.value.Value.{Value}
use Rattle.value.specs.declared.value.Value.TheVariants.{Whole, Percent, Temperature, Missing}

-- BCD: 0 to 99, both halves digits; FF missing
unfoldable pub read_bcd : ℕ → Option Value
read_bcd b =
    cond (b == 0xff) (Some Missing)
    (cond (nat_lt (b / 16) 10)
    (cond (nat_lt (b % 16) 10) (Some (Whole (b / 16 * 10 + b % 16))) None)
    None)

-- half percents
unfoldable pub percent_of : ℕ → Float
percent_of b = steps_of (per 1) b

-- DATA1c: 0 to 200 in half percents; FF missing
unfoldable pub read_share : ℕ → Option Value
read_share b = cond (nat_le b 200) (Some (Percent (percent_of b))) (cond (b == 0xff) (Some Missing) None)

-- a number of 16 bits, signed: from 8001h on it is below zero
abbrev pub signed_steps : Float → ℕ → Float
signed_steps scale n = cond (nat_lt n 0x8000) (steps_of scale n) (neg (steps_of scale (65536 - n)))

-- low byte first; 8000h missing
unfoldable pub read_signed : Float → ℕ → ℕ → Option Value
read_signed scale low high =
    let n = low + 256 * high in
    cond (n == 0x8000) (Some Missing) (Some (Temperature (signed_steps scale n)))

-- one byte
abbrev pub read_one : DataType → ℕ → Option Value
read_one Bcd b = read_bcd b
read_one Data1c b = read_share b
read_one Data2b b = None
read_one Data2c b = None

-- two bytes: DATA2b in 1/256, DATA2c in 1/16
abbrev pub read_two : DataType → ℕ → ℕ → Option Value
read_two Bcd low high = None
read_two Data1c low high = None
read_two Data2b low high = read_signed (per 8) low high
read_two Data2c low high = read_signed (per 4) low high

unfoldable pub read_as : DataType → List ℕ → Option Value
read_as t [] = None
read_as t (b ∷ []) = read_one t b
read_as t (low ∷ high ∷ []) = read_two t low high
read_as t (a ∷ b ∷ c ∷ rest) = None
