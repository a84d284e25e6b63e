-- A value written as the bytes of its code (02, E2). Assumes nothing.
use Rattle.std.specs.Prelude.{ℕ, ◌+◌, ◌-◌, ◌*◌, ◌/◌, ◌%◌, cond, nat_le, nat_lt, Float, Option, Some, None}
use Rattle.value.specs.Steps.{per, count_of}
use Rattle.value.specs.declared.steps.Count.{Count}
use Rattle.value.specs.declared.steps.Count.TheVariants.{Up, Down}
use Rattle.value.specs.declared.value.DataType.{DataType}
use Rattle.value.specs.declared.value.DataType.TheVariants.{Bcd, Data1c, Data2b, Data2c}
use Rattle.value.specs.declared.value.Value.{Value}
use Rattle.value.specs.declared.value.Value.TheVariants.{Whole, Percent, Temperature, Missing}
use Rattle.value.specs.declared.write.Code.{Code}
use Rattle.value.specs.declared.write.Code.TheVariants.{One, Two}

-- a number of 16 bits, low byte first
unfoldable pub two : ℕ → Code
two n = Two (n % 256) (n / 256 % 256)

-- two digits
unfoldable pub bcd_of : ℕ → Option Code
bcd_of n = cond (nat_lt n 100) (Some (One (n / 10 * 16 + n % 10))) None

-- at most 200 half percents
abbrev pub share_of : Option Count → Option Code
share_of (Some (Up n)) = cond (nat_le n 200) (Some (One n)) None
share_of (Some (Down n)) = None
share_of None = None

-- at most 32,767 steps up or down: 8000h is no number, and what is below zero stands behind it
abbrev pub signed_of : Option Count → Option Code
signed_of (Some (Up n)) = cond (nat_lt n 0x8000) (Some (two n)) None
signed_of (Some (Down n)) = cond (nat_lt n 0x8000) (Some (two (0x8000 + (0x8000 - n)))) None
signed_of None = None

abbrev pub write_bcd : Value → Option Code
write_bcd (Whole n) = bcd_of n
write_bcd (Percent x) = None
write_bcd (Temperature x) = None
write_bcd Missing = Some (One 0xff)

abbrev pub write_share : Value → Option Code
write_share (Whole n) = None
write_share (Percent x) = share_of (count_of (per 1) x)
write_share (Temperature x) = None
write_share Missing = Some (One 0xff)

abbrev pub write_signed : Float → Value → Option Code
write_signed scale (Whole n) = None
write_signed scale (Percent x) = None
write_signed scale (Temperature x) = signed_of (count_of scale x)
write_signed scale Missing = Some (two 0x8000)

abbrev pub write_as : DataType → Value → Option Code
write_as Bcd v = write_bcd v
write_as Data1c v = write_share v
write_as Data2b v = write_signed (per 8) v
write_as Data2c v = write_signed (per 4) v
