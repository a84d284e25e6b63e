-- Codes and values worked out, by computing. A float is `fin s m e`: m * 2 ^ e, below zero where s is true. Assumes nothing.
use Rattle.std.proofs.Common.{◌≡◌, true, false, [], ◌∷◌, pos, negsuc, refl, Some, None}
use lib.Ieee.{nan, inf, fin, of_int, mul, div, neg, lt, eq, to_unsigned}
use Rattle.value.specs.Answers.{block_number, block_percents}
use Rattle.value.specs.Block.{percents_of, shares_of, block_of}
use Rattle.value.specs.Read.{read_bcd, percent_of, read_share, read_signed, read_as}
use Rattle.value.specs.Steps.{steps_of, size_of, count_of}
use Rattle.value.specs.Write.{two, bcd_of, write_as}
use Rattle.value.specs.declared.value.DataType.TheVariants.{Bcd, Data1c, Data2b, Data2c}
use Rattle.value.specs.declared.value.Value.TheVariants.{Whole, Percent, Temperature, Missing}
use Rattle.value.specs.declared.write.Code.TheVariants.{One, Two}

-- ---- read

-- the bytes 80 FF as DATA2b give -0.5
pub half_a_degree : read_as Data2b (0x80 ∷ 0xff ∷ []) ≡ Some (Temperature (fin true 1 (negsuc 0)))
unfolding read_as read_signed steps_of of_int div neg
half_a_degree = refl

pub half_a_degree_of_16 : read_as Data2c (0xf8 ∷ 0xff ∷ []) ≡ Some (Temperature (fin true 1 (negsuc 0)))
unfolding read_as read_signed steps_of of_int div neg
half_a_degree_of_16 = refl

pub forty_two : read_as Bcd (0x42 ∷ []) ≡ Some (Whole 42)
unfolding read_as read_bcd
forty_two = refl

pub no_digit : read_as Bcd (0x4a ∷ []) ≡ None
unfolding read_as read_bcd
no_digit = refl

-- C8h is 100 percent, and C9h is none
pub all_of_it : read_as Data1c (0xc8 ∷ []) ≡ Some (Percent (fin false 25 (pos 2)))
unfolding read_as read_share percent_of steps_of of_int div
all_of_it = refl

pub more_than_all : read_as Data1c (0xc9 ∷ []) ≡ None
unfolding read_as read_share
more_than_all = refl

pub missing_pair : read_as Data2b (0x00 ∷ 0x80 ∷ []) ≡ Some Missing
unfolding read_as read_signed
missing_pair = refl

-- ---- written

pub half_a_degree_written : write_as Data2b (Temperature (fin true 1 (negsuc 0))) ≡ Some (Two 0x80 0xff)
unfolding two count_of size_of steps_of of_int mul div neg lt eq to_unsigned
half_a_degree_written = refl

-- 127.99609375 and its negative; -128 would be 8000h
pub highest : write_as Data2b (Temperature (fin false 32767 (negsuc 7))) ≡ Some (Two 0xff 0x7f)
unfolding two count_of size_of steps_of of_int mul div neg lt eq to_unsigned
highest = refl

pub lowest : write_as Data2b (Temperature (fin true 32767 (negsuc 7))) ≡ Some (Two 0x01 0x80)
unfolding two count_of size_of steps_of of_int mul div neg lt eq to_unsigned
lowest = refl

pub too_low : write_as Data2b (Temperature (fin true 1 (pos 7))) ≡ None
unfolding count_of size_of steps_of of_int mul div neg lt eq to_unsigned
too_low = refl

pub between_steps : write_as Data2b (Temperature (fin false 1 (negsuc 8))) ≡ None
unfolding count_of size_of steps_of of_int mul div neg lt eq to_unsigned
between_steps = refl

pub minus_zero : write_as Data2b (Temperature (fin true 0 (pos 0))) ≡ Some (Two 0x00 0x00)
unfolding two count_of size_of steps_of of_int mul div neg lt eq to_unsigned
minus_zero = refl

pub no_number : write_as Data2c (Temperature nan) ≡ None
unfolding count_of size_of steps_of of_int mul div neg lt eq to_unsigned
no_number = refl

pub endless : write_as Data2c (Temperature (inf true)) ≡ None
unfolding count_of size_of steps_of of_int mul div neg lt eq to_unsigned
endless = refl

pub below_nothing : write_as Data1c (Percent (fin true 1 (negsuc 0))) ≡ None
unfolding count_of size_of steps_of of_int mul div neg lt eq to_unsigned
below_nothing = refl

pub forty_two_written : write_as Bcd (Whole 42) ≡ Some (One 0x42)
unfolding bcd_of
forty_two_written = refl

-- ---- blocks

pub fifty_fifty : block_percents (block_of (100 ∷ 100 ∷ [])) ≡ fin false 25 (pos 1) ∷ fin false 25 (pos 1) ∷ []
unfolding block_of read_share shares_of percents_of percent_of steps_of of_int div
fifty_fifty = refl

-- the lowest number is named, whichever share has the fault
pub seventeen_first : block_number (block_of (0xff ∷ 100 ∷ 201 ∷ [])) ≡ 17
unfolding block_of read_share
seventeen_first = refl

pub then_eighteen : block_number (block_of (100 ∷ 0xff ∷ [])) ≡ 18
unfolding block_of read_share
then_eighteen = refl

pub nine_shares : block_number (block_of (100 ∷ 100 ∷ 0 ∷ 0 ∷ 0 ∷ 0 ∷ 0 ∷ 0 ∷ 0 ∷ [])) ≡ 17
unfolding block_of
nine_shares = refl
