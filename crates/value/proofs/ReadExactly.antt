-- Which codes are whole numbers and which are missing (02, E2): two decimal digits, and one code for each type. Assumes nothing.
use Rattle.std.proofs.Common.{◌≡◌, ℕ, ◌+◌, ◌*◌, ◌<◌, ◌↔◌, List, [], ◌∷◌, sym, refl, ap, ◌∙◌, Some}
use Rattle.value.specs.Answers.{code_bytes}
use Rattle.value.specs.Claims.{Bytes, missing_code}
use Rattle.value.specs.Read.{read_bcd, read_share, read_signed, read_as}
use Rattle.value.specs.Write.{two, write_as}
use Rattle.value.specs.declared.value.DataType.{DataType}
use Rattle.value.specs.declared.value.DataType.TheVariants.{Bcd, Data1c, Data2b, Data2c}
use Rattle.value.specs.declared.value.Value.TheVariants.{Whole, Missing}
use Rattle.value.proofs.Digits.{read_digits}
use Rattle.value.proofs.WrittenIsRead.{read_is_written}

-- the tens stand in the upper half
pub whole_read : (tens ones : ℕ) → tens < 10 → ones < 10 → read_as Bcd ((tens * 16 + ones) ∷ []) ≡ Some (Whole (tens * 10 + ones))
unfolding read_as
whole_read tens ones t o = read_digits tens ones t o

written_missing : (t : DataType) → code_bytes (write_as t Missing) ≡ missing_code t
unfolding two
written_missing Bcd = refl
written_missing Data1c = refl
written_missing Data2b = refl
written_missing Data2c = refl

read_missing : (t : DataType) → read_as t (missing_code t) ≡ Some Missing
unfolding read_as read_bcd read_share read_signed
read_missing Bcd = refl
read_missing Data1c = refl
read_missing Data2b = refl
read_missing Data2c = refl

pub missing_exactly_when : (t : DataType) (bs : List ℕ) → Bytes bs → (read_as t bs ≡ Some Missing) ↔ (bs ≡ missing_code t)
missing_exactly_when t bs B = (
  λ e. sym (read_is_written t bs Missing B e) ∙ written_missing t,
  λ e. ap (read_as t) e ∙ read_missing t,
)
