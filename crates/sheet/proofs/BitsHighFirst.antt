-- A value to write has its number, or its float's bits, in four bytes high first; a kind above 3 is refused (02, E2).
-- Assumes nothing.
use Rattle.std.specs.Prelude.{Some}
use mathlib.Core.Path.{◌≡◌, refl, ap, ◌∙◌}
use mathlib.Core.List.{◌∷◌}
use Prim.Native.Nat.{ℕ, ◌+◌, ◌*◌, ◌/◌, ◌%◌, ◌<◌}
use native.Mathlib.Omega.{arith}
use borrow.Author.Tests.{ne_eqb}
use lib.Dec.{T}
use lib.Ieee.{Float, binary32, fits, to_bits}
use lib.Ieee.Bits.{of_bits-to_bits}
use Rattle.walk.specs.Field.{byte_at, pair_at}
use Rattle.value.specs.Write.{write_as}
use Rattle.value.specs.declared.value.DataType.{DataType}
use Rattle.value.specs.declared.value.Value.TheVariants.{Whole, Percent, Temperature, Missing}
use Rattle.sheet.specs.Given.{word_of, of_kind, given_in}
use Rattle.sheet.specs.Lines.{refused_line, code_line}
use Rattle.sheet.specs.Tagged.{value, item_line, high_first}

-- the weight of each byte
pub bits_high_first : (a b c d : ℕ) → word_of a b c d ≡ a * 16777216 + b * 65536 + c * 256 + d
unfolding word_of pair_at
bits_high_first a b c d = omega arith

word_back : (n : ℕ) → word_of (n / 16777216) (n / 65536 % 256) (n / 256 % 256) (n % 256) ≡ n
word_back n = bits_high_first (n / 16777216) (n / 65536 % 256) (n / 256 % 256) (n % 256) ∙ omega arith

given_back : (kind n : ℕ) → given_in (kind ∷ high_first n) ≡ of_kind kind n
unfolding given_in byte_at
given_back kind n = ap (λ (k : ℕ). of_kind kind k) (word_back n)

-- a whole number, and the bits of any float that an f32 holds
pub whole_given : (n : ℕ) → given_in (0 ∷ high_first n) ≡ Some (Whole n)
unfolding of_kind
whole_given n = given_back 0 n

module _ (x : Float) (holds : T (fits binary32 x)) where
  pub percent_given : given_in (1 ∷ high_first (to_bits binary32 x)) ≡ Some (Percent x)
  unfolding of_kind
  percent_given = given_back 1 (to_bits binary32 x) ∙ ap (λ (y : Float). Some (Percent y)) (of_bits-to_bits binary32 x holds)

  pub temperature_given : given_in (2 ∷ high_first (to_bits binary32 x)) ≡ Some (Temperature x)
  unfolding of_kind
  temperature_given = given_back 2 (to_bits binary32 x) ∙ ap (λ (y : Float). Some (Temperature y)) (of_bits-to_bits binary32 x holds)

-- in every type: missing whatever the four bytes are, and no kind above 3
pub bits_ignored : (t : DataType) (a b c d : ℕ) → item_line (value t 3 a b c d) ≡ code_line (write_as t Missing)
unfolding of_kind
bits_ignored t a b c d = refl

pub kind_above_3 : (t : DataType) (kind a b c d : ℕ) → 3 < kind → item_line (value t kind a b c d) ≡ refused_line 17
unfolding of_kind
kind_above_3 t kind a b c d h =
    simp (
      ne_eqb kind 0 (λ (e : kind ≡ 0). omega arith),
      ne_eqb kind 1 (λ (e : kind ≡ 1). omega arith),
      ne_eqb kind 2 (λ (e : kind ≡ 2). omega arith),
      ne_eqb kind 3 (λ (e : kind ≡ 3). omega arith),
    )
