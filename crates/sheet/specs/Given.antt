-- The value that a field has to write (02, E2): its kind, and four bytes high first. Assumes nothing.
use Rattle.std.specs.Prelude.{cond, List, ℕ, eqb, length, Option, Some, None}
use Rattle.std.specs.Float.{binary32}
use Rattle.std.specs.Float.Ieee.{of_bits}
use Rattle.walk.specs.Field.{byte_at, pair_at}
use Rattle.value.specs.declared.value.Value.{Value}
use Rattle.value.specs.declared.value.Value.TheVariants.{Whole, Percent, Temperature, Missing}

-- four bytes, high byte first
unfoldable pub word_of : ℕ → ℕ → ℕ → ℕ → ℕ
word_of a b c d = pair_at (pair_at (pair_at a b) c) d

-- 0 whole, 1 percent, 2 temperature, 3 missing: the number, or the float's bits
unfoldable pub of_kind : ℕ → ℕ → Option Value
of_kind kind n =
    cond (eqb kind 0) (Some (Whole n))
    (cond (eqb kind 1) (Some (Percent (of_bits binary32 n)))
    (cond (eqb kind 2) (Some (Temperature (of_bits binary32 n)))
    (cond (eqb kind 3) (Some Missing)
    None)))

-- five bytes; no field of good form has another length
unfoldable pub given_in : List ℕ → Option Value
given_in v =
    cond (eqb (length v) 5) (of_kind (byte_at v 0) (word_of (byte_at v 1) (byte_at v 2) (byte_at v 3) (byte_at v 4))) None
