-- One field of a sheet (02, E2): one-byte tag, two-byte length (high byte first), value. Assumes nothing.
use Rattle.std.specs.Prelude.{Bool, cond, List, ℕ, ◌+◌, ◌-◌, eqb, ltb, length, take, drop, Option, Some, None, is_none}
use Rattle.walk.specs.Field.{byte_at, length_at}
use Rattle.value.specs.declared.value.DataType.{DataType}
use Rattle.value.specs.declared.value.DataType.TheVariants.{Bcd, Data1c, Data2b, Data2c}
use Rattle.sheet.specs.declared.field.Entry.{Entry}
use Rattle.sheet.specs.declared.field.Entry.TheVariants.{Read, Shares, Write}
use Rattle.sheet.specs.declared.field.Placed.{Placed}

-- a value to write has five bytes
abbrev pub to_write : DataType → ℕ → Option Entry
to_write t len = cond (eqb len 5) (Some (Write t)) None

-- by its tag and its length; any other tag is unknown
unfoldable pub entry_of : ℕ → ℕ → Option Entry
entry_of tag len =
    cond (eqb tag 0x01) (Some (Read Bcd))
    (cond (eqb tag 0x02) (Some (Read Data1c))
    (cond (eqb tag 0x03) (Some (Read Data2b))
    (cond (eqb tag 0x04) (Some (Read Data2c))
    (cond (eqb tag 0x05) (Some Shares)
    (cond (eqb tag 0x11) (to_write Bcd len)
    (cond (eqb tag 0x12) (to_write Data1c len)
    (cond (eqb tag 0x13) (to_write Data2b len)
    (cond (eqb tag 0x14) (to_write Data2c len)
    None))))))))

-- behind a cut field nothing is left
abbrev pub no_field : ℕ → Placed
no_field length = record { entry = None; from = length; next = length }

-- the field at a place: cut where its tag and length, or its value, run past the end
unfoldable pub field_at : List ℕ → ℕ → Placed
field_at s at =
    cond (ltb (length s) 3) (no_field (length s))
    (cond (ltb (length s - 3) at) (no_field (length s))
    (cond (ltb (length s - (at + 3)) (length_at s at)) (no_field (length s))
    (record { entry = entry_of (byte_at s at) (length_at s at); from = at + 3; next = at + 3 + length_at s at })))

-- its value
abbrev pub value_at : List ℕ → Placed → List ℕ
value_at s p = take (p.next - p.from) (drop p.from s)

abbrev pub is_bad : Option Entry → Bool
is_bad e = is_none e
