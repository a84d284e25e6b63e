-- One field of a scenario (01, "Bench program"): one-byte tag, two-byte length (high byte first), value. Assumes nothing.
use Rattle.std.specs.Prelude.{Bool, true, false, cond, List, ℕ, ◌+◌, ◌-◌, ◌*◌, ◌<◌, eqb, ltb, length, get_or, Option, Some, None}
use Rattle.walk.specs.declared.field.Field.{Field}
use Rattle.walk.specs.declared.field.Field.TheVariants.{Master, Slave, Reply, Queue, Run, Heard, Quiet}
use Rattle.walk.specs.declared.field.Placed.{Placed}

-- a list of bytes
abbrev pub Bytes : List ℕ → Type 0
Bytes s = (i : ℕ) → get_or s i 0 < 256

unfoldable pub byte_at : List ℕ → ℕ → ℕ
byte_at s at = get_or s at 0

-- high byte first
unfoldable pub pair_at : ℕ → ℕ → ℕ
pair_at high low = high * 256 + low

-- 03: slave address, PB, SB, data
abbrev pub reply_value : List ℕ → ℕ → ℕ → Option Field
reply_value s at len = cond (ltb len 3) None (Some (Reply (byte_at s at) (byte_at s (at + 1)) (byte_at s (at + 2)) (at + 3)))

-- 04: QQ, ZZ, PB, SB, data
abbrev pub queue_value : List ℕ → ℕ → ℕ → Option Field
queue_value s at len =
    cond (ltb len 4) None (Some (Queue (byte_at s at) (byte_at s (at + 1)) (byte_at s (at + 2)) (byte_at s (at + 3)) (at + 4)))

-- 05: a two-byte count
abbrev pub run_value : List ℕ → ℕ → ℕ → Option Field
run_value s at len = cond (eqb len 2) (Some (Run (pair_at (byte_at s at) (byte_at s (at + 1))))) None

-- by its tag: 01 and 02 an address, 03 at least 3 bytes, 04 at least 4, 05 two, 06 one, 07 none; any other tag is unknown
unfoldable pub value_of : List ℕ → ℕ → ℕ → ℕ → Option Field
value_of s tag at len =
    cond (eqb tag 0x01) (cond (eqb len 1) (Some (Master (byte_at s at))) None)
    (cond (eqb tag 0x02) (cond (eqb len 1) (Some (Slave (byte_at s at))) None)
    (cond (eqb tag 0x03) (reply_value s at len)
    (cond (eqb tag 0x04) (queue_value s at len)
    (cond (eqb tag 0x05) (run_value s at len)
    (cond (eqb tag 0x06) (cond (eqb len 1) (Some (Heard (byte_at s at))) None)
    (cond (eqb tag 0x07) (cond (eqb len 0) (Some Quiet) None)
    None))))))

abbrev pub no_field : ℕ → Placed
no_field at = record { field = None; next = at }

abbrev pub length_at : List ℕ → ℕ → ℕ
length_at s at = pair_at (byte_at s (at + 1)) (byte_at s (at + 2))

-- the field at a place: cut where its tag and length, or its value, run past the end
unfoldable pub field_at : List ℕ → ℕ → Placed
field_at s at =
    cond (ltb (length s) 3) (no_field at)
    (cond (ltb (length s - 3) at) (no_field at)
    (cond (ltb (length s - (at + 3)) (length_at s at)) (no_field at)
    (record { field = value_of s (byte_at s at) (at + 3) (length_at s at); next = at + 3 + length_at s at })))

-- an unknown tag, a wrong length or a cut field
abbrev pub is_bad : Option Field → Bool
is_bad (Some f) = false
is_bad None = true
