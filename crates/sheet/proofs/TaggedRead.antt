-- Every field written in the tagged form is read as that field, whatever stands before and behind it. Assumes nothing.
use Rattle.std.specs.Prelude.{Option, Some}
use mathlib.Core.Path.{◌≡◌, refl, ap, ◌∙◌}
use mathlib.Core.List.{List, [], ◌∷◌, ◌++◌}
use Prim.Native.Nat.{ℕ, ◌+◌, ◌-◌, ◌*◌, ◌/◌}
use native.Mathlib.Omega.{arith}
use borrow.Author.Tests.{le-ltb}
use lib.ListN.{length, get_or, drop, length-append}
use lib.Seq.{get_or-append-add, drop-append-add, take-append_seam}
use Rattle.walk.specs.Field.{byte_at, pair_at, length_at}
use Rattle.walk.specs.Tagged.{tagged}
use Rattle.value.specs.declared.value.DataType.TheVariants.{Bcd, Data1c, Data2b, Data2c}
use Rattle.sheet.specs.declared.field.Entry.{Entry}
use Rattle.sheet.specs.declared.field.Entry.TheVariants.{Read, Shares, Write}
use Rattle.sheet.specs.declared.field.Placed.{Placed}
use Rattle.sheet.specs.Field.{entry_of, field_at, value_at}
use Rattle.sheet.specs.Given.{given_in}
use Rattle.sheet.specs.Lines.{entry_line, line_at}
use Rattle.sheet.specs.Tagged.{Item, code, block, value, code_tag, value_tag, item_bytes, item_line}

-- a byte behind the front
byte_behind : (front l : List ℕ) (i j : ℕ) → j ≡ length front + i → byte_at (front ++ l) j ≡ get_or l i 0
unfolding byte_at
byte_behind front l i j e = ap (λ (k : ℕ). get_or (front ++ l) k 0) e ∙ get_or-append-add front l i 0

-- where a field with a value stands
abbrev placed : Option Entry → ℕ → List ℕ → Placed
placed e at v = record { entry = e; from = at + 3; next = at + 3 + length v }

module _ (front v rest : List ℕ) (tag : ℕ) where
  whole : List ℕ
  whole = front ++ (tagged tag v ++ rest)

  abbrev at : ℕ
  at = length front

  whole_length : length whole ≡ at + (3 + (length v + length rest))
  unfolding whole
  whole_length = omega (arith, length-append front (tagged tag v ++ rest), length-append v rest)

  length_read : length_at whole at ≡ length v
  unfolding whole pair_at
  length_read =
      ap (λ (h : ℕ). h * 256 + byte_at whole (at + 2)) (byte_behind front (tagged tag v ++ rest) 1 (at + 1) refl)
      ∙ ap (λ (l : ℕ). length v / 256 * 256 + l) (byte_behind front (tagged tag v ++ rest) 2 (at + 2) refl)
      ∙ omega arith

  tag_read : byte_at whole at ≡ tag
  unfolding whole
  tag_read = byte_behind front (tagged tag v ++ rest) 0 at (omega arith)

  placed_read : field_at whole at ≡ placed (entry_of tag (length v)) at v
  unfolding field_at
  placed_read =
      let n = whole_length in
      simp (
        length_read,
        tag_read,
        le-ltb (length whole) 3 (omega arith),
        le-ltb (length whole - 3) at (omega arith),
        le-ltb (length whole - (at + 3)) (length v) (omega arith),
      )

  value_read : (e : Option Entry) → value_at whole (placed e at v) ≡ v
  unfolding whole
  value_read e =
      let n : at + 3 + length v - (at + 3) ≡ length v = omega arith in
      let d : drop (at + 3) whole ≡ v ++ rest = drop-append-add front (tagged tag v ++ rest) 3 in
      rw (n, d) (take-append_seam v rest)

-- what kind of field it is, and how long its value
abbrev pub entry_for : Item → Option Entry
entry_for (code t v) = Some (Read t)
entry_for (block v) = Some Shares
entry_for (value t kind a b c d) = Some (Write t)

abbrev pub value_bytes : Item → List ℕ
value_bytes (code t v) = v
value_bytes (block v) = v
value_bytes (value t kind a b c d) = kind ∷ a ∷ b ∷ c ∷ d ∷ []

abbrev pub placed_at : Item → ℕ → Placed
placed_at i at = placed (entry_for i) at (value_bytes i)

-- the field is read as it was written
pub tagged_read : (i : Item) (front rest : List ℕ) → field_at (front ++ (item_bytes i ++ rest)) (length front) ≡ placed_at i (length front)
unfolding whole entry_of
tagged_read (code Bcd v) front rest = placed_read front v rest (code_tag Bcd)
tagged_read (code Data1c v) front rest = placed_read front v rest (code_tag Data1c)
tagged_read (code Data2b v) front rest = placed_read front v rest (code_tag Data2b)
tagged_read (code Data2c v) front rest = placed_read front v rest (code_tag Data2c)
tagged_read (block v) front rest = placed_read front v rest 0x05
tagged_read (value Bcd kind a b c d) front rest = placed_read front (kind ∷ a ∷ b ∷ c ∷ d ∷ []) rest (value_tag Bcd)
tagged_read (value Data1c kind a b c d) front rest = placed_read front (kind ∷ a ∷ b ∷ c ∷ d ∷ []) rest (value_tag Data1c)
tagged_read (value Data2b kind a b c d) front rest = placed_read front (kind ∷ a ∷ b ∷ c ∷ d ∷ []) rest (value_tag Data2b)
tagged_read (value Data2c kind a b c d) front rest = placed_read front (kind ∷ a ∷ b ∷ c ∷ d ∷ []) rest (value_tag Data2c)

-- its value too
value_behind : (i : Item) (front rest : List ℕ) → value_at (front ++ (item_bytes i ++ rest)) (placed_at i (length front)) ≡ value_bytes i
unfolding whole
value_behind (code t v) front rest = value_read front v rest (code_tag t) (Some (Read t))
value_behind (block v) front rest = value_read front v rest 0x05 (Some Shares)
value_behind (value t kind a b c d) front rest = value_read front (kind ∷ a ∷ b ∷ c ∷ d ∷ []) rest (value_tag t) (Some (Write t))

entry_line_lem : (i : Item) → entry_line (entry_for i) (value_bytes i) ≡ item_line i
unfolding given_in byte_at
entry_line_lem (code t v) = refl
entry_line_lem (block v) = refl
entry_line_lem (value t kind a b c d) = refl

-- and so its line is that item's
pub line_behind : (i : Item) (front rest : List ℕ) → line_at (front ++ (item_bytes i ++ rest)) (placed_at i (length front)) ≡ item_line i
line_behind i front rest = ap (λ (v : List ℕ). entry_line (entry_for i) v) (value_behind i front rest) ∙ entry_line_lem i
