-- A sheet as whoever writes one has it, and its bytes: for each field its tag, the length of its value in two bytes (high byte first),
-- and its value (02, E2). Assumes nothing.
use Rattle.std.specs.Prelude.{List, [], ◌∷◌, ◌++◌, ℕ, ◌/◌, ◌%◌}
use Rattle.walk.specs.Tagged.{tagged}
use Rattle.value.specs.Block.{block_of}
use Rattle.value.specs.Read.{read_as}
use Rattle.value.specs.declared.value.DataType.{DataType}
use Rattle.value.specs.declared.value.DataType.TheVariants.{Bcd, Data1c, Data2b, Data2c}
use Rattle.sheet.specs.Given.{of_kind, word_of}
use Rattle.sheet.specs.Lines.{reading_line, block_line, written_line}

-- a code to read, of any length; a block; a value to write, by its kind and four bytes
pub data Item : Type 0 where
  code : DataType → List ℕ → Item
  block : List ℕ → Item
  value : DataType → ℕ → ℕ → ℕ → ℕ → ℕ → Item

abbrev pub code_tag : DataType → ℕ
code_tag Bcd = 0x01
code_tag Data1c = 0x02
code_tag Data2b = 0x03
code_tag Data2c = 0x04

abbrev pub value_tag : DataType → ℕ
value_tag Bcd = 0x11
value_tag Data1c = 0x12
value_tag Data2b = 0x13
value_tag Data2c = 0x14

abbrev pub item_bytes : Item → List ℕ
item_bytes (code t v) = tagged (code_tag t) v
item_bytes (block v) = tagged 0x05 v
item_bytes (value t kind a b c d) = tagged (value_tag t) (kind ∷ a ∷ b ∷ c ∷ d ∷ [])

-- a number's four bytes, high first
abbrev pub high_first : ℕ → List ℕ
high_first n = n / 16777216 ∷ n / 65536 % 256 ∷ n / 256 % 256 ∷ n % 256 ∷ []

-- fields one after the other
unfoldable pub sheet_of : List Item → List ℕ
sheet_of [] = []
sheet_of (i ∷ is) = item_bytes i ++ sheet_of is

-- the line of each
abbrev pub item_line : Item → List ℕ
item_line (code t v) = reading_line (read_as t v)
item_line (block v) = block_line (block_of v)
item_line (value t kind a b c d) = written_line t (of_kind kind (word_of a b c d))

-- one behind the other
unfoldable pub item_lines : List Item → List ℕ
item_lines [] = []
item_lines (i ∷ is) = item_line i ++ item_lines is
