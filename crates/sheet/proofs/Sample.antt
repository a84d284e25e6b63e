-- The lines of E2 as the program prints them, computed from its definition. Assumes nothing.
use mathlib.Core.Path.{◌≡◌, refl}
use mathlib.Core.List.{List, [], ◌∷◌, ◌++◌}
use Prim.Native.Nat.{ℕ, ◌<◌}
use borrow.Author.Tests.{lt-ltb}
use lib.Ieee.{of_int, mul, div, neg, lt, eq, to_unsigned, of_bits}
use lib.ListN.{length}
use Rattle.walk.specs.Field.{byte_at, pair_at}
use Rattle.walk.specs.Form.{most}
use Rattle.value.specs.Block.{percents_of, shares_of, block_of}
use Rattle.value.specs.Read.{read_bcd, percent_of, read_share, read_signed, read_as}
use Rattle.value.specs.Steps.{steps_of, size_of, count_of}
use Rattle.value.specs.Write.{two, bcd_of}
use Rattle.scenario.specs.Lines.{hexes_text}
use Rattle.scenario.specs.Pen.{hex_digit, hex_text, last_digit, digits_of, decimal_text}
use Rattle.sheet.specs.Decimal.{fraction_text, steps_text, float_text}
use Rattle.sheet.specs.Field.{entry_of, field_at}
use Rattle.sheet.specs.Form.{form_from, form_of}
use Rattle.sheet.specs.Given.{word_of, of_kind, given_in}
use Rattle.sheet.specs.Lines.{refused_line, shares_text}
use Rattle.sheet.specs.Output.{lines_from, lines_text, values_output}

-- 01 0001 42: `whole 42`
-- 02 0001 47: `percent 35.5`
-- 03 0002 80FF: `temperature -0.5`
-- 03 0002 0100: `temperature 0.00390625`
-- 02 0001 C8: `percent 100`
-- 04 0002 F8F7: `temperature -128.5`
-- 03 0002 0080: `missing`
-- 01 0001 1A: `refused 17`
-- 02 0000: `refused 17`
abbrev pub read_fields : List ℕ
read_fields =
    (0x01 ∷ 0x00 ∷ 0x01 ∷ 0x42 ∷ [])
    ++ (0x02 ∷ 0x00 ∷ 0x01 ∷ 0x47 ∷ [])
    ++ (0x03 ∷ 0x00 ∷ 0x02 ∷ 0x80 ∷ 0xff ∷ [])
    ++ (0x03 ∷ 0x00 ∷ 0x02 ∷ 0x01 ∷ 0x00 ∷ [])
    ++ (0x02 ∷ 0x00 ∷ 0x01 ∷ 0xc8 ∷ [])
    ++ (0x04 ∷ 0x00 ∷ 0x02 ∷ 0xf8 ∷ 0xf7 ∷ [])
    ++ (0x03 ∷ 0x00 ∷ 0x02 ∷ 0x00 ∷ 0x80 ∷ [])
    ++ (0x01 ∷ 0x00 ∷ 0x01 ∷ 0x1a ∷ [])
    ++ (0x02 ∷ 0x00 ∷ 0x00 ∷ [])

abbrev pub read_lines : List ℕ
read_lines =
    (119 ∷ 104 ∷ 111 ∷ 108 ∷ 101 ∷ 32 ∷ 52 ∷ 50 ∷ 10 ∷ [])
    ++ (112 ∷ 101 ∷ 114 ∷ 99 ∷ 101 ∷ 110 ∷ 116 ∷ 32 ∷ 51 ∷ 53 ∷ 46 ∷ 53 ∷ 10 ∷ [])
    ++ (116 ∷ 101 ∷ 109 ∷ 112 ∷ 101 ∷ 114 ∷ 97 ∷ 116 ∷ 117 ∷ 114 ∷ 101 ∷ 32 ∷ 45 ∷ 48 ∷ 46 ∷ 53 ∷ 10 ∷ [])
    ++ (116 ∷ 101 ∷ 109 ∷ 112 ∷ 101 ∷ 114 ∷ 97 ∷ 116 ∷ 117 ∷ 114 ∷ 101 ∷ 32 ∷ 48 ∷ 46 ∷ 48 ∷ 48 ∷ 51 ∷ 57 ∷ 48 ∷ 54 ∷ 50 ∷ 53 ∷ 10 ∷ [])
    ++ (112 ∷ 101 ∷ 114 ∷ 99 ∷ 101 ∷ 110 ∷ 116 ∷ 32 ∷ 49 ∷ 48 ∷ 48 ∷ 10 ∷ [])
    ++ (116 ∷ 101 ∷ 109 ∷ 112 ∷ 101 ∷ 114 ∷ 97 ∷ 116 ∷ 117 ∷ 114 ∷ 101 ∷ 32 ∷ 45 ∷ 49 ∷ 50 ∷ 56 ∷ 46 ∷ 53 ∷ 10 ∷ [])
    ++ (109 ∷ 105 ∷ 115 ∷ 115 ∷ 105 ∷ 110 ∷ 103 ∷ 10 ∷ [])
    ++ (114 ∷ 101 ∷ 102 ∷ 117 ∷ 115 ∷ 101 ∷ 100 ∷ 32 ∷ 49 ∷ 55 ∷ 10 ∷ [])
    ++ (114 ∷ 101 ∷ 102 ∷ 117 ∷ 115 ∷ 101 ∷ 100 ∷ 32 ∷ 49 ∷ 55 ∷ 10 ∷ [])

-- 05 0002 6464: `shares 50 50`
-- 05 0004 46464646: `refused 19`
-- 05 0002 64FF: `refused 18`
-- 05 0003 FF64C9: `refused 17`
abbrev pub block_fields : List ℕ
block_fields =
    (0x05 ∷ 0x00 ∷ 0x02 ∷ 0x64 ∷ 0x64 ∷ [])
    ++ (0x05 ∷ 0x00 ∷ 0x04 ∷ 0x46 ∷ 0x46 ∷ 0x46 ∷ 0x46 ∷ [])
    ++ (0x05 ∷ 0x00 ∷ 0x02 ∷ 0x64 ∷ 0xff ∷ [])
    ++ (0x05 ∷ 0x00 ∷ 0x03 ∷ 0xff ∷ 0x64 ∷ 0xc9 ∷ [])

abbrev pub block_lines : List ℕ
block_lines =
    (115 ∷ 104 ∷ 97 ∷ 114 ∷ 101 ∷ 115 ∷ 32 ∷ 53 ∷ 48 ∷ 32 ∷ 53 ∷ 48 ∷ 10 ∷ [])
    ++ (114 ∷ 101 ∷ 102 ∷ 117 ∷ 115 ∷ 101 ∷ 100 ∷ 32 ∷ 49 ∷ 57 ∷ 10 ∷ [])
    ++ (114 ∷ 101 ∷ 102 ∷ 117 ∷ 115 ∷ 101 ∷ 100 ∷ 32 ∷ 49 ∷ 56 ∷ 10 ∷ [])
    ++ (114 ∷ 101 ∷ 102 ∷ 117 ∷ 115 ∷ 101 ∷ 100 ∷ 32 ∷ 49 ∷ 55 ∷ 10 ∷ [])

-- 12 0005 01420E0000: `code 47`
-- 13 0005 02BF000000: `code 80 FF`
-- 11 0005 000000002F: `code 47`
-- 13 0005 0380000000: `code 00 80`
-- 13 0005 0280000000: `code 00 00`
-- 13 0005 02C3000000: `refused 17`
-- 13 0005 027FC00000: `refused 17`
-- 14 0005 0400000000: `refused 17`
abbrev pub write_fields : List ℕ
write_fields =
    (0x12 ∷ 0x00 ∷ 0x05 ∷ 0x01 ∷ 0x42 ∷ 0x0e ∷ 0x00 ∷ 0x00 ∷ [])
    ++ (0x13 ∷ 0x00 ∷ 0x05 ∷ 0x02 ∷ 0xbf ∷ 0x00 ∷ 0x00 ∷ 0x00 ∷ [])
    ++ (0x11 ∷ 0x00 ∷ 0x05 ∷ 0x00 ∷ 0x00 ∷ 0x00 ∷ 0x00 ∷ 0x2f ∷ [])
    ++ (0x13 ∷ 0x00 ∷ 0x05 ∷ 0x03 ∷ 0x80 ∷ 0x00 ∷ 0x00 ∷ 0x00 ∷ [])
    ++ (0x13 ∷ 0x00 ∷ 0x05 ∷ 0x02 ∷ 0x80 ∷ 0x00 ∷ 0x00 ∷ 0x00 ∷ [])
    ++ (0x13 ∷ 0x00 ∷ 0x05 ∷ 0x02 ∷ 0xc3 ∷ 0x00 ∷ 0x00 ∷ 0x00 ∷ [])
    ++ (0x13 ∷ 0x00 ∷ 0x05 ∷ 0x02 ∷ 0x7f ∷ 0xc0 ∷ 0x00 ∷ 0x00 ∷ [])
    ++ (0x14 ∷ 0x00 ∷ 0x05 ∷ 0x04 ∷ 0x00 ∷ 0x00 ∷ 0x00 ∷ 0x00 ∷ [])

abbrev pub write_lines : List ℕ
write_lines =
    (99 ∷ 111 ∷ 100 ∷ 101 ∷ 32 ∷ 52 ∷ 55 ∷ 10 ∷ [])
    ++ (99 ∷ 111 ∷ 100 ∷ 101 ∷ 32 ∷ 56 ∷ 48 ∷ 32 ∷ 70 ∷ 70 ∷ 10 ∷ [])
    ++ (99 ∷ 111 ∷ 100 ∷ 101 ∷ 32 ∷ 52 ∷ 55 ∷ 10 ∷ [])
    ++ (99 ∷ 111 ∷ 100 ∷ 101 ∷ 32 ∷ 48 ∷ 48 ∷ 32 ∷ 56 ∷ 48 ∷ 10 ∷ [])
    ++ (99 ∷ 111 ∷ 100 ∷ 101 ∷ 32 ∷ 48 ∷ 48 ∷ 32 ∷ 48 ∷ 48 ∷ 10 ∷ [])
    ++ (114 ∷ 101 ∷ 102 ∷ 117 ∷ 115 ∷ 101 ∷ 100 ∷ 32 ∷ 49 ∷ 55 ∷ 10 ∷ [])
    ++ (114 ∷ 101 ∷ 102 ∷ 117 ∷ 115 ∷ 101 ∷ 100 ∷ 32 ∷ 49 ∷ 55 ∷ 10 ∷ [])
    ++ (114 ∷ 101 ∷ 102 ∷ 117 ∷ 115 ∷ 101 ∷ 100 ∷ 32 ∷ 49 ∷ 55 ∷ 10 ∷ [])

-- every definition on the way is unfolded, and the two sides are the same bytes
pub sample_printed : values_output (read_fields ++ block_fields ++ write_fields) ≡ read_lines ++ block_lines ++ write_lines
unfolding byte_at pair_at entry_of field_at form_from form_of word_of of_kind given_in fraction_text steps_text float_text refused_line shares_text lines_from lines_text values_output digits_of last_digit decimal_text hex_digit hex_text hexes_text read_bcd percent_of read_share read_signed read_as percents_of shares_of block_of two bcd_of steps_of size_of count_of of_int mul div neg lt eq to_unsigned of_bits
sample_printed = refl

-- an unknown tag and a cut field: `refused 14 4`; a value to write of four bytes: `refused 14 0`
pub bad_printed :
    (values_output (0x01 ∷ 0x00 ∷ 0x01 ∷ 0x42 ∷ 0x06 ∷ []) ≡ 114 ∷ 101 ∷ 102 ∷ 117 ∷ 115 ∷ 101 ∷ 100 ∷ 32 ∷ 49 ∷ 52 ∷ 32 ∷ 52 ∷ 10 ∷ [])
    × (values_output (0x01 ∷ 0x00 ∷ 0x01 ∷ 0x42 ∷ 0x03 ∷ 0x00 ∷ 0x02 ∷ 0x80 ∷ []) ≡ 114 ∷ 101 ∷ 102 ∷ 117 ∷ 115 ∷ 101 ∷ 100 ∷ 32 ∷ 49 ∷ 52 ∷ 32 ∷ 52 ∷ 10 ∷ [])
    × (values_output (0x11 ∷ 0x00 ∷ 0x04 ∷ 0x00 ∷ 0x00 ∷ 0x00 ∷ 0x00 ∷ []) ≡ 114 ∷ 101 ∷ 102 ∷ 117 ∷ 115 ∷ 101 ∷ 100 ∷ 32 ∷ 49 ∷ 52 ∷ 32 ∷ 48 ∷ 10 ∷ [])
unfolding byte_at pair_at entry_of field_at form_from form_of values_output digits_of last_digit decimal_text
bad_printed = (refl, refl, refl)

-- whatever is too long: `refused 15 65536`
pub long_printed : (s : List ℕ) → most < length s → values_output s ≡ 114 ∷ 101 ∷ 102 ∷ 117 ∷ 115 ∷ 101 ∷ 100 ∷ 32 ∷ 49 ∷ 53 ∷ 32 ∷ 54 ∷ 53 ∷ 53 ∷ 51 ∷ 54 ∷ 10 ∷ []
unfolding form_of values_output digits_of last_digit decimal_text
long_printed s h = simp (lt-ltb most (length s) h)
