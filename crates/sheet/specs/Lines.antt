-- The line of a field (02, E2): what was read, the shares of a block, the code that was written, or what refused it.
-- Assumes nothing.
use Rattle.std.specs.Prelude.{List, [], ◌∷◌, ◌++◌, ℕ, Float, Option, Some, None, Result, Ok, Err}
use Rattle.value.specs.Answers.{reading_number, code_number, code_bytes, fault_number, block_percents}
use Rattle.value.specs.Block.{block_of}
use Rattle.value.specs.Read.{read_as}
use Rattle.value.specs.Write.{write_as}
use Rattle.value.specs.declared.block.BlockError.{BlockError}
use Rattle.value.specs.declared.block.Shares.{Shares as BlockShares}
use Rattle.value.specs.declared.value.DataType.{DataType}
use Rattle.value.specs.declared.value.Value.{Value}
use Rattle.value.specs.declared.value.Value.TheVariants.{Whole, Percent, Temperature, Missing}
use Rattle.value.specs.declared.write.Code.{Code}
use Rattle.scenario.specs.Lines.{newline, hexes_text, refused_text}
use Rattle.scenario.specs.Pen.{decimal_text}
use Rattle.sheet.specs.declared.field.Entry.{Entry}
use Rattle.sheet.specs.declared.field.Entry.TheVariants.{Read, Shares, Write}
use Rattle.sheet.specs.declared.field.Placed.{Placed}
use Rattle.sheet.specs.Decimal.{float_text}
use Rattle.sheet.specs.Field.{value_at}
use Rattle.sheet.specs.Given.{given_in}

-- "whole ", "percent ", "temperature ", "missing", "shares", "code"
abbrev pub whole_word : List ℕ
whole_word = 119 ∷ 104 ∷ 111 ∷ 108 ∷ 101 ∷ 32 ∷ []

abbrev pub percent_word : List ℕ
percent_word = 112 ∷ 101 ∷ 114 ∷ 99 ∷ 101 ∷ 110 ∷ 116 ∷ 32 ∷ []

abbrev pub temperature_word : List ℕ
temperature_word = 116 ∷ 101 ∷ 109 ∷ 112 ∷ 101 ∷ 114 ∷ 97 ∷ 116 ∷ 117 ∷ 114 ∷ 101 ∷ 32 ∷ []

abbrev pub missing_word : List ℕ
missing_word = 109 ∷ 105 ∷ 115 ∷ 115 ∷ 105 ∷ 110 ∷ 103 ∷ []

abbrev pub shares_word : List ℕ
shares_word = 115 ∷ 104 ∷ 97 ∷ 114 ∷ 101 ∷ 115 ∷ []

abbrev pub code_word : List ℕ
code_word = 99 ∷ 111 ∷ 100 ∷ 101 ∷ []

-- `refused N`
unfoldable pub refused_line : ℕ → List ℕ
refused_line n = refused_text ++ decimal_text n ++ newline

-- `whole 42`, `percent 35.5`, `temperature -0.5`, `missing`
abbrev pub value_text : Value → List ℕ
value_text (Whole n) = whole_word ++ decimal_text n
value_text (Percent x) = percent_word ++ float_text x
value_text (Temperature x) = temperature_word ++ float_text x
value_text Missing = missing_word

abbrev pub reading_line : Option Value → List ℕ
reading_line (Some v) = value_text v ++ newline
reading_line None = refused_line (reading_number None)

-- in percent, each with a blank before it
unfoldable pub shares_text : List Float → List ℕ
shares_text [] = []
shares_text (x ∷ xs) = 32 ∷ float_text x ++ shares_text xs

-- `shares 50 50`
abbrev pub block_line : Result BlockShares BlockError → List ℕ
block_line (Ok s) = shares_word ++ shares_text (block_percents (Ok s)) ++ newline
block_line (Err e) = refused_line (fault_number e)

-- `code 47`, `code 80 FF`
abbrev pub code_text : Code → List ℕ
code_text c = code_word ++ hexes_text (code_bytes (Some c))

abbrev pub code_line : Option Code → List ℕ
code_line (Some c) = code_text c ++ newline
code_line None = refused_line (code_number None)

-- a kind above 3 is refused as a value without a code is
abbrev pub written_line : DataType → Option Value → List ℕ
written_line t (Some v) = code_line (write_as t v)
written_line t None = refused_line (code_number None)

-- of a field and its value; a field that is none has no line, and its sheet is refused
abbrev pub entry_line : Option Entry → List ℕ → List ℕ
entry_line (Some (Read t)) v = reading_line (read_as t v)
entry_line (Some Shares) v = block_line (block_of v)
entry_line (Some (Write t)) v = written_line t (given_in v)
entry_line None v = []

abbrev pub line_at : List ℕ → Placed → List ℕ
line_at s p = entry_line p.entry (value_at s p)
