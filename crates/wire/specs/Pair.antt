-- The expansion (01, "Wire form"): in data and in the CRC, AA goes out as A9 01 and A9 as A9 00; and which pair is broken (02, E6).
-- Assumes nothing.
use Rattle.std.specs.Prelude.{ℕ, ◌-◌, Bool, true, false, cond, List, [], ◌∷◌, ◌++◌, ◌==◌}
use Rattle.wire.specs.Symbol.{kind_of}
use Rattle.wire.specs.declared.symbol.Kind.{Kind}
use Rattle.wire.specs.declared.symbol.Kind.TheVariants.{Syn, Escape, Count, Plain}
use Rattle.wire.specs.declared.pair.Undone.{Undone}
use Rattle.wire.specs.declared.pair.Undone.TheVariants.{Byte, Opens, Ends, Broken}
use Rattle.wire.specs.declared.pair.WrongPair.{WrongPair}

abbrev pub expand_as : Kind → ℕ → List ℕ
expand_as Syn b = 0xA9 ∷ 0x01 ∷ []
expand_as Escape b = 0xA9 ∷ 0x00 ∷ []
expand_as Count b = b ∷ []
expand_as Plain b = b ∷ []

-- the symbols of one byte
unfoldable pub expand_one : ℕ → List ℕ
expand_one b = expand_as (kind_of b) b

-- the symbols of some bytes
unfoldable pub expand : List ℕ → List ℕ
expand [] = []
expand (b ∷ bs) = expand_one b ++ expand bs

-- (AA stands for nothing, here and after an A9: it ends the reading)
abbrev pub undo_as : Kind → ℕ → Undone
undo_as Syn s = Ends
undo_as Escape s = Opens
undo_as Count s = Byte s
undo_as Plain s = Byte s

-- a symbol with no A9 before it
unfoldable pub undo_first : ℕ → Undone
undo_first s = undo_as (kind_of s) s

-- A9 and then this symbol, which stands at that place of its part, counted from 0: the A9 stands one before it
abbrev pub wrong_pair : ℕ → ℕ → WrongPair
wrong_pair at s = record { position = at - 1; symbol = s }

-- the symbol after an A9, and where it stands
unfoldable pub undo_second : ℕ → ℕ → Undone
undo_second at s =
    cond (s == 0x00) (Byte 0xA9) (cond (s == 0x01) (Byte 0xAA) (cond (s == 0xAA) Ends (Broken (wrong_pair at s))))

-- what a symbol stands for
unfoldable pub undo : Bool → ℕ → ℕ → Undone
undo true at s = undo_second at s
undo false at s = undo_first s
