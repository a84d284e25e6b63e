-- Broken pairs (02, E6): the reading that came to one, and some worked out by hand. Assumes nothing.
use Rattle.std.specs.Prelude.{◌≡◌, ℕ, List, [], ◌∷◌, ◌++◌, map, refl}
use Rattle.address.specs.Half.{half_index}
use Rattle.address.specs.Master.{is_master}
use Rattle.crc.specs.Crc.{times_x, times_xⁿ, crc_step}
use Rattle.wire.specs.Load.{empty_load}
use Rattle.wire.specs.Pair.{undo_first, undo_second, undo}
use Rattle.wire.specs.Reader.{start_of, master_start, answer_start, ended, more, onward, place_after, read_qq, read_head, read_nn, read_byte, read_data, read_crc, read_place, read_one}
use Rattle.wire.specs.Reading.{Read, read_all, BrokenAt, before}
use Rattle.wire.specs.Symbol.{kind_of}
use Rattle.wire.specs.declared.pair.WrongPair.{WrongPair}
use Rattle.wire.specs.declared.part.Part.{Part}
use Rattle.wire.specs.declared.part.Part.TheVariants.{MasterPart, AnswerPart}
use Rattle.wire.specs.declared.part.Telegram.{Telegram}
use Rattle.wire.specs.declared.reader.Outcome.{Outcome}
use Rattle.wire.specs.declared.reader.Outcome.TheVariants.{BrokenPair}

-- of these symbols, from a part's first on, some were read, up to the pair; the others are left
pub record StopsAt (w : Part) (symbols : List ℕ) (x : WrongPair) (r : Read) : Type 0 where
  pub upto : List ℕ
  pub all : symbols ≡ upto ++ r.rest
  pub broken : BrokenAt (before w r.step.part) upto x

-- the symbols of a part, where the A9 of its broken pair stands, and the symbol after it
pub record Worked : Type 0 where
  pub part : Part
  pub symbols : List ℕ
  pub position : ℕ
  pub symbol : ℕ

abbrev pub worked : Part → List ℕ → ℕ → ℕ → Worked
worked w xs p x = record { part = w; symbols = xs; position = p; symbol = x }

-- nothing is read yet
abbrev pub unread : Telegram
unread = record { qq = 0; zz = 0; pb = 0; sb = 0; load = empty_load }

-- what the reader comes to, and what it is to come to
abbrev pub comes_to : Worked → Outcome
comes_to e = (read_all (start_of e.part) unread e.symbols).step.outcome

abbrev pub is_to : Worked → Outcome
is_to e = BrokenPair (record { position = e.position; symbol = e.symbol })

unfoldable pub broken : List Worked
broken =
    -- an answer's only data byte, and the last of two
    worked AnswerPart (0x01 ∷ 0xA9 ∷ 0x05 ∷ []) 1 0x05
    ∷ worked AnswerPart (0x02 ∷ 0x64 ∷ 0xA9 ∷ 0xFF ∷ []) 2 0xFF
    -- right behind another pair, which is two symbols and one byte
    ∷ worked AnswerPart (0x02 ∷ 0xA9 ∷ 0x01 ∷ 0xA9 ∷ 0x05 ∷ []) 3 0x05
    -- A9 A9
    ∷ worked AnswerPart (0x01 ∷ 0xA9 ∷ 0xA9 ∷ []) 1 0xA9
    -- the CRC of an empty answer, and that behind a pair
    ∷ worked AnswerPart (0x00 ∷ 0xA9 ∷ 0x02 ∷ []) 1 0x02
    ∷ worked AnswerPart (0x01 ∷ 0xA9 ∷ 0x00 ∷ 0xA9 ∷ 0x10 ∷ []) 3 0x10
    -- a master part counts from its QQ
    ∷ worked MasterPart (0x10 ∷ 0x08 ∷ 0x50 ∷ 0x02 ∷ 0x01 ∷ 0xA9 ∷ 0x05 ∷ []) 5 0x05
    ∷ []

-- each of them is read so
pub broken_hold : map comes_to broken ≡ map is_to broken
unfolding broken read_all read_one read_place read_qq read_head read_nn read_byte read_data read_crc place_after onward more ended master_start answer_start undo undo_first undo_second kind_of crc_step times_xⁿ times_x is_master half_index
broken_hold = refl
