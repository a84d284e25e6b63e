-- The proved examples P1 to P7 (01, "Proved examples"). Assumes nothing.
use Rattle.std.specs.Prelude.{◌≡◌, ℕ, List, [], ◌∷◌, map, refl}
use Rattle.crc.specs.Crc.{times_x, times_xⁿ, crc_step, crc_from, crc_of}
use Rattle.wire.specs.Symbol.{kind_of}
use Rattle.wire.specs.Pair.{expand_one, expand}
use Rattle.wire.specs.Form.{covered, form}

pub record Example : Type 0 where
  -- its number in 01
  pub number : ℕ
  -- what stands before NN, and the data bytes
  pub head : List ℕ
  pub bytes : List ℕ
  -- the symbols that 01 writes
  pub wire : List ℕ

-- the symbols that the definitions give
abbrev pub given : Example → List ℕ
given e = form e.head e.bytes

-- QQ 10, ZZ 08, PB 50, SB 02; in an answer nothing
abbrev pub master_head : List ℕ
master_head = 0x10 ∷ 0x08 ∷ 0x50 ∷ 0x02 ∷ []

abbrev pub answer_head : List ℕ
answer_head = []

unfoldable pub examples : List Example
examples =
    -- P1: no data, CRC 38
    record { number = 1; head = master_head; bytes = []; wire = 0x10 ∷ 0x08 ∷ 0x50 ∷ 0x02 ∷ 0x00 ∷ 0x38 ∷ [] }
    -- P2: data AA, sent A9 01; CRC DC (7E over unexpanded data)
    ∷ record { number = 2; head = master_head; bytes = 0xAA ∷ []; wire = 0x10 ∷ 0x08 ∷ 0x50 ∷ 0x02 ∷ 0x01 ∷ 0xA9 ∷ 0x01 ∷ 0xDC ∷ [] }
    -- P3: data A9, sent A9 00; CRC DD
    ∷ record { number = 3; head = master_head; bytes = 0xA9 ∷ []; wire = 0x10 ∷ 0x08 ∷ 0x50 ∷ 0x02 ∷ 0x01 ∷ 0xA9 ∷ 0x00 ∷ 0xDD ∷ [] }
    -- P4: data 7E; CRC AA, sent A9 01
    ∷ record { number = 4; head = master_head; bytes = 0x7E ∷ []; wire = 0x10 ∷ 0x08 ∷ 0x50 ∷ 0x02 ∷ 0x01 ∷ 0x7E ∷ 0xA9 ∷ 0x01 ∷ [] }
    -- P5: data 7D; CRC A9, sent A9 00
    ∷ record { number = 5; head = master_head; bytes = 0x7D ∷ []; wire = 0x10 ∷ 0x08 ∷ 0x50 ∷ 0x02 ∷ 0x01 ∷ 0x7D ∷ 0xA9 ∷ 0x00 ∷ [] }
    -- P6: answer 01 64; CRC FF
    ∷ record { number = 6; head = answer_head; bytes = 0x64 ∷ []; wire = 0x01 ∷ 0x64 ∷ 0xFF ∷ [] }
    -- P7: empty answer; CRC 00
    ∷ record { number = 7; head = answer_head; bytes = []; wire = 0x00 ∷ 0x00 ∷ [] }
    ∷ []

-- each of them goes over the wire as 01 writes it
pub examples_hold : map given examples ≡ map (λ (e : Example). e.wire) examples
unfolding examples form covered expand expand_one kind_of crc_of crc_from crc_step times_xⁿ times_x
examples_hold = refl
