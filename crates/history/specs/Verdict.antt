-- What the symbols of a part come to, read as a whole from the first on (01, "Wire form", "Reading"). Assumes nothing.
use Rattle.std.specs.Prelude.{Bool, true, false, cond, List, [], ◌∷◌, ℕ, ◌+◌, eqb, ltb, leb, length, get_or, take, drop}
use Rattle.address.specs.Master.{is_master}
use Rattle.crc.specs.Crc.{crc_of}
use Rattle.wire.specs.Form.{covered}
use Rattle.wire.specs.declared.part.Part.{Part}
use Rattle.wire.specs.declared.part.Part.TheVariants.{MasterPart, AnswerPart}
use Rattle.wire.specs.declared.reader.Outcome.{Outcome}
use Rattle.wire.specs.declared.reader.Outcome.TheVariants.{More, NoMaster, Unusable, TooLong, BrokenPair, Whole}

-- data and CRC with the expansion undone: the bytes; bytes and an A9 that waits for its second; or, so many symbols on, an A9 before
-- another symbol, this one
pub data Plainly : Type 0 where
  bytes : List ℕ → Plainly
  waits : Plainly
  broken : ℕ → ℕ → Plainly

-- a byte, of so many symbols, and what stands behind it
abbrev pub behind : ℕ → ℕ → Plainly → Plainly
behind n b (bytes bs) = bytes (b ∷ bs)
behind n b waits = waits
behind n b (broken i y) = broken (n + i) y

-- A9 00 is A9, A9 01 is AA
abbrev pub unexpanded : List ℕ → Plainly
unexpanded [] = bytes []
unexpanded (x ∷ []) = cond (eqb x 0xA9) waits (bytes (x ∷ []))
unexpanded (x ∷ y ∷ ys) =
    cond (eqb x 0xA9)
    (cond (eqb y 0x00) (behind 2 0xA9 (unexpanded ys)) (cond (eqb y 0x01) (behind 2 0xAA (unexpanded ys)) (broken 0 y)))
    (behind 1 x (unexpanded (y ∷ ys)))

-- NN data bytes, and the CRC behind them, which matches or not; a broken pair is counted from the part's first symbol
abbrev pub after_nn : List ℕ → ℕ → Plainly → Outcome
after_nn head n (bytes bs) = cond (ltb n (length bs)) (Whole (eqb (get_or bs n 0) (crc_of (covered head (take n bs))))) More
after_nn head n waits = More
after_nn head n (broken i y) = BrokenPair (record { position = length head + 1 + i; symbol = y })

-- from NN on, behind these symbols: NN is at most 16
abbrev pub from_nn : List ℕ → List ℕ → Outcome
from_nn head [] = More
from_nn head (n ∷ xs) = cond (leb n 16) (after_nn head n (unexpanded xs)) TooLong

-- QQ is a master address
abbrev pub by_master : List ℕ → Bool
by_master [] = true
by_master (q ∷ xs) = is_master q

-- one of these is A9
abbrev pub any_escape : List ℕ → Bool
any_escape [] = false
any_escape (x ∷ xs) = cond (eqb x 0xA9) true (any_escape xs)

-- a master part: QQ, then ZZ, PB and SB, then from NN on; an answer has nothing before NN
unfoldable pub verdict : Part → List ℕ → Outcome
verdict MasterPart xs =
    cond (by_master xs) (cond (any_escape (take 3 (drop 1 xs))) Unusable (from_nn (take 4 xs) (drop 4 xs))) NoMaster
verdict AnswerPart xs = from_nn [] xs
