-- The wire form of a part (01, "Wire form"), and the wire buffer that holds it. Assumes nothing.
use Rattle.std.specs.Prelude.{ℕ, ◌+◌, ◌-◌, List, [], ◌∷◌, ◌++◌, length, take, replicate}
use Rattle.std.proofs.lemmas.List.Edits.{sets}
use Rattle.crc.specs.Crc.{crc_of}
use Rattle.wire.specs.Load.{fitting}
use Rattle.wire.specs.Pair.{expand_one, expand}
use Rattle.wire.specs.declared.form.Wire.{Wire}
use Rattle.wire.specs.declared.part.Load.{Load}
use Rattle.wire.specs.declared.part.Telegram.{Telegram}

-- what stands before NN, NN, the data: the symbols that the CRC covers
unfoldable pub covered : List ℕ → List ℕ → List ℕ
covered head bytes = head ++ (length bytes ∷ expand bytes)

-- a part: the symbols that the CRC covers, and the CRC
unfoldable pub form : List ℕ → List ℕ → List ℕ
form head bytes = covered head bytes ++ expand_one (crc_of (covered head bytes))

-- what stands before NN in a master part; in an answer nothing does
abbrev pub head_of : Telegram → List ℕ
head_of t = t.qq ∷ t.zz ∷ t.pb ∷ t.sb ∷ []

-- the bytes that a load carries
abbrev pub bytes_of : Load → List ℕ
bytes_of l = take l.nn l.bytes

-- how many they are
unfoldable pub count_of : Load → ℕ
count_of l = fitting l.nn

-- master part: QQ ZZ PB SB NN, data, CRC
unfoldable pub telegram_form : Telegram → List ℕ
telegram_form t = form (head_of t) (bytes_of t.load)

-- answer: NN, data, CRC
unfoldable pub answer_form : Load → List ℕ
answer_form l = form [] (bytes_of l)

-- the symbols for which the wire buffer has room: those of the longest master part (02, E8)
abbrev pub room : ℕ
room = 39

-- a buffer that holds these symbols, and zeros behind them
unfoldable pub holding : List ℕ → Wire
holding xs = record { bytes = xs ++ replicate (room - length xs) 0; len = length xs }

-- the symbols that a buffer holds
abbrev pub held_by : Wire → List ℕ
held_by w = take w.len w.bytes

-- a buffer with these symbols more
unfoldable pub appended : Wire → List ℕ → Wire
appended w ys = record { bytes = sets w.bytes w.len ys; len = w.len + length ys }
