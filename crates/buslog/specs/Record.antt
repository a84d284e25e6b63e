-- One line of the bench as one tagged record (02, E1, E4 and E6). Assumes nothing.
use Rattle.std.specs.Prelude.{List, [], ◌∷◌, ◌++◌, ℕ, ◌+◌, ◌/◌, ◌%◌, length}
use Rattle.std.proofs.Math.Option.{Option, none, some}
use Rattle.wire.specs.Form.{bytes_of}
use Rattle.wire.specs.declared.pair.WrongPair.{WrongPair}
use Rattle.wire.specs.declared.part.Telegram.{Telegram}
use Rattle.station.specs.Events.{Word, owns, taken, failed, free, given, answer}
use Rattle.bus.specs.Events.{Line}
use Rattle.buslog.specs.declared.record.Tag.{Tag}
use Rattle.buslog.specs.declared.record.Tag.TheVariants.{Owns, Taken, Failed, Free, Given, Answer}

-- 1 to 6 in the order in which 01 names the words
abbrev pub tag_of : Word → ℕ
tag_of owns = 1
tag_of taken = 2
tag_of failed = 3
tag_of free = 4
tag_of given = 5
tag_of answer = 6

-- a number of slots in four bytes, high first
unfoldable pub four_bytes : ℕ → List ℕ
four_bytes n = n / 16777216 % 256 ∷ n / 65536 % 256 ∷ n / 256 % 256 ∷ n % 256 ∷ []

-- a broken pair in two bytes, the position of its A9 and the symbol after it
abbrev pub pair_bytes : Option WrongPair → List ℕ
pair_bytes none = []
pair_bytes (some x) = x.position ∷ x.symbol ∷ []

-- the line's other values, a byte each; behind them a failed line has the position and the symbol of a broken pair, where it is told
-- of one, and a free line the elapsed slots
abbrev pub others_as : Word → List ℕ → Option WrongPair → ℕ → List ℕ
others_as owns vs pair elapsed = vs
others_as taken vs pair elapsed = vs
others_as failed vs pair elapsed = vs ++ pair_bytes pair
others_as free vs pair elapsed = vs ++ four_bytes elapsed
others_as given vs pair elapsed = vs
others_as answer vs pair elapsed = vs

abbrev pub others_of : Line → List ℕ
others_of l = others_as l.event.word l.event.values l.event.pair l.time.elapsed

-- slot number, station, and the others
unfoldable pub value_of : Line → List ℕ
value_of l = four_bytes l.time.slot ++ l.event.station ∷ others_of l

-- tag, length in two bytes high first, value
unfoldable pub record_of : Line → List ℕ
record_of l = tag_of l.event.word ∷ length (value_of l) / 256 ∷ length (value_of l) % 256 ∷ value_of l

-- ---- no rule: a record as the code writes it, proved equal to the above (proofs/Records.antt)

-- the word of a tag in the code
abbrev pub tagged : Tag → Word
tagged Owns = owns
tagged Taken = taken
tagged Failed = failed
tagged Free = free
tagged Given = given
tagged Answer = answer

-- what stands before the other values, of which there are so many
unfoldable pub head_of : ℕ → ℕ → ℕ → ℕ → List ℕ
head_of tag more slot station = tag ∷ (5 + more) / 256 ∷ (5 + more) % 256 ∷ four_bytes slot ++ station ∷ []

abbrev pub given_values : Telegram → List ℕ
given_values t = t.qq ∷ t.pb ∷ t.sb ∷ length (bytes_of t.load) ∷ bytes_of t.load

abbrev pub answer_values : Telegram → List ℕ
answer_values t = t.zz ∷ length (bytes_of t.load) ∷ bytes_of t.load
