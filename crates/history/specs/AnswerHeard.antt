-- What all heard since the last AA while an owner reads an answer: its own part and the acknowledgements (01, "Acknowledgement",
-- "Answer"); and in that answer a broken pair (02, E6). Assumes nothing.
use Rattle.std.specs.Prelude.{◌≡◌, Bool, List, [], ◌∷◌, ◌++◌, ℕ, ◌+◌, ◌≤◌, length, get_or, take}
use Rattle.wire.specs.Form.{telegram_form}
use Rattle.wire.specs.Pair.{expand}
use Rattle.wire.specs.Reading.{Wrong}
use Rattle.wire.specs.declared.pair.WrongPair.{WrongPair}
use Rattle.wire.specs.declared.part.Part.TheVariants.{AnswerPart}
use Rattle.wire.specs.declared.part.Telegram.{Telegram}
use Rattle.wire.specs.declared.reader.Outcome.TheVariants.{Whole}
use Rattle.station.specs.declared.phase.Sound.{Sound}
use Rattle.station.specs.declared.phase.Sound.TheVariants.{Symbol}
use Rattle.history.specs.Share.{Time, once, again}
use Rattle.history.specs.Verdict.{verdict}

-- the owner's part went out once, or once more after FF
abbrev pub part_out : Telegram → Time → List ℕ
part_out t once = telegram_form t
part_out t again = telegram_form t ++ (0xFF ∷ telegram_form t)

-- what stands before the first symbol of an answer: the part and 00; where the answer is repeated, also the first one, whole, and FF
pub data BeforeAnswer (t : Telegram) : Time → List ℕ → Type 0 where
  taken : (n : Time) → BeforeAnswer t once (part_out t n ++ (0x00 ∷ []))
  refused : {xs : List ℕ} (ys : List ℕ) {matched : Bool} → BeforeAnswer t once xs → verdict AnswerPart ys ≡ Whole matched
      → BeforeAnswer t again ((xs ++ ys) ++ (0xFF ∷ []))

-- of all that was heard, these are the symbols of the answer, from its first on
pub record AnswerHeard (t : Telegram) (n : Time) (answer all : List ℕ) : Type 0 where
  pub before : List ℕ
  pub opens : BeforeAnswer t n before
  pub is : all ≡ before ++ answer

-- a broken pair with its A9 in place p, from 0, and x behind it, in these symbols of an answer, from its first on
pub record BrokenIn (answer : List ℕ) (p x : ℕ) : Type 0 where
  -- number p is A9, number p + 1 is x, and x is the last
  pub escape : get_or answer p 0 ≡ 0xA9
  pub behind : get_or answer (p + 1) 0 ≡ x
  pub last : length answer ≡ p + 2
  -- x is none of 00, 01 and AA
  pub wrong : Wrong x
  -- the symbols before are undone without a fault: NN, and the expansion of some data bytes, as many as NN at most
  pub nn : ℕ
  pub bytes : List ℕ
  pub undone : take p answer ≡ nn ∷ expand bytes
  pub most : nn ≤ 16
  pub few : length bytes ≤ nn

-- which pair was broken, in what all heard since the last AA and now: the symbol after its A9 is the one just heard
pub record PairIsThere (since : List ℕ) (now : Sound) (x : WrongPair) : Type 0 where
  pub telegram : Telegram
  pub time : Time
  pub answer : List ℕ
  pub just : now ≡ Symbol x.symbol
  pub heard : AnswerHeard telegram time answer (since ++ (x.symbol ∷ []))
  pub there : BrokenIn answer x.position x.symbol
