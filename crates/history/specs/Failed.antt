-- Why a station is told failed, number by number (01, "Sending", "Reading", "Acknowledgement"). Assumes nothing.
use Rattle.std.specs.Prelude.{◌≡◌, ◌≢◌, Bool, false, List, [], ◌∷◌, ◌++◌, ℕ}
use Rattle.std.proofs.Math.Option.{Option, none}
use Rattle.wire.specs.Form.{answer_form}
use Rattle.wire.specs.declared.pair.WrongPair.{WrongPair}
use Rattle.wire.specs.declared.part.Part.TheVariants.{AnswerPart}
use Rattle.wire.specs.declared.part.Telegram.{Telegram}
use Rattle.wire.specs.declared.reader.Outcome.TheVariants.{TooLong, BrokenPair}
use Rattle.station.specs.declared.phase.Sound.{Sound}
use Rattle.station.specs.declared.phase.Sound.TheVariants.{Symbol}
use Rattle.history.specs.Moments.{Answers, is_symbol}
use Rattle.history.specs.Share.{Time, again, Sender, asker, Share, sends, awaits, reads, judges, owes}
use Rattle.history.specs.Verdict.{verdict}
use Rattle.history.specs.Observer.{Report, silence, owns, taken, free, given, answered, failed, failed_free}

-- the number of a failure, and 0 where none is told
abbrev pub number_in : Report → ℕ
number_in silence = 0
number_in owns = 0
number_in taken = 0
number_in free = 0
number_in given = 0
number_in answered = 0
number_in (failed k x) = k
number_in (failed_free k x) = k

-- which pair was broken, where that is told
abbrev pub pair_in : Report → Option WrongPair
pair_in silence = none
pair_in owns = none
pair_in taken = none
pair_in free = none
pair_in given = none
pair_in answered = none
pair_in (failed k x) = x
pair_in (failed_free k x) = x

-- neither 00 nor FF nor AA
pub record Another (b : ℕ) : Type 0 where
  pub not_ack : b ≢ 0x00
  pub not_nak : b ≢ 0xFF
  pub not_syn : b ≢ 0xAA

-- what a sender or an owner fails by, with its answers as the slot begins and what is heard
pub data Fails (book : Answers) : ℕ → Share → Sound → Type 0 where
  -- 1: it sends its part, the owner or a slave, and hears anything but its own symbol, quiet too
  disturbed : {s : Sender} {n : Time} {y : ℕ} {ys : List ℕ} {h : Sound} → is_symbol y h ≡ false → Fails book 1 (sends s n y ys) h
  disturbed_first : {pb sb y : ℕ} {ys : List ℕ} {h : Sound} → answer_form (book pb sb) ≡ y ∷ ys → is_symbol y h ≡ false
      → Fails book 1 (owes pb sb) h
  -- 2: the next symbol after its part is another than 00, FF and AA; likewise after the answer that the owner read
  no_acknowledgement : {s : Sender} {n : Time} {b : ℕ} → Another b → Fails book 2 (awaits s n) (Symbol b)
  answer_not_acknowledged : {t : Telegram} {n : Time} {xs : List ℕ} {matched just : Bool} {b : ℕ} → Another b
      → Fails book 2 (judges (asker t) n xs matched just) (Symbol b)
  -- 2: the owner hears 00 after a wrong CRC
  wrong_taken : {t : Telegram} {n : Time} {xs : List ℕ} {just : Bool} {b : ℕ} → b ≡ 0x00 → Fails book 2 (judges (asker t) n xs false just) (Symbol b)
  -- 3: FF a second time
  nak_twice : {s : Sender} {b : ℕ} → b ≡ 0xFF → Fails book 3 (awaits s again) (Symbol b)
  answer_nak_twice : {t : Telegram} {xs : List ℕ} {matched just : Bool} {b : ℕ} → b ≡ 0xFF → Fails book 3 (judges (asker t) again xs matched just) (Symbol b)
  -- 4: AA instead of the acknowledgement, or while the owner awaits or reads an answer, also right after an A9
  syn_heard : {s : Sender} {n : Time} {b : ℕ} → b ≡ 0xAA → Fails book 4 (awaits s n) (Symbol b)
  syn_in_answer : {t : Telegram} {n : Time} {xs : List ℕ} {b : ℕ} → b ≡ 0xAA → Fails book 4 (reads (asker t) n xs) (Symbol b)
  syn_after_answer : {t : Telegram} {n : Time} {xs : List ℕ} {matched just : Bool} {b : ℕ} → b ≡ 0xAA → Fails book 4 (judges (asker t) n xs matched just) (Symbol b)
  -- 5: the owner reads an A9 in an answer, and another symbol than 00, 01 or AA behind it
  pair_broken : {t : Telegram} {n : Time} {xs : List ℕ} {b : ℕ} {x : WrongPair} → b ≢ 0xAA → verdict AnswerPart (xs ++ (b ∷ [])) ≡ BrokenPair x
      → Fails book 5 (reads (asker t) n xs) (Symbol b)
  -- 5: the owner reads an NN above 16 in an answer
  over_long : {t : Telegram} {n : Time} {xs : List ℕ} {b : ℕ} → b ≢ 0xAA → verdict AnswerPart (xs ++ (b ∷ [])) ≡ TooLong
      → Fails book 5 (reads (asker t) n xs) (Symbol b)

-- which pair is told of: the owner reads an answer, and with this symbol, not AA, a pair in it is broken
pub data Breaks (x : WrongPair) : Share → Sound → Type 0 where
  in_answer : {t : Telegram} {n : Time} {xs : List ℕ} {b : ℕ} → b ≢ 0xAA → verdict AnswerPart (xs ++ (b ∷ [])) ≡ BrokenPair x → Breaks x (reads (asker t) n xs) (Symbol b)
