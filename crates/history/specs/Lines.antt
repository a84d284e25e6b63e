-- The lines of a station in a slot, and the part that they speak of (01, "Bench program", Lines; "Acknowledgement", "Broadcast",
-- "Answer"). Assumes nothing.
use Rattle.std.specs.Prelude.{◌≡◌, List, [], ◌∷◌, ◌++◌, ℕ, length, drop}
use Rattle.std.proofs.Math.Option.{Option, none}
use Rattle.wire.specs.Form.{bytes_of, telegram_form, answer_form}
use Rattle.wire.specs.declared.pair.WrongPair.{WrongPair}
use Rattle.wire.specs.declared.part.Telegram.{Telegram}
use Rattle.station.specs.Events.{Event, Word}
use Rattle.station.specs.Events as word
use Rattle.station.specs.declared.phase.Sound.{Sound}
use Rattle.station.specs.declared.phase.Sound.TheVariants.{Quiet, Symbol}
use Rattle.history.specs.Share.{Reader, station, asker, Share, over, releases, sends, awaits, reads, judges, owes}
use Rattle.history.specs.Observer.{Report, silence, owns, taken, free, given, answered, failed, failed_free}

abbrev pub line : ℕ → Word → List ℕ → Event
line a w vs = record { station = a; word = w; values = vs; leaving = []; pair = none }

-- failed with its number, and which pair was broken, if one was
abbrev pub failed_line : ℕ → ℕ → Option WrongPair → Event
failed_line a n x = record { station = a; word = word.failed; values = n ∷ []; leaving = []; pair = x }

-- an owner leaves the wire with this telegram
abbrev pub free_line : ℕ → Telegram → Event
free_line a t = record { station = a; word = word.free; values = []; leaving = t.qq ∷ t.zz ∷ []; pair = none }

-- the lines of the station with this address, about this part: failed with its number; given with QQ, PB, SB, NN and data;
-- answer with the slave's address, NN and data
abbrev pub lines : ℕ → Report → Telegram → List Event
lines a silence t = []
lines a owns t = line a word.owns [] ∷ []
lines a taken t = line a word.taken [] ∷ []
lines a free t = free_line a t ∷ []
lines a (failed n x) t = failed_line a n x ∷ []
lines a (failed_free n x) t = failed_line a n x ∷ free_line a t ∷ []
lines a given t = line a word.given (t.qq ∷ t.pb ∷ t.sb ∷ length (bytes_of t.load) ∷ bytes_of t.load) ∷ []
lines a answered t = line a word.answer (t.zz ∷ length (bytes_of t.load) ∷ bytes_of t.load) ∷ []

-- the symbols of the part that is handed out in a slot: a broadcast with its last symbol, any other part as it was read
abbrev pub part_in : Share → Sound → List ℕ
part_in over h = []
part_in releases h = []
part_in (sends s n y ys) h = []
part_in (awaits s n) h = []
part_in (reads r n xs) Quiet = []
part_in (reads r n xs) (Symbol b) = xs ++ (b ∷ [])
part_in (judges r n xs matched just) h = xs
part_in (owes pb sb) h = []

abbrev pub asked_by : Reader → ℕ
asked_by (station a m) = 0
asked_by (asker t) = t.zz

-- the ZZ to which the owner sent the telegram that is answered
abbrev pub asked_in : Share → ℕ
asked_in over = 0
asked_in releases = 0
asked_in (sends s n y ys) = 0
asked_in (awaits s n) = 0
asked_in (reads r n xs) = asked_by r
asked_in (judges r n xs matched just) = asked_by r
asked_in (owes pb sb) = 0

-- what is handed out was heard: the symbols are exactly its wire form; the line of an answer names the ZZ that was asked
pub record HandsOut (u : Share) (h : Sound) (r : Report) (t : Telegram) : Type 0 where
  pub part : r ≡ given → telegram_form t ≡ part_in u h
  pub answer : r ≡ answered → answer_form t.load ≡ part_in u h
  pub from : r ≡ answered → t.zz ≡ asked_in u

-- the telegrams that are left: the one held longest leaves exactly where free is told
abbrev pub left_by : Report → List Telegram → List Telegram
left_by silence ts = ts
left_by owns ts = ts
left_by taken ts = ts
left_by free ts = drop 1 ts
left_by (failed n x) ts = ts
left_by (failed_free n x) ts = drop 1 ts
left_by given ts = ts
left_by answered ts = ts
