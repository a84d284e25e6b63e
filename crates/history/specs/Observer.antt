-- What a station says in a slot and what it is told in it, in 01's words, from what its users see (01, "A slot" to "Release").
-- Assumes nothing.
use Rattle.std.specs.Prelude.{Bool, false, cond, List, [], ◌∷◌, ◌++◌, ℕ, eqb}
use Rattle.std.proofs.Math.Option.{Option, none}
use Rattle.std.proofs.Math.Option as option
use Rattle.wire.specs.Form.{answer_form}
use Rattle.wire.specs.declared.pair.WrongPair.{WrongPair}
use Rattle.wire.specs.declared.part.Telegram.{Telegram}
use Rattle.wire.specs.declared.reader.Outcome.{Outcome}
use Rattle.wire.specs.declared.reader.Outcome.TheVariants.{More, Cut, NoMaster, Unusable, TooLong, BrokenPair, Whole}
use Rattle.station.specs.Events.{number_of, pair_of}
use Rattle.station.specs.declared.phase.Sound.{Sound}
use Rattle.station.specs.declared.phase.Sound.TheVariants.{Quiet, Symbol}
use Rattle.station.specs.declared.phase.Told.{Told}
use Rattle.station.specs.declared.phase.Told.TheVariants.{Silence, Owns, Taken, Failed, Free, FailedFree, Given, Answered}
use Rattle.history.specs.Moments.{Answers, Moment, by_sound, is_symbol, History}
use Rattle.history.specs.Verdict.{verdict}
use Rattle.history.specs.Share.{Time, once, again, Sender, owner, slave, Reader, station, asker, Share, over, releases, sends, awaits, reads, judges, owes, sends_to_all, reads_for_all, which_of, part_read, own_sent}
use Rattle.history.specs.Admission.{some, admitted_by}

-- the lines of one station in one slot, but for the part that they speak of
pub data Report : Type 0 where
  silence owns taken free given answered : Report
  -- failed, with its number and, by a broken pair, which it was; and whether the station leaves the wire in that slot, free
  failed : ℕ → Option WrongPair → Report
  failed_free : ℕ → Option WrongPair → Report

-- what is told, with the number printed and the pair that is not
abbrev pub report_of : Told → Report
report_of Silence = silence
report_of Owns = owns
report_of Taken = taken
report_of (Failed f) = failed (number_of f) (pair_of f)
report_of Free = free
report_of (FailedFree f) = failed_free (number_of f) (pair_of f)
report_of Given = given
report_of Answered = answered

-- ---- who it is, and where it stands

-- it sends its QQ: it is the slot after AA, it is admitted, and a telegram waits
abbrev pub bidding : Bool → List Moment → List Telegram → Bool
bidding admitted [] waits = cond admitted (some waits) false
bidding admitted (m ∷ ms) waits = false

-- it sent its QQ in the slot after AA and heard its own address: it owns the wire, with the telegram held longest
abbrev pub owned_by : Bool → ℕ → List Telegram → Sound → (Telegram → Share) → Share → Share
owned_by admitted a [] h own other = other
owned_by admitted a (t ∷ ts) h own other = cond (cond admitted (is_symbol a h) false) (own t) other

-- the share that a station has, from the slots since the last AA
abbrev pub share_in : ℕ → Bool → Bool → List Moment → Share
share_in a m admitted [] = part_read (station a m) []
share_in a m admitted (x ∷ ms) =
    owned_by admitted a x.waits x.heard (λ t. own_sent t (x ∷ ms)) (part_read (station a m) (x ∷ ms))

-- before the first AA all stations are silent
abbrev pub share_after : ℕ → Bool → List (List Moment) → List Moment → Share
share_after a m [] ms = over
share_after a m (g ∷ gs) ms = share_in a m (admitted_by a m (g ∷ gs)) ms

unfoldable pub share_of : ℕ → Bool → History → Share
share_of a m h = share_after a m h.earlier h.now

-- ---- what it says

abbrev pub first_of : List ℕ → Sound
first_of [] = Quiet
first_of (y ∷ ys) = Symbol y

-- 00 if the CRC matched, else FF, in the slot after the last symbol of the part and in no other
abbrev pub acknowledges : Bool → Bool → Sound
acknowledges matched just = cond just (cond matched (Symbol 0x00) (Symbol 0xFF)) Quiet

abbrev pub says_in : Share → Answers → Sound
says_in over book = Quiet
says_in releases book = Symbol 0xAA
says_in (sends s n y ys) book = Symbol y
says_in (awaits s n) book = Quiet
says_in (reads r n xs) book = Quiet
says_in (judges r n xs matched just) book = acknowledges matched just
says_in (owes pb sb) book = first_of (answer_form (book pb sb))

-- what the station with this address, master or not, says in a slot, with these telegrams and answers as it begins
unfoldable pub says : ℕ → Bool → History → List Telegram → Answers → Sound
says a m h waits book = cond (bidding (admitted_by a m h.earlier) h.now waits) (Symbol a) (says_in (share_of a m h) book)

-- ---- what it is told

-- failed 1: a sender heard anything but its own symbol; an owner leaves at once
abbrev pub disturbed : Sender → Report
disturbed (owner t) = failed_free 1 none
disturbed (slave xs) = failed 1 none

-- failed 4: AA instead of the acknowledgement; an owner leaves at once
abbrev pub cut_short : Sender → Report
cut_short (owner t) = failed_free 4 none
cut_short (slave xs) = failed 4 none

-- its own symbol was heard: a broadcast is taken with the last
abbrev pub tells_out : Sender → List ℕ → Report
tells_out s [] = cond (sends_to_all s) taken silence
tells_out s (y ∷ ys) = silence

-- FF the first time is no failure, a second time it is failed 3
abbrev pub tells_nak : Time → Report
tells_nak once = silence
tells_nak again = failed 3 none

-- only senders and owners are told failed
abbrev pub to_owner : Reader → Report → Report
to_owner (station a m) f = silence
to_owner (asker t) f = f

-- a part is handed out by its reader, an answer by the owner
abbrev pub hands_out : Reader → Report
hands_out (station a m) = given
hands_out (asker t) = answered

-- a whole broadcast is handed out at once if its CRC matched; failed 5: an owner reads an NN above 16 or a broken pair in an answer, and
-- is told which pair it was (02, E6)
abbrev pub tells_read : Outcome → Reader → List ℕ → Report
tells_read More r xs = silence
tells_read Cut r xs = to_owner r (failed 4 none)
tells_read NoMaster r xs = to_owner r (failed 5 none)
tells_read Unusable r xs = to_owner r (failed 5 none)
tells_read TooLong r xs = to_owner r (failed 5 none)
tells_read (BrokenPair x) r xs = to_owner r (failed 5 (option.some x))
tells_read (Whole matched) r xs = cond (reads_for_all r xs) (cond matched given silence) silence

-- 00: handed out if the CRC matched, else the owner is told failed 2
abbrev pub tells_handed : Reader → Bool → Report
tells_handed r matched = cond matched (hands_out r) (to_owner r (failed 2 none))

-- a slave's answer begins in this slot
abbrev pub tells_first : List ℕ → Sound → Report
tells_first [] h = silence
tells_first (y ∷ ys) h = cond (is_symbol y h) silence (failed 1 none)

abbrev pub tells_in : Share → Answers → Sound → Report
tells_in over book h = silence
tells_in releases book h = free
tells_in (sends s n y ys) book h = cond (is_symbol y h) (tells_out s ys) (disturbed s)
tells_in (awaits s n) book h =
    by_sound h silence (λ b. cond (eqb b 0x00) taken (cond (eqb b 0xFF) (tells_nak n) (cond (eqb b 0xAA) (cut_short s) (failed 2 none))))
tells_in (reads r n xs) book h =
    by_sound h silence (λ b. cond (eqb b 0xAA) (to_owner r (failed_free 4 none)) (tells_read (verdict (which_of r) (xs ++ (b ∷ []))) r (xs ++ (b ∷ []))))
tells_in (judges r n xs matched just) book h =
    by_sound h silence (λ b. cond (eqb b 0x00) (tells_handed r matched)
    (cond (eqb b 0xFF) (to_owner r (tells_nak n)) (cond (eqb b 0xAA) (to_owner r (failed_free 4 none)) (to_owner r (failed 2 none)))))
tells_in (owes pb sb) book h = tells_first (answer_form (book pb sb)) h

-- it sends its QQ in this slot, and hears its own address: it owns the wire
abbrev pub wins : ℕ → Bool → History → List Telegram → Sound → Bool
wins a m h waits heard = cond (bidding (admitted_by a m h.earlier) h.now waits) (is_symbol a heard) false

-- what it is told in a slot that all hear so
unfoldable pub tells : ℕ → Bool → History → List Telegram → Answers → Sound → Report
tells a m h waits book heard =
    cond (wins a m h waits heard) owns (tells_in (share_of a m h) book heard)
