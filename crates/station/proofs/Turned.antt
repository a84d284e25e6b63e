-- Every slot but one with AA is a row of `Moves`, and leaves the rest of the station as it was. Assumes nothing.
use mathlib.Core.Path.{◌≡◌, refl, sym, ap, ◌∙◌}
use mathlib.Core.Bool.{Bool, true, false, cond}
use Prim.Native.Nat.{ℕ, ◌+◌}
use borrow.Author.Tests.{eqb-true, eqb-false}
use lib.Dec.{eqb, ltb}
use Rattle.wire.specs.Reader.{read_one}
use Rattle.wire.specs.declared.part.Telegram.{Telegram}
use Rattle.wire.specs.declared.reader.Cursor.{Cursor}
use Rattle.wire.specs.declared.reader.Outcome.{Outcome}
use Rattle.wire.specs.declared.reader.Outcome.TheVariants.{More, Cut, NoMaster, Unusable, TooLong, BrokenPair, Whole}
use Rattle.wire.specs.declared.reader.Place.{Place}
use Rattle.wire.specs.declared.reader.Place.TheVariants.{Qq, Zz, Pb, Sb, Nn, Data, Crc}
use Rattle.station.specs.declared.outbox.Outbox.{Outbox}
use Rattle.wire.specs.declared.pair.WrongPair.{WrongPair}
use Rattle.wire.specs.declared.part.Part.{Part}
use Rattle.wire.specs.declared.part.Part.TheVariants.{MasterPart, AnswerPart}
use Rattle.station.specs.declared.phase.Attempt.{Attempt}
use Rattle.station.specs.declared.phase.Attempt.TheVariants.{First, Again}
use Rattle.station.specs.declared.phase.Phase.{Phase}
use Rattle.station.specs.declared.phase.Phase.TheVariants.{Silent, Reading, Sending, Awaiting, Judging, Owing, Releasing}
use Rattle.station.specs.declared.phase.Sound.{Sound}
use Rattle.station.specs.declared.phase.Sound.TheVariants.{Quiet, Symbol}
use Rattle.station.specs.declared.phase.Failure.{Failure}
use Rattle.station.specs.declared.phase.Failure.TheVariants.{Disturbed, WrongAck, TwiceNak, PairBroken, OverLong}
use Rattle.station.specs.declared.phase.Told.{Told}
use Rattle.station.specs.declared.phase.Told.TheVariants.{Silence, Owns, Taken, Failed, Free, FailedFree, Given, Answered}
use Rattle.station.specs.declared.station.Station.{Station}
use Rattle.station.specs.declared.station.Turn.{Turn}
use Rattle.station.specs.Outbox.{dropped}
use Rattle.station.specs.Admission.{bids, owned, withdrawn, over_now, noted}
use Rattle.station.specs.Station.{ack, nak, due}
use Rattle.station.specs.Turn.{goes, with_part}
use Rattle.station.specs.Addressed.{for_all, answered, is_own}
use Rattle.station.specs.Table.{reader_fails, whole, addressed, read_on, read_on_at, reads_as, reads, handed_out, judged_taken, read_again, judges, left, released, sender_fails, hear_bid, sent_whole, sent, hear_own_as, hear_own, taken, nak_heard, hear_reply, hear_reading, heard_nothing, heard_other, row, owner_fails}
use Rattle.station.specs.Hear.{hear_quiet, hear_symbol, hears}
use Rattle.station.proofs.Aa.{NoSyn, quiet, symbol, heard_other_lem}
use Rattle.station.proofs.Moves.{Moves, silent_on, owing_on, reading_waits, awaiting_waits, acknowledges, leaves_released, leaves_disturbed, stops_disturbed, wins, reads_on, not_for_it, reads_in_vain, breaks_answer, gives_broadcast, reads_whole, sends_on, takes_broadcast, sends_whole, awaits_answer, ends_taken, answer_taken, sends_again, ends_failed, answer_failed, gives_and_owes, gives, gives_answer, reads_again, gives_nothing, answer_lost}

-- an owner that leaves drops its telegram, and nothing else changes the outbox
abbrev pub outbox_after : Told → Outbox → Outbox
outbox_after Silence o = o
outbox_after Owns o = o
outbox_after Taken o = o
outbox_after (Failed f) o = o
outbox_after Free o = dropped o
outbox_after (FailedFree f) o = dropped o
outbox_after Given o = o
outbox_after Answered o = o

-- failed 2, 3 and 5: an owner sends AA in the next slot
pub data SendsAa : Failure → Type 0 where
  after_2 : SendsAa WrongAck
  after_3 : SendsAa TwiceNak
  after_5 : {x : WrongPair} → SendsAa (PairBroken x)
  after_5_long : SendsAa OverLong

pub owner_sends_aa : (x : Station) {f : Failure} → SendsAa f → owner_fails f x ≡ goes x Releasing (Failed f)
owner_sends_aa x after_2 = refl
owner_sends_aa x after_3 = refl
owner_sends_aa x after_5 = refl
owner_sends_aa x after_5_long = refl

-- a turn from the phase p, on the sound h: a row, and what stays of the station x
pub record Turned (bid : Bool) (part : Telegram) (x : Station) (p : Phase) (h : Sound) (t : Turn) : Type 0 where
  pub moves : Moves bid x.address part p h t.told t.station.phase
  pub address : t.station.address ≡ x.address
  pub master : t.station.master ≡ x.master
  pub replies : t.station.replies ≡ x.replies
  pub admitted : t.station.admitted ≡ x.admitted
  pub marked : t.station.marked ≡ x.marked
  pub outbox : t.station.outbox ≡ outbox_after t.told x.outbox

module _ {bid : Bool} {part : Telegram} where
  going : {x : Station} {p q : Phase} {h : Sound} {t : Told} → Moves bid x.address part p h t q → outbox_after t x.outbox ≡ x.outbox
      → Turned bid part x p h (goes x q t)
  unfolding goes
  going m o =
      record { moves = m; address = refl; master = refl; replies = refl; admitted = refl; marked = refl; outbox = sym o }

  leaving : {x : Station} {p : Phase} {h : Sound} {t : Told} → Moves bid x.address part p h t Silent → outbox_after t x.outbox ≡ dropped x.outbox
      → Turned bid part x p h (record { station = left x; told = t })
  unfolding left
  leaving m o =
      record { moves = m; address = refl; master = refl; replies = refl; admitted = refl; marked = refl; outbox = sym o }

  tested : {x : Station} {p : Phase} {h : Sound} {u v : Turn} (t : Bool) → (t ≡ true → Turned bid part x p h u) → (t ≡ false → Turned bid part x p h v)
      → Turned bid part x p h (cond t u v)
  tested true yes₁ no₁ = yes₁ refl
  tested false yes₁ no₁ = no₁ refl

  -- the part read so far is no part of what stays
  read_of : {x : Station} {r : Telegram} {p : Phase} {h : Sound} {t : Turn} → Turned bid part (with_part x r) p h t → Turned bid part x p h t
  read_of w =
      record {
        moves = w.moves;
        address = w.address;
        master = w.master;
        replies = w.replies;
        admitted = w.admitted;
        marked = w.marked;
        outbox = w.outbox;
      }

  disturbed_turned : (x : Station) (i : ℕ) (p : Part) (a : Attempt) (h : Sound) → Turned bid part x (Sending i p a) h (sender_fails p Disturbed x)
  disturbed_turned x i MasterPart a h = leaving leaves_disturbed refl
  disturbed_turned x i AnswerPart a h = going stops_disturbed refl

  failed_turned : (x : Station) (p : Part) (a : Attempt) (b : ℕ) {f : Failure} → SendsAa f → Turned bid part x (Awaiting p a) (Symbol b) (sender_fails p f x)
  failed_turned x MasterPart a b f = rw (owner_sends_aa x f) (going ends_failed refl)
  failed_turned x AnswerPart a b f = going answer_failed refl

  released_turned : (x : Station) (h : Sound) → Turned bid part x Releasing h (released x)
  unfolding released
  released_turned x h = leaving leaves_released refl

  -- the reader's outcome on this symbol
  module _ (x : Station) (c : Cursor) (a : Attempt) (b : ℕ) where
    whole_turned : (p : Part) (m : Bool) → (read_one c part b).outcome ≡ Whole m → x.part ≡ (read_one c part b).part
        → Turned bid part x (Reading c p a) (Symbol b) (whole x p a m)
    unfolding whole
    whole_turned AnswerPart m e r = going (reads_whole e) refl
    whole_turned MasterPart m e r =
        tested (for_all x.part.zz) (λ f. given m e f) (λ _. going (reads_whole e) refl)
      where
        given : (m : Bool) → (read_one c part b).outcome ≡ Whole m → for_all x.part.zz ≡ true
            → Turned bid part x (Reading c MasterPart a) (Symbol b) (cond m (goes x Silent Given) (goes x Silent Silence))
        given true e f = going (gives_broadcast e (ap (λ (t : Telegram). for_all t.zz) (sym r) ∙ f)) refl
        given false e f = going reads_in_vain refl

    vain_turned : (p : Part) {f : Failure} → SendsAa f → Turned bid part x (Reading c p a) (Symbol b) (reader_fails p f x)
    vain_turned MasterPart f = going reads_in_vain refl
    vain_turned AnswerPart f = rw (owner_sends_aa x f) (going breaks_answer refl)

    on_turned : (p : Part) → (read_one c part b).outcome ≡ More
        → Turned bid part x (Reading c p a) (Symbol b) (read_on x (read_one c part b).cursor p a)
    unfolding read_on addressed
    on_turned p e = at (read_one c part b).cursor.place refl
      where
        on : Turned bid part x (Reading c p a) (Symbol b) (goes x (Reading (read_one c part b).cursor p a) Silence)
        on = going (reads_on e) refl

        at : (l : Place) → (read_one c part b).cursor.place ≡ l
            → Turned bid part x (Reading c p a) (Symbol b) (read_on_at l x (Reading (read_one c part b).cursor p a))
        at Qq l = on
        at Zz l = on
        at Pb l = tested (is_own x x.part.zz) (λ _. on) (λ _. tested (for_all x.part.zz) (λ _. on) (λ _. going (not_for_it l) refl))
        at Sb l = on
        at Nn l = on
        at (Data i) l = on
        at Crc l = on

    outcome_turned : (p : Part) (o : Outcome) → (read_one c part b).outcome ≡ o → x.part ≡ (read_one c part b).part
        → Turned bid part x (Reading c p a) (Symbol b) (reads_as o x (read_one c part b).cursor p a)
    outcome_turned p More e r = on_turned p e
    outcome_turned p Cut e r = vain_turned p after_5_long
    outcome_turned p NoMaster e r = vain_turned p after_5_long
    outcome_turned p Unusable e r = vain_turned p after_5_long
    outcome_turned p TooLong e r = vain_turned p after_5_long
    outcome_turned p (BrokenPair y) e r = vain_turned p after_5
    outcome_turned p (Whole m) e r = whole_turned p m e r

module _ {bid : Bool} where
  reads_turned : (x : Station) (b : ℕ) (c : Cursor) (p : Part) (a : Attempt)
      → Turned bid x.part x (Reading c p a) (Symbol b) (reads x b c p a)
  unfolding reads
  reads_turned x b c p a =
      read_of (outcome_turned (with_part x (read_one c x.part b).part) c a b p (read_one c x.part b).outcome refl refl)

  sent_whole_turned : (x : Station) (i : ℕ) (p : Part) (a : Attempt) (b : ℕ) → Turned bid x.part x (Sending i p a) (Symbol b) (sent_whole x p a)
  unfolding sent_whole
  sent_whole_turned x i MasterPart a b =
      tested (for_all x.part.zz) (λ e. going (takes_broadcast e) refl) (λ _. going sends_whole refl)
  sent_whole_turned x i AnswerPart a b = going sends_whole refl

  sent_turned : (x : Station) (i : ℕ) (p : Part) (a : Attempt) (b : ℕ) → Turned bid x.part x (Sending i p a) (Symbol b) (sent x i p a)
  unfolding sent
  sent_turned x i p a b =
      tested (ltb (i + 1) x.out.len) (λ _. going sends_on refl) (λ _. sent_whole_turned x i p a b)

  hear_own_turned : (x : Station) (b i : ℕ) (p : Part) (a : Attempt) → Turned bid x.part x (Sending i p a) (Symbol b) (hear_own x b i p a)
  unfolding hear_own
  hear_own_turned x b i p a = by_due (due x i)
    where
      by_due : (d : Sound) → Turned bid x.part x (Sending i p a) (Symbol b) (hear_own_as d x b i p a)
      by_due Quiet = disturbed_turned x i p a (Symbol b)
      by_due (Symbol own) = tested (eqb own b) (λ _. sent_turned x i p a b) (λ _. disturbed_turned x i p a (Symbol b))

  taken_turned : (x : Station) (p : Part) (a : Attempt) (b : ℕ) → b ≡ ack → Turned bid x.part x (Awaiting p a) (Symbol b) (taken x p)
  unfolding taken
  taken_turned x MasterPart a b e =
      tested (answered x.part.zz) (λ _. going (awaits_answer e) refl) (λ _. going (ends_taken e) refl)
  taken_turned x AnswerPart a b e = going (answer_taken e) refl

  nak_turned : (x : Station) (p : Part) (a : Attempt) (b : ℕ) → b ≡ nak → Turned bid x.part x (Awaiting p a) (Symbol b) (nak_heard a x p)
  nak_turned x p First b e = going (sends_again e) refl
  nak_turned x p Again b e = failed_turned x p Again b after_3

  hear_reply_turned : (x : Station) (b : ℕ) (p : Part) (a : Attempt) → Turned bid x.part x (Awaiting p a) (Symbol b) (hear_reply x b p a)
  unfolding hear_reply
  hear_reply_turned x b p a =
      tested (eqb b ack) (λ e. taken_turned x p a b (eqb-true b ack e))
      (λ _. tested (eqb b nak) (λ e. nak_turned x p a b (eqb-true b nak e)) (λ _. failed_turned x p a b after_2))

  lost_turned : (x : Station) (p : Part) (a : Attempt) (m k : Bool) (b : ℕ) {f : Failure} → SendsAa f
      → Turned bid x.part x (Judging p a m k) (Symbol b) (reader_fails p f x)
  lost_turned x MasterPart a m k b f = going gives_nothing refl
  lost_turned x AnswerPart a m k b f = rw (owner_sends_aa x f) (going answer_lost refl)

  handed_out_turned : (x : Station) (p : Part) (a : Attempt) (k : Bool) (b : ℕ) → b ≡ ack
      → Turned bid x.part x (Judging p a true k) (Symbol b) (handed_out x p)
  unfolding handed_out
  handed_out_turned x MasterPart a k b e =
      tested (answered x.part.zz) (λ _. going (gives_and_owes e) refl) (λ _. going (gives e) refl)
  handed_out_turned x AnswerPart a k b e = going (gives_answer e) refl

  judged_taken_turned : (x : Station) (p : Part) (a : Attempt) (m k : Bool) (b : ℕ) → b ≡ ack
      → Turned bid x.part x (Judging p a m k) (Symbol b) (judged_taken x p m)
  unfolding judged_taken
  judged_taken_turned x p a true k b e = handed_out_turned x p a k b e
  judged_taken_turned x p a false k b e = lost_turned x p a false k b after_2

  read_again_turned : (x : Station) (p : Part) (a : Attempt) (m k : Bool) (b : ℕ) → b ≡ nak
      → Turned bid x.part x (Judging p a m k) (Symbol b) (read_again a x p)
  read_again_turned x p First m k b e = going (reads_again e) refl
  read_again_turned x p Again m k b e = lost_turned x p Again m k b after_3

  judges_turned : (x : Station) (b : ℕ) (p : Part) (a : Attempt) (m k : Bool)
      → Turned bid x.part x (Judging p a m k) (Symbol b) (judges x b p a m)
  unfolding judges
  judges_turned x b p a m k =
      tested (eqb b ack) (λ e. judged_taken_turned x p a m k b (eqb-true b ack e))
      (λ _. tested (eqb b nak) (λ e. read_again_turned x p a m k b (eqb-true b nak e)) (λ _. lost_turned x p a m k b after_2))

owned_turned : (x : Station) (b : ℕ) (c : Cursor) (p : Part) (a : Attempt) {bid : Bool} → bid ≡ true → b ≡ x.address
    → Turned bid x.part x (Reading c p a) (Symbol b) (owned x)
unfolding owned
owned_turned x b c p a e o =
    record { moves = wins e o; address = refl; master = refl; replies = refl; admitted = refl; marked = refl; outbox = refl }

-- who enters the slot's turn: the station with its admission over, and perhaps a mark
pub data Enters (s : Station) : Sound → Station → Type 0 where
  on_quiet : Enters s Quiet (over_now s)
  on_symbol : {b : ℕ} → Enters s (Symbol b) (noted s)
  on_other : {b : ℕ} → bids s ≡ true → (b ≡ s.address → ⊥) → Enters s (Symbol b) (withdrawn (noted s) b)

-- a slot without AA: who enters, and the turn
pub record Slot (s : Station) (p : Phase) (h : Sound) (t : Turn) : Type 0 where
  pub entering : Station
  pub enters : Enters s h entering
  pub turned : Turned (bids s) s.part entering p h t

quiet_turned : (s : Station) (p : Phase) → Turned (bids s) s.part (over_now s) p Quiet (row p heard_nothing (bids s) (over_now s))
quiet_turned s Silent = going silent_on refl
quiet_turned s (Reading c p a) = going reading_waits refl
quiet_turned s (Sending i p a) = disturbed_turned (over_now s) i p a Quiet
quiet_turned s (Awaiting p a) = going awaiting_waits refl
quiet_turned s (Judging p a m k) = going acknowledges refl
quiet_turned s Owing = going owing_on refl
quiet_turned s Releasing = released_turned (over_now s) Quiet

noted_slot : (s : Station) (p : Phase) (b : ℕ) {t : Turn} → Turned (bids s) s.part (noted s) p (Symbol b) t → Slot s p (Symbol b) t
noted_slot s p b w = record { entering = noted s; enters = on_symbol; turned = w }

bid_slot : (s : Station) (b : ℕ) (c : Cursor) (p : Part) (a : Attempt) → bids s ≡ true
    → Slot s (Reading c p a) (Symbol b) (hear_bid (noted s) b c p a)
unfolding hear_bid noted withdrawn
bid_slot s b c p a bid = by_address (eqb b s.address) refl
  where
    by_address : (t : Bool) → eqb b s.address ≡ t
        → Slot s (Reading c p a) (Symbol b) (cond t (owned (noted s)) (reads (withdrawn (noted s) b) b c p a))
    by_address true e = noted_slot s (Reading c p a) b (owned_turned (noted s) b c p a bid (eqb-true b s.address e))
    by_address false e =
        record {
          entering = withdrawn (noted s) b;
          enters = on_other bid (eqb-false b s.address e);
          turned = reads_turned (withdrawn (noted s) b) b c p a;
        }

reading_slot : (s : Station) (b : ℕ) (c : Cursor) (p : Part) (a : Attempt) → Slot s (Reading c p a) (Symbol b) (hear_reading (bids s) (noted s) b c p a)
unfolding hear_reading noted
reading_slot s b c p a = by_bid (bids s) refl
  where
    by_bid : (t : Bool) → bids s ≡ t → Slot s (Reading c p a) (Symbol b) (cond t (hear_bid (noted s) b c p a) (reads (noted s) b c p a))
    by_bid true e = bid_slot s b c p a e
    by_bid false e = noted_slot s (Reading c p a) b (reads_turned (noted s) b c p a)

symbol_slot : (s : Station) (b : ℕ) (p : Phase) → Slot s p (Symbol b) (row p (heard_other b) (bids s) (noted s))
unfolding noted
symbol_slot s b Silent = noted_slot s Silent b (going silent_on refl)
symbol_slot s b (Reading c p a) = reading_slot s b c p a
symbol_slot s b (Sending i p a) = noted_slot s (Sending i p a) b (hear_own_turned (noted s) b i p a)
symbol_slot s b (Awaiting p a) = noted_slot s (Awaiting p a) b (hear_reply_turned (noted s) b p a)
symbol_slot s b (Judging p a m k) = noted_slot s (Judging p a m k) b (judges_turned (noted s) b p a m k)
symbol_slot s b Owing = noted_slot s Owing b (going owing_on refl)
symbol_slot s b Releasing = noted_slot s Releasing b (released_turned (noted s) (Symbol b))

-- what a slot without AA makes of a station
pub slot : (s : Station) {h : Sound} → NoSyn h → Slot s s.phase h (hears s h)
unfolding hears hear_quiet hear_symbol
slot s quiet = record { entering = over_now s; enters = on_quiet; turned = quiet_turned s s.phase }
slot s (symbol {b} n) = rw (heard_other_lem s b n) (symbol_slot s b s.phase)

-- its row
pub moves_of : (s : Station) {h : Sound} → NoSyn h → Moves (bids s) s.address s.part s.phase h (hears s h).told (hears s h).station.phase
unfolding noted withdrawn
moves_of s n = of_entering (slot s n).enters (slot s n).turned.moves
  where
    of_entering : {x : Station} {h : Sound} {t : Told} {p q : Phase} → Enters s h x → Moves (bids s) x.address s.part p h t q
        → Moves (bids s) s.address s.part p h t q
    of_entering on_quiet m = m
    of_entering on_symbol m = m
    of_entering (on_other _ _) m = m
