-- What every station that began fresh is like, slot after slot: an owner reads of an answer NN, data and CRC and no other place,
-- and a station is admitted in the slot after AA only. Assumes nothing.
use mathlib.Core.Path.{◌≡◌, refl}
use mathlib.Core.Bool.{Bool, true, false, cond, false≢true}
use Prim.Native.Nat.{ℕ, ◌+◌}
use native.Mathlib.Omega.{arith}
use lib.Dec.{eqb, ltb}
use Rattle.wire.specs.Pair.{undo}
use Rattle.wire.specs.Reader.{master_start, answer_start, ended, more, onward, place_after, read_nn, read_byte, data_as, read_data, crc_as, read_crc, read_at, read_place, read_as, read_one, start_of}
use Rattle.wire.specs.Symbol.{kind_of, is_count}
use Rattle.wire.specs.declared.pair.Undone.{Undone}
use Rattle.wire.specs.declared.pair.Undone.TheVariants.{Byte, Opens, Ends, Broken}
use Rattle.wire.specs.declared.part.Telegram.{Telegram}
use Rattle.wire.specs.declared.reader.Cursor.{Cursor}
use Rattle.wire.specs.declared.reader.Outcome.{Outcome}
use Rattle.wire.specs.declared.reader.Outcome.TheVariants.{Cut, TooLong, BrokenPair, Whole}
use Rattle.wire.specs.declared.reader.Place.{Place}
use Rattle.wire.specs.declared.reader.Place.TheVariants.{Pb, Nn, Data, Crc}
use Rattle.wire.specs.declared.reader.Step.{Step}
use Rattle.wire.specs.declared.symbol.Kind.{Kind}
use Rattle.wire.specs.declared.symbol.Kind.TheVariants.{Syn, Escape, Count, Plain}
use Rattle.wire.specs.declared.part.Part.{Part}
use Rattle.wire.specs.declared.part.Part.TheVariants.{MasterPart, AnswerPart}
use Rattle.station.specs.declared.phase.Attempt.{Attempt}
use Rattle.station.specs.declared.phase.Attempt.TheVariants.{First, Again}
use Rattle.station.specs.declared.phase.Phase.{Phase}
use Rattle.station.specs.declared.phase.Phase.TheVariants.{Silent, Reading, Sending, Awaiting, Judging, Owing, Releasing}
use Rattle.station.specs.declared.phase.Sound.{Sound}
use Rattle.station.specs.declared.phase.Told.{Told}
use Rattle.station.specs.declared.station.Station.{Station}
use Rattle.station.specs.Outbox.{held_in}
use Rattle.station.specs.Admission.{bids}
use Rattle.station.specs.Station.{fresh, ready, answering}
use Rattle.station.specs.Hear.{hears}
use Rattle.station.proofs.AfterSyn.{after_syn}
use Rattle.station.proofs.Moves.{Moves, silent_on, owing_on, reading_waits, awaiting_waits, acknowledges, leaves_released, leaves_disturbed, stops_disturbed, wins, reads_on, not_for_it, reads_in_vain, breaks_answer, gives_broadcast, reads_whole, sends_on, takes_broadcast, sends_whole, awaits_answer, ends_taken, answer_taken, sends_again, ends_failed, answer_failed, gives_and_owes, gives, gives_answer, reads_again, gives_nothing, answer_lost}
use Rattle.station.proofs.Frame.{Begins, as_it_stood, answers, ready_begins, admission_over}
use Rattle.station.proofs.Turned.{moves_of}
use Rattle.station.proofs.Aa.{NoSyn, IsSyn, by_sound}

-- the places of an answer
pub data InAnswer : Place → Type 0 where
  at_nn : InAnswer Nn
  at_data : {i : ℕ} → InAnswer (Data i)
  at_crc : InAnswer Crc

pub no_pb : InAnswer Pb → ⊥
no_pb w = elim w [ ]

-- what a phase can be
pub data Fit : Phase → Type 0 where
  silent : Fit Silent
  reading : {c : Cursor} {a : Attempt} → Fit (Reading c MasterPart a)
  reading_answer : {c : Cursor} {a : Attempt} → InAnswer c.place → Fit (Reading c AnswerPart a)
  sending : {i : ℕ} {p : Part} {a : Attempt} → Fit (Sending i p a)
  awaiting : {p : Part} {a : Attempt} → Fit (Awaiting p a)
  judging : {p : Part} {a : Attempt} {m k : Bool} → Fit (Judging p a m k)
  owing : Fit Owing
  releasing : Fit Releasing

pub record Fits (p : Phase) (admitted : Bool) : Type 0 where
  pub fit : Fit p
  pub after_aa : admitted ≡ true → p ≡ Reading master_start MasterPart First

abbrev pub Possible : Station → Type 0
Possible s = Fits s.phase s.admitted

-- the reader's step stays in the answer
record Stays (st : Step) : Type 0 where
  place : InAnswer st.cursor.place

either : (r : Bool) {u v : Step} → Stays u → Stays v → Stays (cond r u v)
either true y n = y
either false y n = n

module _ (c : Cursor) (t : Telegram) (b : ℕ) (w : InAnswer c.place) where
  behind : (read nn : ℕ) → InAnswer (place_after read nn)
  unfolding place_after
  behind read nn = by_test (ltb read nn)
    where
      by_test : (r : Bool) → InAnswer (cond r (Data read) Crc)
      by_test true = at_data
      by_test false = at_crc

  ended_stays : (o : Outcome) → Stays (ended c t o)
  unfolding ended
  ended_stays o = record { place = w }

  nn_stays : (counts : Bool) → Stays (read_nn c t b counts)
  unfolding read_nn more onward
  nn_stays true = record { place = behind 0 b }
  nn_stays false = ended_stays TooLong

  data_stays : (i : ℕ) (u : Undone) → Stays (data_as u c t i b)
  unfolding read_byte more onward
  data_stays i (Byte v) = either (ltb i 16) (record { place = behind (i + 1) c.nn }) (ended_stays TooLong)
  data_stays i Opens = record { place = at_data }
  data_stays i Ends = ended_stays Cut
  data_stays i (Broken x) = ended_stays (BrokenPair x)

  crc_stays : (u : Undone) → Stays (crc_as u c t)
  unfolding more
  crc_stays (Byte v) = ended_stays (Whole (eqb v c.register))
  crc_stays Opens = record { place = w }
  crc_stays Ends = ended_stays Cut
  crc_stays (Broken x) = ended_stays (BrokenPair x)

  place_stays : (k : Kind) {l : Place} → InAnswer l → Stays (read_at l c t b k)
  unfolding read_data read_crc
  place_stays k at_nn = nn_stays (is_count k)
  place_stays k (at_data {i}) = data_stays i (undo c.opened c.at b)
  place_stays k at_crc = crc_stays (undo c.opened c.at b)

  kind_stays : (k : Kind) → Stays (read_as k c t b)
  unfolding read_place
  kind_stays Syn = ended_stays Cut
  kind_stays Escape = place_stays Escape w
  kind_stays Count = place_stays Count w
  kind_stays Plain = place_stays Plain w

  -- an answer is read to its end from its first place on
  pub answer_goes_on : InAnswer (read_one c t b).cursor.place
  unfolding read_one
  answer_goes_on = (kind_stays (kind_of b)).place

start_fits : (p : Part) → Fit (Reading (start_of p) p Again)
unfolding answer_start
start_fits MasterPart = reading
start_fits AnswerPart = reading_answer at_nn

reading_on : (c : Cursor) (t : Telegram) (b : ℕ) {p : Part} {a : Attempt} → Fit (Reading c p a) → Fit (Reading (read_one c t b).cursor p a)
reading_on c t b reading = reading
reading_on c t b (reading_answer w) = reading_answer (answer_goes_on c t b w)

next_fit : {bid : Bool} {own : ℕ} {part : Telegram} {p q : Phase} {h : Sound} {t : Told} → Moves bid own part p h t q → Fit p → Fit q
unfolding answer_start
next_fit silent_on f = silent
next_fit owing_on f = owing
next_fit reading_waits f = f
next_fit awaiting_waits f = awaiting
next_fit acknowledges f = judging
next_fit leaves_released f = silent
next_fit leaves_disturbed f = silent
next_fit stops_disturbed f = silent
next_fit (wins _ _) f = sending
next_fit {part = part} (reads_on {c = c} {b = b} _) f = reading_on c part b f
next_fit (not_for_it _) f = silent
next_fit reads_in_vain f = silent
next_fit breaks_answer f = releasing
next_fit (gives_broadcast _ _) f = silent
next_fit (reads_whole _) f = judging
next_fit sends_on f = sending
next_fit (takes_broadcast _) f = releasing
next_fit sends_whole f = awaiting
next_fit (awaits_answer _) f = reading_answer at_nn
next_fit (ends_taken _) f = releasing
next_fit (answer_taken _) f = silent
next_fit (sends_again _) f = sending
next_fit ends_failed f = releasing
next_fit answer_failed f = silent
next_fit (gives_and_owes _) f = owing
next_fit (gives _) f = silent
next_fit (gives_answer _) f = releasing
next_fit (reads_again {p = p} _) f = start_fits p
next_fit gives_nothing f = silent
next_fit answer_lost f = releasing

-- a fresh station is so
pub fresh_possible : (address : ℕ) (master : Bool) → Possible (fresh address master)
unfolding fresh
fresh_possible address master = record { fit = silent; after_aa = λ e. absurd (false≢true e) }

-- and remains so as a slot begins
pub ready_possible : (s : Station) → Possible s → Possible (ready s)
unfolding answering
ready_possible s w = begun (ready_begins s) w
  where
    begun : {x : Station} → Begins s x → Possible s → Possible x
    begun as_it_stood w = w
    begun (answers e) w =
        record { fit = sending; after_aa = λ a. let q = w.after_aa a in let z : ◌≡◌ {A = ℕ} 0 1 = cc q in absurd (omega arith) }

-- and as it hears
pub hears_possible : (s : Station) (h : Sound) → Possible s → Possible (hears s h).station
hears_possible s h w = by_sound h by_syn by_row
  where
    by_syn : IsSyn h → Possible (hears s h).station
    by_syn i = rw (after_syn s i).phase (record { fit = reading; after_aa = λ _. refl })

    by_row : NoSyn h → Possible (hears s h).station
    by_row n = rw (admission_over s n) (record { fit = next_fit (moves_of s n) w.fit; after_aa = λ e. absurd (false≢true e) })

-- who bids reads a master part from its first symbol
pub bids_at_start : (s : Station) → Possible s → bids s ≡ true → s.phase ≡ Reading master_start MasterPart First
unfolding bids
bids_at_start s w e = w.after_aa (admitted_of s.admitted e)
  where
    admitted_of : (a : Bool) → cond a (ltb 0 (held_in s.outbox)) false ≡ true → a ≡ true
    admitted_of true e = refl
    admitted_of false e = e
