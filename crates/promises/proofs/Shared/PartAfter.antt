-- The part beside a station's phase, slot by slot: a reader's grows by the symbol read, an owner's is its oldest telegram, and
-- nothing else changes it. Assumes nothing.
use mathlib.Core.Path.{◌≡◌, refl, sym, subst}
use mathlib.Core.Bool.{Bool, true, false, cond}
use Prim.Native.Nat.{ℕ, ◌+◌}
use lib.Dec.{eqb, ltb}
use Rattle.wire.specs.Reader.{read_one}
use Rattle.wire.specs.declared.part.Telegram.{Telegram}
use Rattle.wire.specs.declared.reader.Cursor.{Cursor}
use Rattle.wire.specs.declared.reader.Outcome.{Outcome}
use Rattle.wire.specs.declared.reader.Outcome.TheVariants.{More, Cut, NoMaster, Unusable, TooLong, BrokenPair, Whole}
use Rattle.wire.specs.declared.reader.Place.{Place}
use Rattle.wire.specs.declared.reader.Place.TheVariants.{Qq, Zz, Pb, Sb, Nn, Data, Crc}
use Rattle.wire.specs.declared.part.Part.{Part}
use Rattle.wire.specs.declared.part.Part.TheVariants.{MasterPart, AnswerPart}
use Rattle.station.specs.declared.phase.Attempt.{Attempt}
use Rattle.station.specs.declared.phase.Attempt.TheVariants.{First, Again}
use Rattle.station.specs.declared.phase.Phase.{Phase}
use Rattle.station.specs.declared.phase.Phase.TheVariants.{Silent, Reading, Sending, Awaiting, Judging, Owing, Releasing}
use Rattle.station.specs.declared.phase.Sound.{Sound}
use Rattle.station.specs.declared.phase.Sound.TheVariants.{Quiet, Symbol}
use Rattle.station.specs.declared.phase.Failure.{Failure}
use Rattle.station.specs.declared.phase.Failure.TheVariants.{Disturbed, WrongAck, TwiceNak, SynHeard, PairBroken, OverLong}
use Rattle.station.specs.declared.phase.Told.{Told}
use Rattle.station.specs.declared.phase.Told.TheVariants.{Owns}
use Rattle.station.specs.declared.station.Station.{Station}
use Rattle.station.specs.declared.station.Turn.{Turn}
use Rattle.station.specs.Outbox.{oldest_of}
use Rattle.station.specs.Admission.{bids, owned, withdrawn, over_now, noted}
use Rattle.station.specs.Station.{ack, nak, due}
use Rattle.station.specs.Turn.{goes, with_part}
use Rattle.station.specs.Addressed.{for_all, answered, is_own}
use Rattle.station.specs.Table.{reader_fails, whole, addressed, read_on, read_on_at, reads_as, reads, handed_out, judged_taken, read_again, judges, left, released, sender_fails, hear_bid, sent_whole, sent, hear_own_as, hear_own, taken, nak_heard, hear_reply, row, hear_reading, heard_nothing, heard_other, owner_fails}
use Rattle.station.specs.Hear.{hear_quiet, hear_symbol, hears}
use Rattle.station.proofs.Aa.{NoSyn, quiet, symbol, heard_other_lem}
use Rattle.station.proofs.Turned.{SendsAa, after_5, after_5_long, owner_sends_aa}

-- a master part that is judged is for one station
abbrev pub ForOne : Part → Telegram → Type 0
ForOne MasterPart t = for_all t.zz ≡ false
ForOne AnswerPart t = Unit {0}

abbrev pub JudgesOne : Phase → Telegram → Type 0
JudgesOne Silent t = Unit {0}
JudgesOne (Reading c p a) t = Unit {0}
JudgesOne (Sending i p a) t = Unit {0}
JudgesOne (Awaiting p a) t = Unit {0}
JudgesOne (Judging p a m k) t = ForOne p t
JudgesOne Owing t = Unit {0}
JudgesOne Releasing t = Unit {0}

-- the part after a slot, by the phase before it, what is heard, what is told, and the phase after it
pub data PartAfter (part oldest : Telegram) : Phase → Sound → Told → Phase → Telegram → Type 0 where
  is_oldest : {c : Cursor} {p : Part} {a : Attempt} {b : ℕ} {q : Phase} → PartAfter part oldest (Reading c p a) (Symbol b) Owns q oldest
  is_read : {c : Cursor} {p : Part} {a : Attempt} {b : ℕ} {t : Told} {q : Phase} → JudgesOne q (read_one c part b).part
      → PartAfter part oldest (Reading c p a) (Symbol b) t q (read_one c part b).part
  reading_kept : {c : Cursor} {p : Part} {a : Attempt} {t : Told} {q : Phase} → PartAfter part oldest (Reading c p a) Quiet t q part
  silent_kept : {h : Sound} {t : Told} {q : Phase} → PartAfter part oldest Silent h t q part
  sending_kept : {i : ℕ} {p : Part} {a : Attempt} {h : Sound} {t : Told} {q : Phase} → PartAfter part oldest (Sending i p a) h t q part
  awaiting_kept : {p : Part} {a : Attempt} {h : Sound} {t : Told} {q : Phase} → PartAfter part oldest (Awaiting p a) h t q part
  judging_kept : {p : Part} {a : Attempt} {m k : Bool} {h : Sound} {t : Told} {q : Phase} → PartAfter part oldest (Judging p a m k) h t q part
  owing_kept : {h : Sound} {t : Told} {q : Phase} → PartAfter part oldest Owing h t q part
  releasing_kept : {h : Sound} {t : Told} {q : Phase} → PartAfter part oldest Releasing h t q part

-- ---- who does not read keeps its part

-- the turn leaves the part as it was
record Keeps (part : Telegram) (t : Turn) : Type 0 where
  kept : t.station.part ≡ part

either : {part : Telegram} {u v : Turn} (r : Bool) → Keeps part u → Keeps part v → Keeps part (cond r u v)
either true y n = y
either false y n = n

module _ (x : Station) where
  going : (q : Phase) (t : Told) → Keeps x.part (goes x q t)
  unfolding goes
  going q t = record { kept = refl }

  leaving : (t : Told) → Keeps x.part (record { station = left x; told = t })
  unfolding left
  leaving t = record { kept = refl }

  owner_keeps : (f : Failure) → Keeps x.part (owner_fails f x)
  owner_keeps Disturbed = leaving _
  owner_keeps WrongAck = going _ _
  owner_keeps TwiceNak = going _ _
  owner_keeps SynHeard = leaving _
  owner_keeps (PairBroken y) = going _ _
  owner_keeps OverLong = going _ _

  sender_keeps : (p : Part) (f : Failure) → Keeps x.part (sender_fails p f x)
  sender_keeps MasterPart f = owner_keeps f
  sender_keeps AnswerPart f = going _ _

  released_keeps : Keeps x.part (released x)
  unfolding released
  released_keeps = leaving _

  reader_keeps : (p : Part) (f : Failure) → Keeps x.part (reader_fails p f x)
  reader_keeps MasterPart f = going _ _
  reader_keeps AnswerPart f = owner_keeps f

  sent_whole_keeps : (p : Part) (a : Attempt) → Keeps x.part (sent_whole x p a)
  unfolding sent_whole
  sent_whole_keeps MasterPart a = either (for_all x.part.zz) (going _ _) (going _ _)
  sent_whole_keeps AnswerPart a = going _ _

  sent_keeps : (i : ℕ) (p : Part) (a : Attempt) → Keeps x.part (sent x i p a)
  unfolding sent
  sent_keeps i p a = either (ltb (i + 1) x.out.len) (going _ _) (sent_whole_keeps p a)

  hear_own_keeps : (b i : ℕ) (p : Part) (a : Attempt) → Keeps x.part (hear_own x b i p a)
  unfolding hear_own
  hear_own_keeps b i p a = by_due (due x i)
    where
      by_due : (d : Sound) → Keeps x.part (hear_own_as d x b i p a)
      by_due Quiet = sender_keeps p Disturbed
      by_due (Symbol own) = either (eqb own b) (sent_keeps i p a) (sender_keeps p Disturbed)

  taken_keeps : (p : Part) → Keeps x.part (taken x p)
  unfolding taken
  taken_keeps MasterPart = either (answered x.part.zz) (going _ _) (going _ _)
  taken_keeps AnswerPart = going _ _

  nak_keeps : (p : Part) (a : Attempt) → Keeps x.part (nak_heard a x p)
  nak_keeps p First = going _ _
  nak_keeps p Again = sender_keeps p TwiceNak

  hear_reply_keeps : (b : ℕ) (p : Part) (a : Attempt) → Keeps x.part (hear_reply x b p a)
  unfolding hear_reply
  hear_reply_keeps b p a =
      either (eqb b ack) (taken_keeps p) (either (eqb b nak) (nak_keeps p a) (sender_keeps p WrongAck))

  handed_out_keeps : (p : Part) → Keeps x.part (handed_out x p)
  unfolding handed_out
  handed_out_keeps MasterPart = either (answered x.part.zz) (going _ _) (going _ _)
  handed_out_keeps AnswerPart = going _ _

  read_again_keeps : (p : Part) (a : Attempt) → Keeps x.part (read_again a x p)
  read_again_keeps p First = going _ _
  read_again_keeps p Again = reader_keeps p TwiceNak

  judges_keeps : (b : ℕ) (p : Part) (a : Attempt) (m : Bool) → Keeps x.part (judges x b p a m)
  unfolding judges judged_taken
  judges_keeps b p a m =
      either (eqb b ack) (either m (handed_out_keeps p) (reader_keeps p WrongAck))
      (either (eqb b nak) (read_again_keeps p a) (reader_keeps p WrongAck))

-- ---- who reads has the part with the symbol read

record Reads (part : Telegram) (t : Turn) : Type 0 where
  read : t.station.part ≡ part
  one : JudgesOne t.station.phase part

tested : {part : Telegram} {u v : Turn} (r : Bool) → (r ≡ true → Reads part u) → (r ≡ false → Reads part v) → Reads part (cond r u v)
tested true f g = f refl
tested false f g = g refl

module _ (x : Station) where
  into : (q : Phase) (t : Told) → JudgesOne q x.part → Reads x.part (goes x q t)
  unfolding goes
  into q t o = record { read = refl; one = o }

  vain_reads : (p : Part) {f : Failure} → SendsAa f → Reads x.part (reader_fails p f x)
  vain_reads MasterPart f = into _ _ tt
  vain_reads AnswerPart f = rw (owner_sends_aa x f) (into _ _ tt)

  whole_reads : (p : Part) (a : Attempt) (m : Bool) → Reads x.part (whole x p a m)
  unfolding whole
  whole_reads MasterPart a m =
      tested (for_all x.part.zz) (λ _. tested m (λ _. into _ _ tt) (λ _. into _ _ tt)) (λ e. into _ _ e)
  whole_reads AnswerPart a m = into _ _ tt

  read_on_reads : (c : Cursor) (p : Part) (a : Attempt) → Reads x.part (read_on x c p a)
  unfolding read_on addressed
  read_on_reads c p a = at c.place
    where
      at : (l : Place) → Reads x.part (read_on_at l x (Reading c p a))
      at Qq = into _ _ tt
      at Zz = into _ _ tt
      at Pb =
          tested (is_own x x.part.zz) (λ _. into _ _ tt)
          (λ _. tested (for_all x.part.zz) (λ _. into _ _ tt) (λ _. into _ _ tt))
      at Sb = into _ _ tt
      at Nn = into _ _ tt
      at (Data i) = into _ _ tt
      at Crc = into _ _ tt

  outcome_reads : (o : Outcome) (c : Cursor) (p : Part) (a : Attempt) → Reads x.part (reads_as o x c p a)
  outcome_reads More c p a = read_on_reads c p a
  outcome_reads Cut c p a = vain_reads p after_5_long
  outcome_reads NoMaster c p a = vain_reads p after_5_long
  outcome_reads Unusable c p a = vain_reads p after_5_long
  outcome_reads TooLong c p a = vain_reads p after_5_long
  outcome_reads (BrokenPair y) c p a = vain_reads p after_5
  outcome_reads (Whole m) c p a = whole_reads p a m

reads_one : (x : Station) (b : ℕ) (c : Cursor) (p : Part) (a : Attempt) → Reads (read_one c x.part b).part (reads x b c p a)
unfolding reads
reads_one x b c p a =
    outcome_reads (with_part x (read_one c x.part b).part) (read_one c x.part b).outcome (read_one c x.part b).cursor p a

-- ---- a slot

abbrev AfterTurn : Station → Phase → Sound → Turn → Type 0
AfterTurn s p h t = PartAfter s.part (oldest_of s.outbox) p h t.told t.station.phase t.station.part

module _ (s : Station) where
  with_kept : (p : Phase) (h : Sound) {t : Turn} → Keeps s.part t → PartAfter s.part (oldest_of s.outbox) p h t.told t.station.phase s.part
      → AfterTurn s p h t
  with_kept p h {t} k w =
      subst (λ (r : Telegram). PartAfter s.part (oldest_of s.outbox) p h t.told t.station.phase r) (sym k.kept) w

  with_read : (b : ℕ) (c : Cursor) (p : Part) (a : Attempt) {t : Turn} → Reads (read_one c s.part b).part t → AfterTurn s (Reading c p a) (Symbol b) t
  with_read b c p a {t} k =
      subst (λ (r : Telegram). PartAfter s.part (oldest_of s.outbox) (Reading c p a) (Symbol b) t.told t.station.phase r)
      (sym k.read) (is_read k.one)

  bid_part : (b : ℕ) (c : Cursor) (p : Part) (a : Attempt) → AfterTurn s (Reading c p a) (Symbol b) (hear_bid (noted s) b c p a)
  unfolding hear_bid noted withdrawn owned
  bid_part b c p a = by_address (eqb b s.address)
    where
      by_address : (t : Bool) → AfterTurn s (Reading c p a) (Symbol b) (cond t (owned (noted s)) (reads (withdrawn (noted s) b) b c p a))
      by_address true = is_oldest
      by_address false = with_read b c p a (reads_one (withdrawn (noted s) b) b c p a)

  reading_part : (b : ℕ) (c : Cursor) (p : Part) (a : Attempt) → AfterTurn s (Reading c p a) (Symbol b) (hear_reading (bids s) (noted s) b c p a)
  unfolding hear_reading noted
  reading_part b c p a = by_bid (bids s)
    where
      by_bid : (t : Bool) → AfterTurn s (Reading c p a) (Symbol b) (cond t (hear_bid (noted s) b c p a) (reads (noted s) b c p a))
      by_bid true = bid_part b c p a
      by_bid false = with_read b c p a (reads_one (noted s) b c p a)

  quiet_part : (p : Phase) → AfterTurn s p Quiet (row p heard_nothing (bids s) (over_now s))
  quiet_part Silent = with_kept Silent Quiet (going (over_now s) _ _) silent_kept
  quiet_part (Reading c p a) = with_kept (Reading c p a) Quiet (going (over_now s) _ _) reading_kept
  quiet_part (Sending i p a) = with_kept (Sending i p a) Quiet (sender_keeps (over_now s) p Disturbed) sending_kept
  quiet_part (Awaiting p a) = with_kept (Awaiting p a) Quiet (going (over_now s) _ _) awaiting_kept
  quiet_part (Judging p a m k) = with_kept (Judging p a m k) Quiet (going (over_now s) _ _) judging_kept
  quiet_part Owing = with_kept Owing Quiet (going (over_now s) _ _) owing_kept
  quiet_part Releasing = with_kept Releasing Quiet (released_keeps (over_now s)) releasing_kept

  symbol_part : (b : ℕ) (p : Phase) → AfterTurn s p (Symbol b) (row p (heard_other b) (bids s) (noted s))
  unfolding noted
  symbol_part b Silent = with_kept Silent (Symbol b) (going (noted s) _ _) silent_kept
  symbol_part b (Reading c p a) = reading_part b c p a
  symbol_part b (Sending i p a) = with_kept (Sending i p a) (Symbol b) (hear_own_keeps (noted s) b i p a) sending_kept
  symbol_part b (Awaiting p a) = with_kept (Awaiting p a) (Symbol b) (hear_reply_keeps (noted s) b p a) awaiting_kept
  symbol_part b (Judging p a m k) = with_kept (Judging p a m k) (Symbol b) (judges_keeps (noted s) b p a m) judging_kept
  symbol_part b Owing = with_kept Owing (Symbol b) (going (noted s) _ _) owing_kept
  symbol_part b Releasing = with_kept Releasing (Symbol b) (released_keeps (noted s)) releasing_kept

  -- the part after a slot without AA
  pub part_after : {h : Sound} → NoSyn h → AfterTurn s s.phase h (hears s h)
  unfolding hears hear_quiet hear_symbol
  part_after quiet = quiet_part s.phase
  part_after (symbol {b} n) = rw (heard_other_lem s b n) (symbol_part b s.phase)
