-- A heard AA: every station reads from the start, and what it is told in 01's words (01, "Admission", "Reading", "Release").
-- Assumes nothing.
use mathlib.Core.Path.{◌≡◌, refl}
use mathlib.Core.Bool.{Bool, true, false, cond}
use mathlib.Core.List.{List, [], ◌∷◌}
use Prim.Native.Nat.{ℕ}
use Rattle.wire.specs.Reader.{master_start}
use Rattle.wire.specs.declared.part.Telegram.{Telegram}
use Rattle.wire.specs.declared.reader.Cursor.{Cursor}
use Rattle.wire.specs.declared.part.Part.TheVariants.{MasterPart, AnswerPart}
use Rattle.station.specs.declared.phase.Attempt.{Attempt}
use Rattle.station.specs.declared.phase.Attempt.TheVariants.{First}
use Rattle.station.specs.declared.phase.Phase.{Phase}
use Rattle.station.specs.declared.phase.Phase.TheVariants.{Silent, Reading, Sending, Awaiting, Judging, Owing, Releasing}
use Rattle.station.specs.declared.phase.Since.TheVariants.{Nothing}
use Rattle.station.specs.declared.phase.Sound.{Sound}
use Rattle.station.specs.declared.phase.Failure.TheVariants.{Disturbed, SynHeard}
use Rattle.station.specs.declared.phase.Told.{Told}
use Rattle.station.specs.declared.phase.Told.TheVariants.{Silence, Failed, Free, FailedFree}
use Rattle.station.specs.declared.station.Station.{Station}
use Rattle.station.specs.declared.station.Turn.{Turn}
use Rattle.station.specs.Events.{Event, failed, event, free_event, events_as, tells}
use Rattle.station.specs.Outbox.{dropped}
use Rattle.station.specs.Phase.{owner}
use Rattle.station.specs.Table.{left, released, heard_aa, row}
use Rattle.station.specs.Turn.{goes}
use Rattle.station.specs.Admission.{admits, restarted, bids}
use Rattle.station.specs.Hear.{cut, hear_syn, hears}
use Rattle.station.proofs.Aa.{IsSyn, aa, heard_aa_lem}

-- what AA makes of a station
pub record AfterSyn (s : Station) (after : Station) : Type 0 where
  pub phase : after.phase ≡ Reading master_start MasterPart First
  pub owns_not : owner after.phase ≡ false
  pub admitted : after.admitted ≡ admits s
  pub marked : after.marked ≡ false
  pub since : after.since ≡ Nothing
  pub address : after.address ≡ s.address
  pub master : after.master ≡ s.master
  pub replies : after.replies ≡ s.replies
  pub part : after.part ≡ s.part
  pub outbox : after.outbox ≡ cond (owner s.phase) (dropped s.outbox) s.outbox

-- what AA tells, and the bench's lines, for a station with its address and the part it has a share in
pub data SynTells (own : ℕ) (part : Telegram) : Phase → Told → List Event → Type 0 where
  -- an owner sending its part: failed 1, and free
  sending_owner : {i : ℕ} {a : Attempt}
      → SynTells own part (Sending i MasterPart a) (FailedFree Disturbed) (event own failed (1 ∷ []) ∷ free_event own part ∷ [])
  -- an owner awaiting its acknowledgement, or awaiting, reading or judging an answer: failed 4, and free
  awaiting_owner : {a : Attempt}
      → SynTells own part (Awaiting MasterPart a) (FailedFree SynHeard) (event own failed (4 ∷ []) ∷ free_event own part ∷ [])
  reading_owner : {c : Cursor} {a : Attempt}
      → SynTells own part (Reading c AnswerPart a) (FailedFree SynHeard) (event own failed (4 ∷ []) ∷ free_event own part ∷ [])
  judging_owner : {a : Attempt} {m k : Bool}
      → SynTells own part (Judging AnswerPart a m k) (FailedFree SynHeard) (event own failed (4 ∷ []) ∷ free_event own part ∷ [])
  -- a releasing owner: free
  releasing_owner : SynTells own part Releasing Free (free_event own part ∷ [])
  -- a slave sending its answer: failed 1; awaiting its acknowledgement: failed 4
  sending_slave : {i : ℕ} {a : Attempt} → SynTells own part (Sending i AnswerPart a) (Failed Disturbed) (event own failed (1 ∷ []) ∷ [])
  awaiting_slave : {a : Attempt} → SynTells own part (Awaiting AnswerPart a) (Failed SynHeard) (event own failed (4 ∷ []) ∷ [])
  -- nobody else is told anything
  silent_station : SynTells own part Silent Silence []
  reading_station : {c : Cursor} {a : Attempt} → SynTells own part (Reading c MasterPart a) Silence []
  judging_station : {a : Attempt} {m k : Bool} → SynTells own part (Judging MasterPart a m k) Silence []
  owing_slave : SynTells own part Owing Silence []

-- what AA tells: sending a part, failed 1; awaiting its acknowledgement, or awaiting, reading or judging an answer, failed 4
abbrev pub told_by_syn : Phase → Told
told_by_syn Silent = Silence
told_by_syn (Reading c MasterPart a) = Silence
told_by_syn (Reading c AnswerPart a) = FailedFree SynHeard
told_by_syn (Sending at MasterPart a) = FailedFree Disturbed
told_by_syn (Sending at AnswerPart a) = Failed Disturbed
told_by_syn (Awaiting MasterPart a) = FailedFree SynHeard
told_by_syn (Awaiting AnswerPart a) = Failed SynHeard
told_by_syn (Judging MasterPart a m k) = Silence
told_by_syn (Judging AnswerPart a m k) = FailedFree SynHeard
told_by_syn Owing = Silence
told_by_syn Releasing = Free

-- the turn that AA cuts short, before the station reads from the start
record Cut (s : Station) (p : Phase) (t : Turn) : Type 0 where
  told : t.told ≡ told_by_syn p
  admits_same : admits t.station ≡ admits s
  address : t.station.address ≡ s.address
  master : t.station.master ≡ s.master
  replies : t.station.replies ≡ s.replies
  part : t.station.part ≡ s.part
  outbox : t.station.outbox ≡ cond (owner p) (dropped s.outbox) s.outbox

stays : (s : Station) {p : Phase} (q : Phase) (t : Told) → t ≡ told_by_syn p → owner p ≡ false → Cut s p (goes s q t)
unfolding goes admits
stays s q t e o =
    record { told = e; admits_same = refl; address = refl; master = refl; replies = refl; part = refl; outbox = rw o }

leaves : (s : Station) {p : Phase} {t : Told} → t ≡ told_by_syn p → owner p ≡ true → Cut s p (record { station = left s; told = t })
unfolding left admits
leaves s e o =
    record { told = e; admits_same = refl; address = refl; master = refl; replies = refl; part = refl; outbox = rw o }

cut_row : (s : Station) (p : Phase) (bid : Bool) → Cut s p (row p heard_aa bid s)
unfolding released
cut_row s Silent bid = stays s Silent Silence refl refl
cut_row s (Reading c MasterPart a) bid = stays s Silent Silence refl refl
cut_row s (Reading c AnswerPart a) bid = leaves s refl refl
cut_row s (Sending at MasterPart a) bid = leaves s refl refl
cut_row s (Sending at AnswerPart a) bid = stays s Silent (Failed Disturbed) refl refl
cut_row s (Awaiting MasterPart a) bid = leaves s refl refl
cut_row s (Awaiting AnswerPart a) bid = stays s Silent (Failed SynHeard) refl refl
cut_row s (Judging MasterPart a m k) bid = stays s Silent Silence refl refl
cut_row s (Judging AnswerPart a m k) bid = leaves s refl refl
cut_row s Owing bid = stays s Owing Silence refl refl
cut_row s Releasing bid = leaves s refl refl

cut_of : (s : Station) → Cut s s.phase (cut s)
unfolding cut
cut_of s = cut_row s s.phase (bids s)

told_of : (s : Station) → (hear_syn s).told ≡ told_by_syn s.phase
unfolding hear_syn
told_of s = (cut_of s).told

after_of : (s : Station) → AfterSyn s (hear_syn s).station
unfolding hear_syn restarted
after_of s =
    let w = cut_of s in
    record {
      phase = refl;
      owns_not = refl;
      admitted = w.admits_same;
      marked = refl;
      since = refl;
      address = w.address;
      master = w.master;
      replies = w.replies;
      part = w.part;
      outbox = w.outbox;
    }

-- after an AA every station reads from the start; it owns nothing, marks go out, and `admits` says who may bid
pub after_syn : (s : Station) {h : Sound} → IsSyn h → AfterSyn s (hears s h).station
after_syn s (aa {b} e) = rw (heard_aa_lem s b e) (after_of s)

-- what it is told is a function of its phase
pub syn_told : (s : Station) {h : Sound} → IsSyn h → (hears s h).told ≡ told_by_syn s.phase
syn_told s (aa {b} e) = rw (heard_aa_lem s b e) (told_of s)

rows : (own : ℕ) (part : Telegram) (p : Phase) → SynTells own part p (told_by_syn p) (events_as (told_by_syn p) own part)
rows own part Silent = silent_station
rows own part (Reading c MasterPart a) = reading_station
rows own part (Reading c AnswerPart a) = reading_owner
rows own part (Sending i MasterPart a) = sending_owner
rows own part (Sending i AnswerPart a) = sending_slave
rows own part (Awaiting MasterPart a) = awaiting_owner
rows own part (Awaiting AnswerPart a) = awaiting_slave
rows own part (Judging MasterPart a m k) = judging_station
rows own part (Judging AnswerPart a m k) = judging_owner
rows own part Owing = owing_slave
rows own part Releasing = releasing_owner

-- and case by case, with the lines of the bench
pub syn_tells : (s : Station) {h : Sound} → IsSyn h → SynTells s.address s.part s.phase (hears s h).told (tells (hears s h))
unfolding tells
syn_tells s i = rw (syn_told s i, (after_syn s i).address, (after_syn s i).part) (rows s.address s.part s.phase)
