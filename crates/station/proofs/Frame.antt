-- What a slot leaves as it was: who the station is, its replies, its outbox but for the telegram of an owner that leaves, its mark.
-- Assumes nothing.
use mathlib.Core.Path.{◌≡◌, refl, sym, ◌∙◌}
use mathlib.Core.Bool.{Bool, true, false, cond, false≢true}
use Prim.Native.Nat.{ℕ}
use borrow.Author.Tests.{eqb-true}
use lib.Dec.{eqb}
use Rattle.address.specs.Half.{low_half}
use Rattle.wire.specs.Symbol.{kind_of}
use Rattle.wire.specs.declared.symbol.Kind.TheVariants.{Syn}
use Rattle.station.specs.declared.outbox.Outbox.{Outbox}
use Rattle.wire.specs.declared.part.Part.TheVariants.{MasterPart, AnswerPart}
use Rattle.station.specs.declared.phase.Phase.{Phase}
use Rattle.station.specs.declared.phase.Phase.TheVariants.{Silent, Reading, Sending, Awaiting, Judging, Owing, Releasing}
use Rattle.station.specs.declared.phase.Sound.{Sound}
use Rattle.station.specs.declared.phase.Sound.TheVariants.{Quiet, Symbol}
use Rattle.station.specs.declared.station.Station.{Station}
use Rattle.station.specs.Outbox.{dropped}
use Rattle.station.specs.Phase.{owner}
use Rattle.station.specs.Admission.{withdrawn, bids, noted}
use Rattle.station.specs.Station.{answering, ready_at, ready}
use Rattle.station.proofs.AfterSyn.{told_by_syn, after_syn, syn_told}
use Rattle.station.specs.Hear.{hears}
use Rattle.station.proofs.Aa.{IsSyn, NoSyn, quiet, symbol, by_sound}
use Rattle.station.proofs.Turned.{outbox_after, Enters, on_quiet, on_symbol, on_other, slot}

-- who a station is, and what it answers
pub record Lasting (s after : Station) : Type 0 where
  pub address : after.address ≡ s.address
  pub master : after.master ≡ s.master
  pub replies : after.replies ≡ s.replies

-- a station as a slot begins: as it stood, but for a slave that owes an answer
pub data Begins (s : Station) : Station → Type 0 where
  as_it_stood : Begins s s
  answers : s.phase ≡ Owing → Begins s (answering s)

pub ready_begins : (s : Station) → Begins s (ready s)
unfolding ready
ready_begins s = by_phase s.phase refl
  where
    by_phase : (p : Phase) → s.phase ≡ p → Begins s (ready_at p s)
    by_phase Silent e = as_it_stood
    by_phase (Reading c p a) e = as_it_stood
    by_phase (Sending i p a) e = as_it_stood
    by_phase (Awaiting p a) e = as_it_stood
    by_phase (Judging p a m k) e = as_it_stood
    by_phase Owing e = answers e
    by_phase Releasing e = as_it_stood

begins_lasting : {s x : Station} → Begins s x → Lasting s x
unfolding answering
begins_lasting as_it_stood = record { address = refl; master = refl; replies = refl }
begins_lasting (answers _) = record { address = refl; master = refl; replies = refl }

begins_outbox : {s x : Station} → Begins s x → x.outbox ≡ s.outbox
unfolding answering
begins_outbox as_it_stood = refl
begins_outbox (answers _) = refl

-- as a slot begins, these stay, and the outbox
pub ready_lasting : (s : Station) → Lasting s (ready s)
ready_lasting s = begins_lasting (ready_begins s)

pub ready_outbox : (s : Station) → (ready s).outbox ≡ s.outbox
ready_outbox s = begins_outbox (ready_begins s)

entering_lasting : {s x : Station} {h : Sound} → Enters s h x → Lasting s x
unfolding noted withdrawn
entering_lasting on_quiet = record { address = refl; master = refl; replies = refl }
entering_lasting on_symbol = record { address = refl; master = refl; replies = refl }
entering_lasting (on_other _ _) = record { address = refl; master = refl; replies = refl }

entering_outbox : {s x : Station} {h : Sound} → Enters s h x → x.outbox ≡ s.outbox
unfolding noted withdrawn
entering_outbox on_quiet = refl
entering_outbox on_symbol = refl
entering_outbox (on_other _ _) = refl

-- whatever is heard, these stay
pub hears_lasting : (s : Station) (h : Sound) → Lasting s (hears s h).station
hears_lasting s h = by_sound h by_syn by_slot
  where
    by_syn : IsSyn h → Lasting s (hears s h).station
    by_syn i = let w = after_syn s i in record { address = w.address; master = w.master; replies = w.replies }

    by_slot : NoSyn h → Lasting s (hears s h).station
    by_slot n =
        let t = (slot s n).turned in
        let e = entering_lasting (slot s n).enters in
        record { address = t.address ∙ e.address; master = t.master ∙ e.master; replies = t.replies ∙ e.replies }

owner_drops : (p : Phase) (o : Outbox) → cond (owner p) (dropped o) o ≡ outbox_after (told_by_syn p) o
owner_drops Silent o = refl
owner_drops (Reading c MasterPart a) o = refl
owner_drops (Reading c AnswerPart a) o = refl
owner_drops (Sending i MasterPart a) o = refl
owner_drops (Sending i AnswerPart a) o = refl
owner_drops (Awaiting MasterPart a) o = refl
owner_drops (Awaiting AnswerPart a) o = refl
owner_drops (Judging MasterPart a m k) o = refl
owner_drops (Judging AnswerPart a m k) o = refl
owner_drops Owing o = refl
owner_drops Releasing o = refl

-- the oldest telegram leaves the outbox exactly where free, or failed and free, is told
pub outbox_after_lem : (s : Station) (h : Sound) → (hears s h).station.outbox ≡ outbox_after (hears s h).told s.outbox
outbox_after_lem s h = by_sound h by_syn by_slot
  where
    by_syn : IsSyn h → (hears s h).station.outbox ≡ outbox_after (hears s h).told s.outbox
    by_syn i = rw (syn_told s i) ((after_syn s i).outbox ∙ owner_drops s.phase s.outbox)

    by_slot : NoSyn h → (hears s h).station.outbox ≡ outbox_after (hears s h).told s.outbox
    by_slot n = (slot s n).turned.outbox ∙ rw (entering_outbox (slot s n).enters)

-- the admission is over with every slot but AA's
pub admission_over : (s : Station) {h : Sound} → NoSyn h → (hears s h).station.admitted ≡ false
unfolding noted withdrawn
admission_over s n = (slot s n).turned.admitted ∙ over (slot s n).enters
  where
    over : {h : Sound} {x : Station} → Enters s h x → x.admitted ≡ false
    over on_quiet = refl
    over on_symbol = refl
    over (on_other _ _) = refl

-- the mark after a slot without AA: as it was, or, of a station that bid and heard another symbol, whether the low half is its class
pub data Mark (s : Station) : Sound → Bool → Type 0 where
  as_it_was : {h : Sound} → Mark s h s.marked
  by_class : {b : ℕ} → bids s ≡ true → (b ≡ s.address → ⊥) → Mark s (Symbol b) (eqb (low_half b) (low_half s.address))

entering_mark : {s x : Station} {h : Sound} → Enters s h x → Mark s h x.marked
unfolding noted withdrawn
entering_mark on_quiet = as_it_was
entering_mark on_symbol = as_it_was
entering_mark (on_other bid n) = by_class bid n

pub mark_after : (s : Station) {h : Sound} → NoSyn h → Mark s h (hears s h).station.marked
mark_after s n = rw (slot s n).turned.marked (entering_mark (slot s n).enters)

-- quiet sets and takes no mark
pub marked_after_quiet : (s : Station) → (hears s Quiet).station.marked ≡ s.marked
marked_after_quiet s = of_quiet (mark_after s quiet)
  where
    of_quiet : {m : Bool} → Mark s Quiet m → m ≡ s.marked
    of_quiet as_it_was = refl

-- how a station comes to be marked
pub data MarkedBy (s : Station) : Sound → Type 0 where
  class_heard : {b : ℕ} → bids s ≡ true → (b ≡ s.address → ⊥) → (kind_of b ≡ Syn → ⊥) → low_half b ≡ low_half s.address → MarkedBy s (Symbol b)

marked_row : {s : Station} {h : Sound} {m : Bool} → NoSyn h → Mark s h m → s.marked ≡ false → m ≡ true → MarkedBy s h
marked_row n as_it_was o e = absurd (false≢true (sym o ∙ e))
marked_row {s} (symbol n) (by_class {b} bid d) o e = class_heard bid d n (eqb-true (low_half b) (low_half s.address) e)

-- a mark is set only so: it bids, and hears a symbol that is not its address and not AA, with its low half
pub marked_only_if : (s : Station) {h : Sound} → s.marked ≡ false → (hears s h).station.marked ≡ true → MarkedBy s h
marked_only_if s {h} o e =
    by_sound h (λ i. absurd (false≢true (sym (after_syn s i).marked ∙ e))) (λ n. marked_row n (mark_after s n) o e)
