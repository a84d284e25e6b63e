-- A station from AA to AA: as it begins after AA, as it has lost its bid or did not bid, and as the next AA finds it (01, "Admission").
-- Assumes nothing.
use mathlib.Core.Path.{◌≡◌, refl, sym, ap, subst, ◌∙◌}
use mathlib.Core.Bool.{Bool, true, false, cond, false≢true}
use mathlib.Core.Logic.{inl, inr, ◌≢◌}
use Prim.Native.Nat.{ℕ, ◌≤◌, ◌<◌}
use native.Mathlib.Omega.{arith}
use borrow.Author.Tests.{eqb-true, eq-eqb, ne_eqb, ltb-true, lt-ltb}
use lib.Dec.{eqb, ltb}
use Rattle.address.specs.Half.{low_half, high_half}
use Rattle.address.specs.Master.{is_master}
use Rattle.address.proofs.Masters.{master_no_other_use}
use Rattle.wire.specs.Reader.{master_start, onward, more, read_qq, read_place, read_one, read_as, with_qq}
use Rattle.wire.specs.Symbol.{kind_of}
use Rattle.wire.specs.declared.reader.Cursor.{Cursor}
use Rattle.wire.specs.declared.reader.Place.TheVariants.{Zz}
use Rattle.wire.specs.declared.symbol.Kind.{Kind}
use Rattle.wire.specs.declared.symbol.Kind.TheVariants.{Count, Plain}
use Rattle.wire.proofs.SymbolKind.{by_kind}
use Rattle.station.specs.Admission.{admits, admits_after, over_now, noted, owned, withdrawn, bids, say_bid}
use Rattle.station.specs.Hear.{hear_quiet, hear_symbol, hears}
use Rattle.station.specs.Table.{row, hear_reading, read_on, reads_step, reads, hear_bid, heard_nothing, heard_other}
use Rattle.station.specs.Outbox.{held_in}
use Rattle.station.specs.Phase.{owner}
use Rattle.station.specs.Station.{syn, ready, says_at, says}
use Rattle.station.specs.Turn.{goes, with_part}
use Rattle.wire.specs.declared.part.Part.TheVariants.{MasterPart}
use Rattle.station.specs.declared.phase.Attempt.{Attempt}
use Rattle.station.specs.declared.phase.Attempt.TheVariants.{First}
use Rattle.station.specs.declared.phase.Phase.{Phase}
use Rattle.station.specs.declared.phase.Phase.TheVariants.{Silent, Reading, Sending, Awaiting, Judging, Owing, Releasing}
use Rattle.station.specs.declared.phase.Since.{Since}
use Rattle.station.specs.declared.phase.Since.TheVariants.{Nothing, OneSymbol}
use Rattle.station.specs.declared.phase.Sound.TheVariants.{Quiet, Symbol}
use Rattle.station.specs.declared.phase.Told.TheVariants.{Owns, Silence}
use Rattle.station.specs.declared.station.Station.{Station}
use Rattle.station.specs.declared.station.Turn.{Turn}
use Rattle.station.proofs.Aa.{IsSyn, aa}
use Rattle.station.proofs.AfterSyn.{AfterSyn, after_syn}
use Rattle.promises.specs.Fit.{Addressed}
use Rattle.promises.proofs.Contest.Anded.{NotAfter}
use Rattle.promises.proofs.Contest.Between.{Keeps}

is_aa : IsSyn (Symbol syn)
unfolding kind_of
is_aa = aa refl

-- ---- as a station begins after AA

-- it reads from the start, and only a master is admitted
pub record Opens (s : Station) : Type 0 where
  pub phase : s.phase ≡ Reading master_start MasterPart First
  pub may : s.admitted ≡ true → is_master s.address ≡ true

pub ready_opens : {s : Station} → Opens s → ready s ≡ s
unfolding ready
ready_opens o = rw o.phase

-- it says its address if it bids, and nothing else
pub opens_says : {s : Station} → Opens s → says (ready s) ≡ cond (bids s) (Symbol s.address) Quiet
unfolding says say_bid
opens_says o = rw (ready_opens o, o.phase)

and_first : (a b : Bool) → cond a b false ≡ true → (a ≡ true) × (b ≡ true)
and_first true b e = (refl, e)
and_first false b e = absurd (false≢true e)

-- to bid is to be admitted with a telegram waiting
pub bid_means : (s : Station) → bids s ≡ true → (s.admitted ≡ true) × (0 < held_in s.outbox)
unfolding bids
bid_means s e =
    let p = and_first s.admitted (ltb 0 (held_in s.outbox)) e in
    (p.0, ltb-true 0 (held_in s.outbox) p.1)

pub means_bid : (s : Station) → s.admitted ≡ true → 0 < held_in s.outbox → bids s ≡ true
unfolding bids
means_bid s e h = rw (e) (lt-ltb 0 (held_in s.outbox) h)

-- ---- a master address is heard

-- it is neither AA nor A9, so it is read by its place
read_kind : (P : Kind → Type 0) (w : ℕ) → is_master w ≡ true → P Count → P Plain → P (kind_of w)
read_kind P w m count plain =
    by_kind P w (λ e. absurd ((master_no_other_use w m).1 e)) (λ e. absurd ((master_no_other_use w m).0 e)) (λ _. count) (λ _ _ _. plain)

heard_master : (s : Station) (w : ℕ) → is_master w ≡ true → hears s (Symbol w) ≡ hear_symbol s w
unfolding hears
heard_master s w m = rw (ne_eqb w syn (master_no_other_use w m).1)

-- as QQ it is read, and the reading goes on
abbrev read_one_qq : Station → ℕ → Turn
read_one_qq x w =
    goes (with_part x (with_qq x.part w)) (Reading (onward master_start w Zz false) MasterPart First) Silence

reads_master : (x : Station) (w : ℕ) → is_master w ≡ true → reads x w master_start MasterPart First ≡ read_one_qq x w
unfolding reads read_one read_place master_start read_qq more read_on onward
reads_master x w m =
    read_kind (λ k. reads_step (read_as k master_start x.part w) x MasterPart First ≡ read_one_qq x w) w m (rw m) (rw m)

heard_opens : {s : Station} → Opens s → (w : ℕ) → is_master w ≡ true
    → hears s (Symbol w) ≡ cond (bids s) (cond (eqb w s.address) (owned (noted s)) (read_one_qq (withdrawn (noted s) w) w)) (read_one_qq (noted s) w)
unfolding hear_symbol hear_reading hear_bid noted
heard_opens {s} o w m = heard_master s w m ∙ ap (λ (p : Phase). row p (heard_other w) (bids s) (noted s)) o.phase ∙ both_read
  where
    both_read : hear_reading (bids s) (noted s) w master_start MasterPart First
        ≡ cond (bids s) (cond (eqb w s.address) (owned (noted s)) (read_one_qq (withdrawn (noted s) w) w)) (read_one_qq (noted s) w)
    both_read =
        ap (λ (t : Turn). cond (bids s) (cond (eqb w s.address) (owned (noted s)) t) (reads (noted s) w master_start MasterPart First))
        (reads_master (withdrawn (noted s) w) w m)
        ∙ ap (λ (t : Turn). cond (bids s) (cond (eqb w s.address) (owned (noted s)) (read_one_qq (withdrawn (noted s) w) w)) t)
        (reads_master (noted s) w m)

-- who bids and hears its address owns the wire
pub record Won (t : Turn) : Type 0 where
  pub told : t.told ≡ Owns
  pub owns : owner t.station.phase ≡ true

pub wins : {s : Station} → Opens s → bids s ≡ true → Won (hears s (Symbol s.address))
unfolding owned
wins {s} o e =
    rw (heard_opens o s.address (o.may (bid_means s e).0), e, eq-eqb s.address s.address refl) (record { told = refl; owns = refl })

-- ---- between two AA

-- a phase in which nothing is said but a bid, and quiet changes nothing
pub data Mute : Phase → Type 0 where
  silent : Mute Silent
  reading : {c : Cursor} {a : Attempt} → Mute (Reading c MasterPart a)

-- of the class of a, and not before it
abbrev pub Near : ℕ → ℕ → Type 0
Near a c = (is_master c ≡ true) × (low_half c ≡ low_half a) × (high_half a ≤ high_half c)

-- one symbol was heard, which had the class of a: nobody owns the wire, and who is marked is near to a
pub record Lost (a : ℕ) (s : Station) : Type 0 where
  pub mute : Mute s.phase
  pub admitted : s.admitted ≡ false
  pub since : s.since ≡ OneSymbol
  pub near : s.marked ≡ true → Near a s.address

-- the one that is to own the wire: a marked master with a telegram
pub record Waits (a : ℕ) (s : Station) : Type 0 where
  pub address : s.address ≡ a
  pub master : s.master ≡ true
  pub marked : s.marked ≡ true
  pub holds : 0 < held_in s.outbox

-- as AA finds a station
pub record Starts (s : Station) : Type 0 where
  pub opens : Opens s
  pub since : s.since ≡ Nothing
  pub marked : s.marked ≡ false
  pub master : s.admitted ≡ true → s.master ≡ true

-- whatever it was, AA makes it start; who is admitted is a master
pub syn_starts : (s : Station) → Addressed s → Starts (hears s (Symbol syn)).station
unfolding admits
syn_starts s a =
    let w : AfterSyn s (hears s (Symbol syn)).station = after_syn s is_aa in
    let master : (hears s (Symbol syn)).station.admitted ≡ true → s.master ≡ true
    = λ e. (and_first s.master (admits_after s.since s.marked) (sym w.admitted ∙ e)).0 in
    record {
      opens = record { phase = w.phase; may = λ e. ap is_master w.address ∙ a.master_address (master e) };
      since = w.since;
      marked = w.marked;
      master = λ e. w.master ∙ master e;
    }

-- a master address w is heard of the class of a, and not a: nobody owns the wire
module _ (a w : ℕ) (m : is_master w ≡ true) (low : low_half w ≡ low_half a) (high : high_half w ≤ high_half a) (other : w ≢ a) where
  -- it is not the address of any that bids
  not_its : (c : ℕ) → NotAfter a c → w ≢ c
  not_its c (inl l) e = omega (arith, ap low_half e)
  not_its c (inr l) e = other (omega (arith, ap low_half e, ap high_half e, l.0, l.1))

  near_of : (c : ℕ) → is_master c ≡ true → NotAfter a c → low_half w ≡ low_half c → Near a c
  near_of c n (inl l) e = absurd (omega arith)
  near_of c n (inr l) e = (n, omega arith, l.1)

  -- what a station is like that began after AA
  pub lost_one : {s : Station} → Starts s → (bids s ≡ true → NotAfter a s.address) → Lost a (hears s (Symbol w)).station
  unfolding goes withdrawn noted
  lost_one {s} st bef = rw (heard_opens st.opens w m) (by_bid (bids s) refl)
    where
      by_bid : (t : Bool) → bids s ≡ t
          → Lost a (cond t (cond (eqb w s.address) (owned (noted s)) (read_one_qq (withdrawn (noted s) w) w)) (read_one_qq (noted s) w)).station
      by_bid true e =
          rw (ne_eqb w s.address (not_its s.address (bef e)))
          (record {
            mute = reading;
            admitted = refl;
            since = rw st.since;
            near = λ k. near_of s.address (st.opens.may (bid_means s e).0) (bef e) (eqb-true (low_half w) (low_half s.address) k);
          })
      by_bid false e =
          record { mute = reading; admitted = refl; since = rw st.since; near = λ k. absurd (false≢true (sym st.marked ∙ k)) }

  -- and the one with the address a is marked
  pub lost_waits : {s : Station} → Starts s → bids s ≡ true → s.address ≡ a → Waits a (hears s (Symbol w)).station
  unfolding goes withdrawn noted
  lost_waits {s} st e own =
      rw (heard_opens st.opens w m, e, ne_eqb w s.address (λ k. other (k ∙ own)))
      (record {
        address = own;
        master = st.master (bid_means s e).0;
        marked = eq-eqb (low_half w) (low_half s.address) (low ∙ sym (ap low_half own));
        holds = (bid_means s e).1;
      })

-- ---- quiet, and the AA that follows

mute_ready_at : (s : Station) {p : Phase} → Mute p → s.phase ≡ p → ready s ≡ s
unfolding ready
mute_ready_at s silent e = rw e
mute_ready_at s reading e = rw e

pub mute_ready : (s : Station) → Mute s.phase → ready s ≡ s
mute_ready s m = mute_ready_at s m refl

-- it says nothing
pub lost_says : {a : ℕ} {s : Station} → Lost a s → says (ready s) ≡ Quiet
unfolding says say_bid bids
lost_says {a} {s} l = rw (mute_ready s l.mute) (by_phase s.phase l.mute)
  where
    by_phase : (p : Phase) → Mute p → says_at p s ≡ Quiet
    by_phase Silent silent = refl
    by_phase (Reading c p k) reading = rw l.admitted
    by_phase (Sending _ _ _) m = elim m [ ]
    by_phase (Awaiting _ _) m = elim m [ ]
    by_phase (Judging _ _ _ _) m = elim m [ ]
    by_phase Owing m = elim m [ ]
    by_phase Releasing m = elim m [ ]

quiet_at : {a : ℕ} {s : Station} → Lost a s → {p : Phase} → Mute p → Lost a (row p heard_nothing (bids s) (over_now s)).station
unfolding goes
quiet_at l silent = record { mute = silent; admitted = refl; since = l.since; near = l.near }
quiet_at l reading = record { mute = reading; admitted = refl; since = l.since; near = l.near }

-- a quiet slot changes nothing of this
pub quiet_lost : {a : ℕ} {s : Station} → Lost a s → Lost a (hears s Quiet).station
unfolding hears hear_quiet
quiet_lost {s = s} l = quiet_at l l.mute

quiet_waits_at : {a : ℕ} {s : Station} → Waits a s → {p : Phase} → Mute p → Waits a (row p heard_nothing (bids s) (over_now s)).station
unfolding goes
quiet_waits_at v silent = record { address = v.address; master = v.master; marked = v.marked; holds = v.holds }
quiet_waits_at v reading = record { address = v.address; master = v.master; marked = v.marked; holds = v.holds }

pub quiet_waits : {a : ℕ} {s : Station} → Lost a s → Waits a s → Waits a (hears s Quiet).station
unfolding hears hear_quiet
quiet_waits l v = quiet_waits_at v l.mute

-- admitted again: only who is near to a
pub record Again (a : ℕ) (s : Station) : Type 0 where
  pub opens : Opens s
  pub near : s.admitted ≡ true → Near a s.address

pub again_opens : {a : ℕ} {s : Station} → Lost a s → Again a (hears s (Symbol syn)).station
unfolding admits
again_opens {a} {s} l =
    let w : AfterSyn s (hears s (Symbol syn)).station = after_syn s is_aa in
    let near : (hears s (Symbol syn)).station.admitted ≡ true → Near a s.address
    = λ e. l.near (ap (λ (n : Since). admits_after n s.marked) (sym l.since) ∙ (and_first s.master (admits_after s.since s.marked) (sym w.admitted ∙ e)).1) in
    record {
      opens = record { phase = w.phase; may = λ e. ap is_master w.address ∙ (near e).0 };
      near = λ e. rw w.address (near e);
    }

owner_not : {p : Phase} → Mute p → owner p ≡ false
owner_not silent = refl
owner_not reading = refl

-- and the one with the address a is admitted, with its telegram
pub record Bidder (a : ℕ) (s : Station) : Type 0 where
  pub address : s.address ≡ a
  pub bid : bids s ≡ true

pub again_bids : {a : ℕ} {s : Station} → Lost a s → Waits a s → Bidder a (hears s (Symbol syn)).station
unfolding admits
again_bids {a} {s} l v =
    let w : AfterSyn s (hears s (Symbol syn)).station = after_syn s is_aa in
    let in-box : (hears s (Symbol syn)).station.outbox ≡ s.outbox = w.outbox ∙ rw (owner_not l.mute) in
    record {
      address = w.address ∙ v.address;
      bid = means_bid (hears s (Symbol syn)).station (w.admitted ∙ rw (v.master, l.since, v.marked)) (rw in-box v.holds);
    }

-- ---- queue and reply calls

pub opens_kept : {s t : Station} → Keeps s t → Opens s → Opens t
opens_kept k o = record { phase = k.phase ∙ o.phase; may = λ e. ap is_master k.address ∙ o.may (sym k.admitted ∙ e) }

pub starts_kept : {s t : Station} → Keeps s t → Starts s → Starts t
starts_kept k st =
    record {
      opens = opens_kept k st.opens;
      since = k.since ∙ st.since;
      marked = k.marked ∙ st.marked;
      master = λ e. k.master ∙ st.master (sym k.admitted ∙ e);
    }

pub lost_kept : {a : ℕ} {s t : Station} → Keeps s t → Lost a s → Lost a t
lost_kept {a} k l =
    record {
      mute = subst Mute (sym k.phase) l.mute;
      admitted = k.admitted ∙ l.admitted;
      since = k.since ∙ l.since;
      near = λ e. rw k.address (l.near (sym k.marked ∙ e));
    }

pub waits_kept : {a : ℕ} {s t : Station} → Keeps s t → Waits a s → Waits a t
waits_kept k v =
    record {
      address = k.address ∙ v.address;
      master = k.master ∙ v.master;
      marked = k.marked ∙ v.marked;
      holds = omega (arith, k.held, v.holds);
    }

pub again_kept : {a : ℕ} {s t : Station} → Keeps s t → Again a s → Again a t
again_kept k g = record { opens = opens_kept k g.opens; near = λ e. rw k.address (g.near (sym k.admitted ∙ e)) }

pub bidder_kept : {a : ℕ} {s t : Station} → Keeps s t → Bidder a s → Bidder a t
bidder_kept {s = s} {t = t} k d =
    let p = bid_means s d.bid in
    record { address = k.address ∙ d.address; bid = means_bid t (k.admitted ∙ p.0) (omega (arith, k.held, p.1)) }
