-- After a SYN and in twelve undisturbed slots, who is the least of the masters that it admits and that wait becomes owner.
-- Assumes nothing.
use mathlib.Core.Path.{◌≡◌, refl, sym, ap, subst, ◌∙◌}
use mathlib.Core.Bool.{Bool, true, false}
use mathlib.Core.List.{List, [], ◌∷◌}
use mathlib.Core.Logic.{inl, inr, ◌≢◌}
use Prim.Native.Nat.{ℕ, zero, suc, ◌+◌, ◌≤◌, ◌<◌}
use native.Mathlib.Omega.{arith}
use borrow.Author.Tests.{eqb-true, eqb-false, lt-ltb}
use lib.Dec.{eqb}
use lib.ListN.{length}
use Rattle.address.specs.Half.{low_half, high_half}
use Rattle.address.specs.Master.{is_master}
use Rattle.station.specs.Hear.{hears}
use Rattle.station.specs.Admission.{bids}
use Rattle.station.specs.Station.{syn, ready}
use Rattle.station.specs.declared.phase.Sound.{Sound}
use Rattle.station.specs.declared.phase.Sound.TheVariants.{Quiet, Symbol}
use Rattle.station.specs.declared.station.Station.{Station}
use Rattle.station.specs.declared.station.Turn.{Turn}
use Rattle.station.proofs.Frame.{ready_lasting}
use Rattle.bus.specs.Bus.{seats, attached_to, turn_at}
use Rattle.bus.specs.Slot.{patience, generator_says, generator_next, spoken, slot_heard, slot_run}
use Rattle.bus.specs.declared.bus.Bus.{Bus}
use Rattle.promises.specs.Calls.{Call, slot, after_call, after_calls}
use Rattle.promises.specs.Contest.{SynHeardIn, sent, disturbed, Between, attaching, queued, replied, Undisturbed, by_all, between, Each, Contends, LeastRank, BecomesOwner, OwnsInOneOf, this_slot, later}
use Rattle.promises.specs.Fit.{station_at, Addressed, Fit}
use Rattle.promises.specs.Slots.{slots_in}
use Rattle.promises.proofs.Contest.Anded.{NotAfter, not_after}
use Rattle.promises.proofs.Contest.Between.{Keeps, KeepsAll, between_keeps}
use Rattle.promises.proofs.Contest.Round.{ready_opens, bid_means, means_bid, Won, wins, Near, Lost, Waits, Starts, syn_starts, lost_one, lost_waits, mute_ready, lost_says, quiet_lost, quiet_waits, Again, again_opens, Bidder, again_bids, starts_kept, lost_kept, waits_kept, again_kept, bidder_kept}
use Rattle.promises.proofs.Contest.Word.{InEverySeat, MasterOrQuiet, AtMost, Opening, word_master, word_low, word_high, word_quiet, seat_after, array_after, attached_after, seats_after}

-- ---- the calls

pub attached_kept : {b c : Bus} → KeepsAll b c → attached_to c ≡ attached_to b
unfolding attached_to
attached_kept k = rw k.count

seats_kept : (P : Station → Type 0) {b c : Bus} → ((s t : Station) → Keeps s t → P s → P t) → KeepsAll b c → InEverySeat P b → InEverySeat P c
seats_kept P {b} {c} f k p j h = f (station_at b j) (station_at c j) (k.stations j) (p j (rw (attached_kept k) at h))

between_none : {c : Call} (cs : List Call) → Between c → slots_in (c ∷ cs) ≡ slots_in cs
between_none cs attaching = omega arith
between_none cs queued = omega arith
between_none cs replied = omega arith

-- ---- a slot with a known word

-- the generator's count after it
count_quiet : (b : Bus) (k : ℕ) → b.quiet ≡ k → k < patience → (slot_heard b Quiet).quiet ≡ suc k
unfolding slot_heard
count_quiet b k e h = ap (λ (q : ℕ). generator_next q Quiet) e ∙ rw (lt-ltb k patience h) (omega arith)

count_symbol : (b : Bus) (x : ℕ) → (slot_heard b (Symbol x)).quiet ≡ 0
unfolding slot_heard
count_symbol b x = refl

ran_after : (b : Bus) (h : Sound) → (slot_heard b h).ran ≡ true
unfolding slot_heard
ran_after b h = refl

pub hears_word : (b : Bus) (w : Sound) → spoken b ≡ w → slot_run b ≡ slot_heard b w
unfolding slot_run
hears_word b w e = ap (slot_heard b) e

-- who bids and hears its address becomes owner
own_word : (b : Bus) (i : ℕ) → Opening b → i < attached_to b → bids (station_at b i) ≡ true → spoken b ≡ Symbol (station_at b i).address → BecomesOwner b i
own_word b i o h e w =
    let won : Won (turn_at (slot_run b) i)
    = rw (hears_word b _ w, seat_after b (Symbol (station_at b i).address) o.array i h, ready_opens (o.opens i h)) (wins (o.opens i h) e) in
    record { told = won.told; owns = won.owns }

-- ---- the last slot: only those near to a are admitted

record Last (a i : ℕ) (b : Bus) : Type 0 where
  ran : b.ran ≡ true
  array : length b.turns ≡ seats
  quiet : b.quiet ≡ 0
  seated : i < attached_to b
  each : InEverySeat (Again a) b
  it : Bidder a (station_at b i)

last_opening : {a i : ℕ} {b : Bus} → Last a i b → Opening b
last_opening l = record { array = l.array; quiet = l.quiet; opens = λ j h. (l.each j h).opens }

last_kept : {a i : ℕ} {b c : Bus} → KeepsAll b c → Last a i b → Last a i c
last_kept {a} {i} k l =
    record {
      ran = k.ran ∙ l.ran;
      array = k.array ∙ l.array;
      quiet = k.quiet ∙ l.quiet;
      seated = rw (attached_kept k) l.seated;
      each = seats_kept (Again a) (λ s t. again_kept) k l.each;
      it = bidder_kept (k.stations i) l.it;
    }

last_owns : (a i : ℕ) (b : Bus) → Last a i b → BecomesOwner b i
last_owns a i b l = own_word b i o l.seated l.it.bid (by_word (spoken b) refl)
  where
    o : Opening b
    o = last_opening l

    near : (j : ℕ) → j < attached_to b → bids (station_at b j) ≡ true → Near a (station_at b j).address
    near j h e = (l.each j h).near (bid_means (station_at b j) e).0

    by_word : (w : Sound) → spoken b ≡ w → w ≡ Symbol (station_at b i).address
    by_word Quiet e =
        let h : suc (low_half (station_at b i).address) ≤ low_half (station_at b i).address
        = (word_low (suc (low_half (station_at b i).address)) b o).0 (rw e tt) i l.seated l.it.bid in
        absurd (omega arith)
    by_word (Symbol w) e =
        let x : low_half w ≤ low_half (station_at b i).address = (word_low (low_half w) b o).0 (rw e (omega arith)) i l.seated l.it.bid in
        let y : high_half w ≤ high_half (station_at b i).address = (word_high (high_half w) b o).0 (rw e (omega arith)) i l.seated l.it.bid in
        let p : low_half a ≤ low_half w = subst (AtMost low_half (low_half a)) e ((word_low (low_half a) b o).1 (λ j h k. omega (arith, (near j h k).1))) in
        let q : high_half a ≤ high_half w = subst (AtMost high_half (high_half a)) e ((word_high (high_half a) b o).1 (λ j h k. omega (arith, (near j h k).2))) in
        let f : (station_at b i).address ≡ a = l.it.address in
        ap Symbol (omega (arith, ap low_half f, ap high_half f))

last_run : (a i : ℕ) (b : Bus) → Last a i b → (cs : List Call) → Each Undisturbed cs → slots_in cs ≡ 1 → OwnsInOneOf i b cs
last_run a i b l [] u n = absurd (omega arith)
last_run a i b l (c ∷ cs) (by_all, us) n = this_slot (last_owns a i b l)
last_run a i b l (c ∷ cs) (between k, us) n =
    later (last_run a i (after_call b c) (last_kept (between_keeps b l.ran k) l) cs us (sym (between_none cs k) ∙ n))

-- ---- k quiet slots since the one symbol

record Waiting (a i k : ℕ) (b : Bus) : Type 0 where
  ran : b.ran ≡ true
  array : length b.turns ≡ seats
  quiet : b.quiet ≡ k
  seated : i < attached_to b
  each : InEverySeat (Lost a) b
  it : Waits a (station_at b i)

waiting_kept : {a i k : ℕ} {b c : Bus} → KeepsAll b c → Waiting a i k b → Waiting a i k c
waiting_kept {a} {i} k l =
    record {
      ran = k.ran ∙ l.ran;
      array = k.array ∙ l.array;
      quiet = k.quiet ∙ l.quiet;
      seated = rw (attached_kept k) l.seated;
      each = seats_kept (Lost a) (λ s t. lost_kept) k l.each;
      it = waits_kept (k.stations i) l.it;
    }

waiting_word : {a i k : ℕ} {b : Bus} → Waiting a i k b → spoken b ≡ generator_says k
waiting_word {b = b} l = word_quiet b (λ j h. lost_says (l.each j h)) ∙ ap generator_says l.quiet

-- what holds of a station after it heard holds in its seat
in_seat : (P : Station → Type 0) (b : Bus) (h : Sound) → length b.turns ≡ seats → (j : ℕ) → j < attached_to b
    → P (hears (ready (station_at b j)) h).station → P (station_at (slot_heard b h) j)
in_seat P b h array j k p = subst (λ (t : Turn). P t.station) (sym (seat_after b h array j k)) p

-- one more quiet slot
waiting_quiet : (a i k : ℕ) (b : Bus) → k < patience → Waiting a i k b → Waiting a i (suc k) (slot_run b)
unfolding generator_says
waiting_quiet a i k b h l = rw (hears_word b Quiet (waiting_word l ∙ rw (lt-ltb k patience h))) after
  where
    after : Waiting a i (suc k) (slot_heard b Quiet)
    after =
        record {
          ran = ran_after b Quiet;
          array = array_after b Quiet l.array;
          quiet = count_quiet b k l.quiet h;
          seated = rw (attached_after b Quiet) l.seated;
          each = seats_after (Lost a) (Lost a) b Quiet l.array (λ s e. rw (mute_ready s e.mute) (quiet_lost e)) l.each;
          it =
              let e = l.each i l.seated in
              in_seat (Waits a) b Quiet l.array i l.seated (rw (mute_ready (station_at b i) e.mute) (quiet_waits e l.it));
        }

-- the generator's AA
waiting_syn : (a i : ℕ) (b : Bus) → Waiting a i patience b → Last a i (slot_run b)
unfolding generator_says
waiting_syn a i b l = rw (hears_word b (Symbol syn) (waiting_word l)) after
  where
    after : Last a i (slot_heard b (Symbol syn))
    after =
        record {
          ran = ran_after b (Symbol syn);
          array = array_after b (Symbol syn) l.array;
          quiet = count_symbol b syn;
          seated = rw (attached_after b (Symbol syn)) l.seated;
          each = seats_after (Lost a) (Again a) b (Symbol syn) l.array (λ s e. rw (mute_ready s e.mute) (again_opens e)) l.each;
          it =
              let e = l.each i l.seated in
              in_seat (Bidder a) b (Symbol syn) l.array i l.seated (rw (mute_ready (station_at b i) e.mute) (again_bids e l.it));
        }

waiting_run : (a i k : ℕ) (b : Bus) → Waiting a i k b → (m : ℕ) → k + m ≡ patience → (cs : List Call) → Each Undisturbed cs → slots_in cs ≡ suc (suc m)
    → OwnsInOneOf i b cs
waiting_run a i k b l m e [] u n = absurd (omega arith)
waiting_run a i k b l m e (c ∷ cs) (between d, us) n =
    later (waiting_run a i k (after_call b c) (waiting_kept (between_keeps b l.ran d) l) m e cs us (sym (between_none cs d) ∙ n))
waiting_run a i k b l zero e (c ∷ cs) (by_all, us) n =
    let nine : k ≡ patience = omega arith in
    later (last_run a i (slot_run b) (waiting_syn a i b (rw nine at l)) cs us (omega arith))
waiting_run a i k b l (suc m) e (c ∷ cs) (by_all, us) n =
    later (waiting_run a i (suc k) (slot_run b) (waiting_quiet a i k b (omega arith) l) m (omega arith) cs us (omega arith))

-- ---- the slot after AA

pub record Begun (b : Bus) : Type 0 where
  pub ran : b.ran ≡ true
  pub array : length b.turns ≡ seats
  pub quiet : b.quiet ≡ 0
  pub each : InEverySeat Starts b

begun_kept : {b c : Bus} → KeepsAll b c → Begun b → Begun c
begun_kept k l =
    record { ran = k.ran ∙ l.ran; array = k.array ∙ l.array; quiet = k.quiet ∙ l.quiet; each = seats_kept Starts (λ s t. starts_kept) k l.each }

class : (x y : ℕ) → NotAfter x y → low_half x ≤ low_half y
class x y (inl l) = omega arith
class x y (inr l) = omega (arith, l.0)

module _ (b : Bus) (g : Begun b) (i : ℕ) (c : Contends b i) (least : LeastRank b i) where
  o : Opening b
  o = record { array = g.array; quiet = g.quiet; opens = λ j h. (g.each j h).opens }

  bid : bids (station_at b i) ≡ true
  bid = means_bid (station_at b i) c.admitted c.waits

  master_of : (j : ℕ) → j < attached_to b → bids (station_at b j) ≡ true → is_master (station_at b j).address ≡ true
  master_of j h e = (g.each j h).opens.may (bid_means (station_at b j) e).0

  -- the least rank, by the halves
  before : (j : ℕ) → j < attached_to b → bids (station_at b j) ≡ true → NotAfter (station_at b i).address (station_at b j).address
  before j h e =
      let m = master_of i c.attached bid in
      let n = master_of j h e in
      let p = bid_means (station_at b j) e in
      let q = least.not_before j (record { attached = h; admitted = p.0; waits = p.1 }) in
      not_after (station_at b i).address (station_at b j).address least.rank q.0 m n least.ranks q.1 q.2

  -- the word has the least class
  record Heard (w : ℕ) : Type 0 where
    is : spoken b ≡ Symbol w
    master : is_master w ≡ true
    low : low_half w ≡ low_half (station_at b i).address
    high : high_half w ≤ high_half (station_at b i).address

  by_word : (v : Sound) → spoken b ≡ v → (w : ℕ) × Heard w
  by_word Quiet e =
      let h : suc (low_half (station_at b i).address) ≤ low_half (station_at b i).address
      = (word_low (suc (low_half (station_at b i).address)) b o).0 (rw e tt) i c.attached bid in
      absurd (omega arith)
  by_word (Symbol w) e =
      let x : low_half w ≤ low_half (station_at b i).address = (word_low (low_half w) b o).0 (rw e (omega arith)) i c.attached bid in
      let y : high_half w ≤ high_half (station_at b i).address = (word_high (high_half w) b o).0 (rw e (omega arith)) i c.attached bid in
      let p : low_half (station_at b i).address ≤ low_half w
      = subst (AtMost low_half (low_half (station_at b i).address)) e
      ((word_low (low_half (station_at b i).address) b o).1 (λ j h k. class (station_at b i).address (station_at b j).address (before j h k))) in
      (w, record { is = e; master = subst MasterOrQuiet e (word_master b o); low = omega arith; high = y })

  -- the word is another: everybody waits for the next AA, and it is marked
  begun_waiting : (w : ℕ) → Heard w → w ≢ (station_at b i).address → Waiting (station_at b i).address i 0 (slot_run b)
  begun_waiting w h other = rw (hears_word b (Symbol w) h.is) after
    where
      lost : (s : Station) → Starts s × (bids s ≡ true → NotAfter (station_at b i).address s.address)
          → Lost (station_at b i).address (hears (ready s) (Symbol w)).station
      lost s p =
          rw (ready_opens p.0.opens)
          (lost_one (station_at b i).address w h.master h.low h.high other p.0 p.1)

      after : Waiting (station_at b i).address i 0 (slot_heard b (Symbol w))
      after =
          record {
            ran = ran_after b (Symbol w);
            array = array_after b (Symbol w) g.array;
            quiet = count_symbol b w;
            seated = rw (attached_after b (Symbol w)) c.attached;
            each =
                seats_after (λ s. Starts s × (bids s ≡ true → NotAfter (station_at b i).address s.address)) (Lost (station_at b i).address) b (Symbol w)
                g.array lost (λ j k. (g.each j k, before j k));
            it =
                let st = g.each i c.attached in
                in_seat (Waits (station_at b i).address) b (Symbol w) g.array i c.attached
                (rw (ready_opens st.opens) (lost_waits (station_at b i).address w h.master h.low h.high other st bid refl));
          }

  begun_run : (cs : List Call) → Each Undisturbed cs → slots_in cs ≡ 11 → OwnsInOneOf i b (slot ∷ cs)
  begun_run cs u n = by_own (by_word (spoken b) refl)
    where
      by_own : (w : ℕ) × Heard w → OwnsInOneOf i b (slot ∷ cs)
      by_own (w, h) = go (eqb w (station_at b i).address) refl
        where
          go : (t : Bool) → eqb w (station_at b i).address ≡ t → OwnsInOneOf i b (slot ∷ cs)
          go true e = this_slot (own_word b i o c.attached bid (h.is ∙ ap Symbol (eqb-true w (station_at b i).address e)))
          go false e =
              later (waiting_run (station_at b i).address i 0 (slot_run b) (begun_waiting w h (eqb-false w (station_at b i).address e)) 9 refl cs u n)

-- ---- from AA on

begun_syn : (b : Bus) → Fit b → Begun (slot_heard b (Symbol syn))
begun_syn b f =
    record {
      ran = ran_after b (Symbol syn);
      array = array_after b (Symbol syn) f.array;
      quiet = count_symbol b syn;
      each = seats_after Addressed Starts b (Symbol syn) f.array starts f.addressed;
    }
  where
    starts : (s : Station) → Addressed s → Starts (hears (ready s) (Symbol syn)).station
    starts s a =
        let l = ready_lasting s in
        syn_starts (ready s) (record { byte = rw l.address a.byte; master_address = λ e. ap is_master l.address ∙ a.master_address (sym l.master ∙ e) })

pub begun_heard : (b : Bus) → Fit b → {c : Call} → SynHeardIn b c → Begun (after_call b c)
begun_heard b f (sent e) = rw (hears_word b (Symbol syn) e) (begun_syn b f)
begun_heard b f disturbed = begun_syn b f

pub begun_between : (b : Bus) → Begun b → (cs : List Call) → Each Between cs → Begun (after_calls b cs)
unfolding after_calls
begun_between b g [] u = g
begun_between b g (c ∷ cs) (k, us) = begun_between (after_call b c) (begun_kept (between_keeps b g.ran k) g) cs us

-- the twelve-slot clause for a station that is given as the least; `TheLeast` shows that there is one wherever any contend
pub contender_owns_by_the_twelfth :
    -- on a bus whose stations have fit addresses
    (b : Bus) → Fit b
    -- a SYN is heard in a slot, however it came about
    → (c : Call) → SynHeardIn b c
    -- then users may queue, set replies and have an attach refused, and the next slot begins
    → (before : List Call) → Each Between before
    -- the station i is among those that this SYN admits and that have a telegram waiting when that slot begins
    → (i : ℕ) → Contends (after_calls (after_call b c) before) i
    -- and of all of them it has the least rank
    → LeastRank (after_calls (after_call b c) before) i
    -- that slot and eleven more are undisturbed, with any such calls between them
    → (calls : List Call) → Each Undisturbed calls → slots_in (slot ∷ calls) ≡ 12
    -- it becomes owner in one of the twelve
    → OwnsInOneOf i (after_calls (after_call b c) before) (slot ∷ calls)
contender_owns_by_the_twelfth b f c s before u i k least calls v n =
    begun_run (after_calls (after_call b c) before) (begun_between (after_call b c) (begun_heard b f s) before u) i k least calls v (omega arith)
