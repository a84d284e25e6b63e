-- No address is answered to by two attached stations, whatever was called: refusal 9 keeps them apart, and no other call
-- changes an address (01, the table). Assumes nothing.
use mathlib.Core.Path.{◌≡◌, refl, sym, ap, subst, ◌∙◌}
use mathlib.Core.Logic.{◌≢◌}
use mathlib.Core.Bool.{Bool, true, false, cond, false≢true, true≢false}
use Prim.Native.Nat.{ℕ, ◌≤◌, ◌<◌}
use native.Mathlib.Omega.{arith}
use native.Mathlib.Nat.{not-suc-le-zero}
use native.Mathlib.Decide.{ℕ_discrete}
use borrow.Author.Tests.{eqb-true, eq-eqb}
use lib.Dec.{eqb}
use lib.ListN.{length, length-set}
use Rattle.laws.specs.First.{first_from, is_found}
use Rattle.std.specs.Prelude.{Option, Some, None}
use Rattle.address.specs.Role.{role_of}
use Rattle.address.specs.Master.{is_master, slave_of}
use Rattle.address.specs.declared.Role as R
use Rattle.address.specs.declared.Role.TheVariants as role
use Rattle.address.proofs.Which.{master_exactly_when}
use Rattle.station.specs.Addressed.{is_own}
use Rattle.station.specs.Station.{fresh, ready}
use Rattle.station.specs.declared.phase.Sound.{Sound}
use Rattle.station.specs.declared.station.Station.{Station}
use Rattle.station.specs.declared.station.Turn.{Turn}
use Rattle.station.proofs.Frame.{hears_lasting, ready_lasting}
use Rattle.bus.specs.declared.bus.Bus.{Bus}
use Rattle.bus.specs.Bus.{Answer}
use Rattle.bus.specs.declared.find.Query.TheVariants.{Holder}
use Rattle.bus.specs.Bus.{seats, powered_on, attached_to, attached_turns, turn_at, with_bits}
use Rattle.bus.specs.Find.{meets, first_of, there_is}
use Rattle.bus.specs.Attach.{wrong_for, no_such_address, occupied, newcomer}
use Rattle.bus.specs.Slot.{slot_heard}
use Rattle.laws.proofs.AtMost.{at_most_same}
use Rattle.laws.proofs.FirstIs.{missing_each}
use Rattle.promises.specs.Calls.{Call, ByteCall, Reachable}
use Rattle.promises.specs.Fit.{station_at, Addressed, Fit}
use Rattle.promises.proofs.Shared.Seats.{either_false, every_seat, with_newcomer, Did, refused, attached, queued, replied, holding_more, answering_more, attached_turn, attached_slot, attached_before, attached_newcomer, turn_same, turn_other, newcomer_seat, other_seat, slot_seat, whole_slot, of_reachable, by_call}

-- ---- who a station is

pub record SameOne (s after : Station) : Type 0 where
  pub address : after.address ≡ s.address
  pub master : after.master ≡ s.master

own_same : {s after : Station} → SameOne s after → (a : ℕ) → is_own after a ≡ is_own s a
unfolding is_own
own_same e a = rw (e.address, e.master)

-- where every attached station is who it was, the bus is fit as it was
pub still_fit : (b after : Bus) → length after.turns ≡ seats → attached_to after ≡ attached_to b
    → ((i : ℕ) → i < attached_to b → SameOne (station_at b i) (station_at after i)) → Fit b → Fit after
still_fit b after w n same f =
    record {
      array = w;
      apart = λ i j a h k o p.
          let h = rw n at h in
          let k = rw n at k in
          f.apart i j a h k (sym (own_same (same i h) a) ∙ o) (sym (own_same (same j k) a) ∙ p);
      addressed = λ i h.
          let h = rw n at h in
          let e = same i h in
          let g = f.addressed i h in
          record { byte = rw e.address g.byte; master_address = rw (e.address, e.master) g.master_address };
    }

-- ---- the newcomer

-- nobody has an address that no search finds
nobody_has : (b : Bus) (a : ℕ) → length b.turns ≡ seats → there_is b (Holder a) ≡ false
    → (i : ℕ) → i < attached_to b → is_own (station_at b i) a ≡ false
unfolding there_is first_of
nobody_has b a w e i h = go (first_from (meets (Holder a)) 0 (attached_turns b)) refl e
  where
    go : (f : Option ℕ) → first_from (meets (Holder a)) 0 (attached_turns b) ≡ f → is_found f ≡ false → is_own (station_at b i) a ≡ false
    go (Some j) q e = absurd (true≢false e)
    go None q e = every_seat (λ (t : Turn). meets (Holder a) t ≡ false) b w (missing_each (meets (Holder a)) 0 (attached_turns b) q) i h

-- what a newcomer would answer to, nobody does
apart_from : (b : Bus) (a : ℕ) (m : Bool) → length b.turns ≡ seats → occupied b a m ≡ false → (i x : ℕ) → i < attached_to b
    → is_own (station_at b i) x ≡ true → is_own (fresh a m) x ≡ true → ⊥
unfolding occupied is_own fresh
apart_from b a m w o i x h p q = by_first (eqb x a) refl q
  where
    e : (there_is b (Holder a) ≡ false) × (cond m (there_is b (Holder (slave_of a))) false ≡ false)
    e = either_false (there_is b (Holder a)) (cond m (there_is b (Holder (slave_of a))) false) o

    by_second : (n : Bool) → cond n (there_is b (Holder (slave_of a))) false ≡ false → cond n (eqb x (slave_of a)) false ≡ true → ⊥
    by_second true r q = false≢true (sym (nobody_has b (slave_of a) w r i h) ∙ rw (eqb-true x (slave_of a) q) at p)
    by_second false r q = false≢true q

    by_first : (t : Bool) → eqb x a ≡ t → cond t true (cond m (eqb x (slave_of a)) false) ≡ true → ⊥
    by_first true r q = false≢true (sym (nobody_has b a w e.0 i h) ∙ rw (eqb-true x a r) at p)
    by_first false r q = by_second m e.1 q

wrong_not : (k : R.Role) → wrong_for k true ≡ false → k ≡ role.Master
wrong_not role.Master e = refl
wrong_not role.Slave e = absurd (true≢false e)
wrong_not role.Broadcast e = absurd (true≢false e)
wrong_not role.Never e = absurd (true≢false e)

newcomer_addressed : (a : ℕ) (m : Bool) → a < 256 → no_such_address a m ≡ false → Addressed (newcomer a m).station
unfolding newcomer no_such_address fresh
newcomer_addressed a m h n = record { byte = h; master_address = of_master m n }
  where
    of_master : (m : Bool) → wrong_for (role_of a) m ≡ false → m ≡ true → is_master a ≡ true
    of_master true n e = (master_exactly_when a h).0 (wrong_not (role_of a) n)
    of_master false n e = absurd (false≢true e)

module _ (b : Bus) (a : ℕ) (m : Bool) (f : Fit b) (byte : a < 256) (n : no_such_address a m ≡ false) (o : occupied b a m ≡ false) (room : b.count < seats) where
  abbrev after : Bus
  after = with_newcomer b a m

  -- a seat is the newcomer's, or was taken before
  data Seat (i : ℕ) : Type 0 where
    new : i ≡ b.count → station_at after i ≡ fresh a m → Seat i
    old : i < attached_to b → station_at after i ≡ station_at b i → Seat i

  seat : (i : ℕ) → i < attached_to after → Seat i
  unfolding newcomer
  seat i h = go (ℕ_discrete i b.count)
    where
      go : Dec (i ≡ b.count) → Seat i
      go (yes e) = new e (rw e (ap (λ (t : Turn). t.station) (newcomer_seat b a m f.array room)))
      go (no d) =
          old (omega (arith, attached_newcomer b a m room, attached_before b room)) (ap (λ (t : Turn). t.station) (other_seat b a m i d))

  apart_after : (i j x : ℕ) → Seat i → Seat j → is_own (station_at after i) x ≡ true → is_own (station_at after j) x ≡ true → i ≡ j
  apart_after i j x (new e s) (new g t) p q = e ∙ sym g
  apart_after i j x (new e s) (old g t) p q = absurd (apart_from b a m f.array o j x g (rw t at q) (rw s at p))
  apart_after i j x (old e s) (new g t) p q = absurd (apart_from b a m f.array o i x e (rw s at p) (rw t at q))
  apart_after i j x (old e s) (old g t) p q = f.apart i j x e g (rw s at p) (rw t at q)

  addressed_after : (i : ℕ) → Seat i → Addressed (station_at after i)
  unfolding newcomer
  addressed_after i (new e s) = rw s (newcomer_addressed a m byte n)
  addressed_after i (old e s) = rw s (f.addressed i e)

  newcomer_fit : Fit after
  newcomer_fit =
      record {
        array = length-set b.turns b.count (newcomer a m) ∙ f.array;
        apart = λ i j x h k p q. apart_after i j x (seat i h) (seat j k) p q;
        addressed = λ i h. addressed_after i (seat i h);
      }

-- ---- every call

one_turn : (b : Bus) (i : ℕ) (t : Turn) (bits : ℕ) → SameOne (station_at b i) t.station → Fit b → Fit (with_bits b i t bits)
one_turn b i t bits same f = still_fit b (with_bits b i t bits) (length-set b.turns i t ∙ f.array) (attached_turn b i t bits) each f
  where
    each : (j : ℕ) → j < attached_to b → SameOne (station_at b j) (station_at (with_bits b i t bits) j)
    each j h = go (ℕ_discrete j i)
      where
        go : Dec (j ≡ i) → SameOne (station_at b j) (station_at (with_bits b i t bits) j)
        go (yes e) =
            let k : i < attached_to b = omega arith in
            rw e (subst (λ (u : Turn). SameOne (station_at b i) u.station) (sym (turn_same b i t bits f.array k)) same)
        go (no d) =
            subst (λ (u : Turn). SameOne (station_at b j) u.station) (sym (turn_other b i j t bits d)) (record { address = refl; master = refl })

answer_fit : {b : Bus} {c : Call} {x : Answer} → ByteCall c → Did b c x → Fit b → Fit x.bus
answer_fit k (refused r) f = f
answer_fit {b} k (attached {a = a} {m = m} _ n o h) f = newcomer_fit b a m f k n o h
answer_fit {b} k (queued {bits = n} i t s) f =
    one_turn b i (holding_more (turn_at b i) t) n (record { address = refl; master = refl }) f
answer_fit {b} k (replied {bits = n} i r _) f =
    one_turn b i (answering_more (turn_at b i) r) n (record { address = refl; master = refl }) f

pub slot_fit : (b : Bus) (h : Sound) → Fit b → Fit (slot_heard b h)
slot_fit b h f = still_fit b (slot_heard b h) (whole_slot b h f.array) (attached_slot b h) each f
  where
    each : (i : ℕ) → i < attached_to b → SameOne (station_at b i) (station_at (slot_heard b h) i)
    each i k =
        let r = ready_lasting (station_at b i) in
        let g = hears_lasting (ready (station_at b i)) h in
        subst (λ (u : Turn). SameOne (station_at b i) u.station) (sym (slot_seat b h i f.array k))
        (record { address = g.address ∙ r.address; master = g.master ∙ r.master })

fit_on : Fit powered_on
unfolding powered_on attached_to
fit_on =
    record {
      array = refl;
      apart = λ i j a h k o p. absurd (not-suc-le-zero h);
      addressed = λ i h. absurd (not-suc-le-zero h);
    }

-- after any sequence of calls the addresses are apart
pub reachable_fit : {b : Bus} → Reachable b → Fit b
reachable_fit r = of_reachable Fit fit_on (λ b c k f. by_call Fit b (λ c x k d. answer_fit k d f) (λ h. slot_fit b h f) c k) r

its_own : (s : Station) → is_own s s.address ≡ true
unfolding is_own
its_own s = rw (eq-eqb s.address s.address refl)

-- so two attached stations with one address are one
pub one_address : {b : Bus} → Fit b → (i j : ℕ) → i < attached_to b → j < attached_to b → (station_at b i).address ≡ (station_at b j).address → i ≡ j
one_address {b} f i j l k e = f.apart i j (station_at b j).address l k (rw e at (its_own (station_at b i))) (its_own (station_at b j))

-- and as a slot begins, two stations have two addresses
pub ready_apart : {b : Bus} → Reachable b → (i j : ℕ) → i < attached_to b → j < attached_to b → i ≢ j
    → (ready (station_at b i)).address ≡ (ready (station_at b j)).address → ⊥
ready_apart {b} r i j l k d e =
    d (one_address (reachable_fit r) i j l k (sym (ready_lasting (station_at b i)).address ∙ e ∙ (ready_lasting (station_at b j)).address))

-- ---- how many are attached

counted_answer : {b : Bus} {c : Call} {x : Answer} → Did b c x → b.count ≤ seats → x.bus.count ≤ seats
counted_answer (refused _) w = w
counted_answer (attached _ _ _ h) w = omega arith
counted_answer (queued _ _ _) w = w
counted_answer (replied _ _ _) w = w

counted_slot : (b : Bus) (h : Sound) → b.count ≤ seats → (slot_heard b h).count ≤ seats
unfolding slot_heard
counted_slot b h w = w

-- after any calls there are at most 32
pub reachable_count : {b : Bus} → Reachable b → b.count ≤ seats
unfolding powered_on
reachable_count r =
    of_reachable (λ b. b.count ≤ seats) (omega arith)
    (λ b c k w. by_call (λ b. b.count ≤ seats) b (λ c x k d. counted_answer d w) (λ h. counted_slot b h w) c k) r

-- so as many as are counted
pub reachable_attached : {b : Bus} → Reachable b → attached_to b ≡ b.count
unfolding attached_to
reachable_attached {b} r = at_most_same b.count seats (reachable_count r)
