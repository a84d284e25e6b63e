-- Who is next, read from the bits, is who a walk over all attached stations finds; and which bits are set (02, E7). Assumes nothing.
use mathlib.Core.Path.{◌≡◌, refl, sym, ap, subst, ◌∙◌}
use mathlib.Core.Bool.{Bool, true, false, cond, false≢true}
use mathlib.Core.List.{List, [], ◌∷◌}
use mathlib.Core.Logic.{◌↔◌, ◌⊎◌, inl, inr, ⊎_elim}
use Prim.Native.Nat.{ℕ, zero, suc, ◌^◌, ◌<◌}
use native.Mathlib.Omega.{arith}
use lib.ListN.{length, get_or, take}
use lib.Seq.{get_or-take, length-take-le}
use Rattle.laws.proofs.FirstIs.{Every, none, next}
use Rattle.address.specs.Master.{rank_of}
use Rattle.std.specs.Prelude.{Some, None, Option}
use Rattle.address.proofs.Masters.{master_exactly_when_ranked}
use Rattle.ranks.specs.Bits.{with_rank, least_of, IsSet, ranks}
use Rattle.ranks.specs.Before.{or_before}
use Rattle.ranks.proofs.Digits.{none_set}
use Rattle.ranks.proofs.LeastRank.{least_none, least_with, few_with, set_with}
use Rattle.station.specs.Admission.{admits_after, admits, bids}
use Rattle.station.specs.Station.{ready, fresh}
use Rattle.station.specs.declared.phase.Sound.{Sound}
use Rattle.station.specs.declared.station.Station.{Station}
use Rattle.station.specs.declared.station.Turn.{Turn}
use Rattle.station.proofs.Aa.{IsSyn, NoSyn, by_sound}
use Rattle.station.proofs.AfterSyn.{after_syn}
use Rattle.station.proofs.Frame.{admission_over}
use Rattle.bus.specs.Attach.{newcomer}
use Rattle.bus.specs.Bus.{unseated, attached_to, attached_turns, turn_at}
use Rattle.bus.specs.Slot.{spoken, turned, slot_run}
use Rattle.bus.specs.Waiting.{with_bid, with_bids, gathered, next_of}
use Rattle.bus.specs.declared.bus.Bus.{Bus}
use Rattle.bus.proofs.Gathered.{Gathered, on_gathered, slot_gathered, attach_gathered, queue_gathered, reply_gathered}
use Rattle.bus.proofs.Loops.{attached_fit}
use Rattle.promises.specs.Calls.{Call, attach, queue, reply, slot, heard, after_call, after_calls, Reachable}
use Rattle.promises.specs.Fit.{station_at, Fit}
use Rattle.promises.specs.Next.{walk_from, walk_over, MasterWaits}
use Rattle.promises.proofs.Contest.Round.{bid_means, means_bid}
use Rattle.promises.proofs.Shared.FitKept.{reachable_fit}
use Rattle.promises.proofs.Shared.Seats.{Whole, did_attach, did_queue, did_reply, whole_answer, whole_slot, whole_on, of_reachable}
use Rattle.promises.proofs.Shared.Stations.{each_station}

-- ---- the bits are those that would be gathered, after any calls

pub record Kept (b : Bus) : Type 0 where
  pub array : Whole b
  pub bits : Gathered b

pub kept_call : (b : Bus) (c : Call) → Kept b → Kept (after_call b c)
unfolding slot_run
kept_call b (attach a m) w = record { array = whole_answer (did_attach b a m) w.array; bits = attach_gathered b w.array w.bits a m }
kept_call b (queue qq zz pb sb bytes) w =
    record { array = whole_answer (did_queue b qq zz pb sb bytes) w.array; bits = queue_gathered b w.array w.bits qq zz pb sb bytes }
kept_call b (reply a pb sb bytes) w =
    record { array = whole_answer (did_reply b a pb sb bytes) w.array; bits = reply_gathered b w.array w.bits a pb sb bytes }
kept_call b slot w = record { array = whole_slot b (spoken b) w.array; bits = slot_gathered b (spoken b) }
kept_call b (heard h) w = record { array = whole_slot b h w.array; bits = slot_gathered b h }

pub kept_calls : (b : Bus) (cs : List Call) → Kept b → Kept (after_calls b cs)
unfolding after_calls
kept_calls b [] w = w
kept_calls b (c ∷ cs) w = kept_calls (after_call b c) cs (kept_call b c w)

pub reachable_kept : {b : Bus} → Reachable b → Kept b
reachable_kept r = of_reachable Kept (record { array = whole_on; bits = on_gathered }) (λ b c _ w. kept_call b c w) r

-- ---- only masters are admitted

abbrev pub OnlyMasters : Turn → Type 0
OnlyMasters t = t.station.admitted ≡ true → t.station.master ≡ true

admits_masters : (s : Station) → admits s ≡ true → s.master ≡ true
unfolding admits
admits_masters s e = go s.master (admits_after s.since s.marked) e
  where
    go : (m u : Bool) → cond m u false ≡ true → m ≡ true
    go true u e = refl
    go false u e = e

slot_masters : (t : Turn) (h : Sound) → OnlyMasters t → OnlyMasters (turned h t)
slot_masters t h w = by_sound h by_syn by_slot
  where
    by_syn : IsSyn h → OnlyMasters (turned h t)
    by_syn i e = let a = after_syn (ready t.station) i in a.master ∙ admits_masters (ready t.station) (sym a.admitted ∙ e)

    by_slot : NoSyn h → OnlyMasters (turned h t)
    by_slot n e = absurd (false≢true (sym (admission_over (ready t.station) n) ∙ e))

new_masters : (a : ℕ) (m : Bool) → OnlyMasters (newcomer a m)
unfolding newcomer fresh
new_masters a m e = absurd (false≢true e)

pub admitted_master : {b : Bus} → Reachable b → (i : ℕ) → i < attached_to b → OnlyMasters (turn_at b i)
admitted_master r i l = each_station OnlyMasters new_masters (λ t m _ w. w) (λ t e _ w. w) slot_masters r i l

-- ---- station after station

-- its address is a byte, and if it bids it has a rank
record Ranked (t : Turn) : Type 0 where
  byte : t.station.address < 256
  rank : bids t.station ≡ true → (r : ℕ) × (rank_of t.station.address ≡ Some r)

walk_from_lem : (w : ℕ) {ts : List Turn} → w < 2 ^ ranks → Every Ranked ts → (least_of (with_bids w ts) ≡ walk_from (least_of w) ts) × (with_bids w ts < 2 ^ ranks)
unfolding with_bid
walk_from_lem w l none = (refl, l)
walk_from_lem w l (next {a = t} {l = ts} k ks) = go (bids t.station) refl (λ v h. walk_from_lem v h ks)
  where
    go : (u : Bool) → bids t.station ≡ u → ((v : ℕ) → v < 2 ^ ranks → (least_of (with_bids v ts) ≡ walk_from (least_of v) ts) × (with_bids v ts < 2 ^ ranks))
        → (least_of (with_bids (cond u (with_rank w t.station.address) w) ts) ≡ walk_from (cond u (or_before (least_of w) t.station.address) (least_of w)) ts)
        × (with_bids (cond u (with_rank w t.station.address) w) ts < 2 ^ ranks)
    go true e on =
        let r = k.rank e in
        let p = on (with_rank w t.station.address) (few_with w t.station.address k.byte l) in
        (p.0 ∙ ap (λ (n : Option ℕ). walk_from n ts) (least_with w t.station.address r.0 l k.byte r.1), p.1)
    go false e on = on w l

-- one of these bids and has rank r
record Among (ts : List Turn) (r : ℕ) : Type 0 where
  seat : ℕ
  there : seat < length ts
  bid : bids (get_or ts seat unseated).station ≡ true
  rank : rank_of (get_or ts seat unseated).station.address ≡ Some r

first_of : {t : Turn} {ts : List Turn} {r : ℕ} → bids t.station ≡ true → rank_of t.station.address ≡ Some r → Among (t ∷ ts) r
first_of e f = record { seat = 0; there = omega arith; bid = e; rank = f }

later : {t : Turn} {ts : List Turn} {r : ℕ} → Among ts r → Among (t ∷ ts) r
later m = record { seat = suc m.seat; there = omega (arith, m.there); bid = m.bid; rank = m.rank }

-- a bit is set that was set, or by the station itself
set_bid : (r w : ℕ) (t : Turn) → IsSet r (with_bid w t) ↔ (IsSet r w ⊎ ((bids t.station ≡ true) × (rank_of t.station.address ≡ Some r)))
unfolding with_bid
set_bid r w t = go (bids t.station)
  where
    go : (u : Bool) → IsSet r (cond u (with_rank w t.station.address) w) ↔ (IsSet r w ⊎ ((u ≡ true) × (rank_of t.station.address ≡ Some r)))
    go true =
        let v = set_with r w t.station.address in
        (λ s. ⊎_elim inl (λ e. inr (refl, e)) (v.0 s), λ s. v.1 (⊎_elim inl (λ p. inr p.1) s))
    go false = (inl, λ s. ⊎_elim (λ x. x) (λ p. absurd (false≢true p.0)) s)

set_bids : (r w : ℕ) (ts : List Turn) → IsSet r (with_bids w ts) ↔ (IsSet r w ⊎ Among ts r)
set_bids r w [] = (inl, λ s. ⊎_elim (λ x. x) (λ m. absurd (omega (arith, m.there))) s)
set_bids r w (t ∷ ts) = go (set_bids r (with_bid w t) ts) (set_bid r w t)
  where
    there : IsSet r w ⊎ ((bids t.station ≡ true) × (rank_of t.station.address ≡ Some r)) → IsSet r w ⊎ Among (t ∷ ts) r
    there (inl s) = inl s
    there (inr p) = inr (first_of p.0 p.1)

    back : (IsSet r w ⊎ ((bids t.station ≡ true) × (rank_of t.station.address ≡ Some r)) → IsSet r (with_bid w t))
        → Among (t ∷ ts) r → IsSet r (with_bid w t) ⊎ Among ts r
    back f m = at m.seat m.there m.bid m.rank
      where
        at : (i : ℕ) → i < length (t ∷ ts) → bids (get_or (t ∷ ts) i unseated).station ≡ true → rank_of (get_or (t ∷ ts) i unseated).station.address ≡ Some r
            → IsSet r (with_bid w t) ⊎ Among ts r
        at zero l e g = inl (f (inr (e, g)))
        at (suc i) l e g = inr (record { seat = i; there = omega arith; bid = e; rank = g })

    go : (IsSet r (with_bids (with_bid w t) ts) ↔ (IsSet r (with_bid w t) ⊎ Among ts r))
        → (IsSet r (with_bid w t) ↔ (IsSet r w ⊎ ((bids t.station ≡ true) × (rank_of t.station.address ≡ Some r))))
        → IsSet r (with_bids (with_bid w t) ts) ↔ (IsSet r w ⊎ Among (t ∷ ts) r)
    go on one = (
      λ s. ⊎_elim (λ x. there (one.0 x)) (λ m. inr (later m)) (on.0 s),
      λ s. on.1 (⊎_elim (λ x. inl (one.1 (inl x))) (back one.1) s),
    )

-- ---- the bus

every_first : (P : Turn → Type 0) (n : ℕ) (l : List Turn) → ((i : ℕ) → i < n → P (get_or l i unseated)) → Every P (take n l)
every_first P zero l f = none
every_first P (suc n) [] f = none
every_first P (suc n) (t ∷ l) f = next (f 0 (omega arith)) (every_first P n l (λ i h. f (suc i) (omega arith)))

module _ (b : Bus) (kept : Kept b) (fit : Fit b) (masters : (i : ℕ) → i < attached_to b → OnlyMasters (turn_at b i)) where
  seats_ranked : Every Ranked (attached_turns b)
  unfolding turn_at
  seats_ranked = every_first Ranked (attached_to b) b.turns each
    where
      each : (i : ℕ) → i < attached_to b → Ranked (turn_at b i)
      each i l =
          record {
            byte = (fit.addressed i l).byte;
            rank = λ e. (master_exactly_when_ranked (station_at b i).address).0
                ((fit.addressed i l).master_address (masters i l (bid_means (station_at b i) e).0));
          }

  pub walk_is_next : next_of b ≡ walk_over b
  unfolding next_of walk_over gathered
  walk_is_next =
      ap least_of kept.bits ∙ (walk_from_lem 0 (omega arith) seats_ranked).0 ∙ ap (λ (n : Option ℕ). walk_from n (attached_turns b)) least_none

  pub bits_below : b.waiting < 2 ^ ranks
  unfolding gathered
  bits_below = rw kept.bits (walk_from_lem 0 (omega arith) seats_ranked).1

  pub bit_means : (r : ℕ) → IsSet r b.waiting ↔ MasterWaits b r
  unfolding gathered turn_at
  bit_means r = (λ s. to (subst (IsSet r) kept.bits s), λ m. subst (IsSet r) (sym kept.bits) (from m))
    where
      n : length (attached_turns b) ≡ attached_to b
      n = length-take-le (attached_to b) b.turns (omega (arith, attached_fit b, kept.array))

      at : (i : ℕ) → i < attached_to b → get_or (attached_turns b) i unseated ≡ turn_at b i
      at i l = get_or-take (attached_to b) b.turns i unseated l

      to : IsSet r (with_bids 0 (attached_turns b)) → MasterWaits b r
      to s = ⊎_elim (λ z. absurd (omega (arith, z, none_set r))) found ((set_bids r 0 (attached_turns b)).0 s)
        where
          found : Among (attached_turns b) r → MasterWaits b r
          found m =
              let l : m.seat < attached_to b = omega (arith, m.there, n) in
              let e = bid_means (station_at b m.seat) (rw (at m.seat l) at m.bid) in
              record {
                seat = m.seat;
                contends = record { attached = l; admitted = e.0; waits = e.1 };
                master = masters m.seat l e.0;
                ranks = rw (at m.seat l) at m.rank;
              }

      from : MasterWaits b r → IsSet r (with_bids 0 (attached_turns b))
      from m =
          let i = m.seat in
          let l = m.contends.attached in
          (set_bids r 0 (attached_turns b)).1
          (inr
          (record {
            seat = i;
            there = omega (arith, l, n);
            bid = rw (at i l) (means_bid (station_at b i) m.contends.admitted m.contends.waits);
            rank = rw (at i l) m.ranks;
          }))

-- after any calls from power-on, who is next is who a walk over all attached stations finds: the first by priority class and then
-- by sub-address of those admitted with a telegram waiting, or nobody
pub next_is_the_walk : {b : Bus} → Reachable b → next_of b ≡ walk_over b
next_is_the_walk {b} r = walk_is_next b (reachable_kept r) (reachable_fit r) (admitted_master r)

-- bit r is set exactly when the master of rank r is attached, admitted and has a telegram waiting
pub bit_exactly_when : {b : Bus} → Reachable b → (r : ℕ) → IsSet r b.waiting ↔ MasterWaits b r
bit_exactly_when {b} r k = bit_means b (reachable_kept r) (reachable_fit r) (admitted_master r) k

-- no bit above the 25
pub no_bit_above : {b : Bus} → Reachable b → b.waiting < 2 ^ ranks
no_bit_above {b} r = bits_below b (reachable_kept r) (reachable_fit r) (admitted_master r)
