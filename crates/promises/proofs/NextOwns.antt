-- Who is next after a SYN owns the wire by the twelfth slot; with nobody next, nobody bids; and only an AA makes anybody next (02, E7).
-- Assumes nothing.
use mathlib.Core.Path.{◌≡◌, refl, sym, ap, subst, ◌∙◌}
use mathlib.Core.Bool.{Bool, true, false, true≢false, false≢true}
use mathlib.Core.List.{List, ◌∷◌}
use mathlib.Core.Logic.{⊎_elim}
use Prim.Native.Nat.{ℕ, ◌^◌, ◌≤◌, ◌<◌}
use native.Mathlib.Nat.{eq-zero-or-pos}
use native.Mathlib.Omega.{arith}
use lib.Count.{count_trailing_zeros}
use Rattle.address.specs.Master.{master_at}
use Rattle.std.specs.Prelude.{Some, None, Option}
use Rattle.address.proofs.Ranks.{master_of_rank}
use Rattle.ranks.specs.Bits.{least_of, IsSet, ranks}
use Rattle.ranks.proofs.LeastRank.{least_none, least_means}
use Rattle.ranks.proofs.Digits.{none_set}
use Rattle.station.specs.Admission.{bids}
use Rattle.station.specs.declared.phase.Sound.{Sound}
use Rattle.station.specs.declared.phase.Sound.TheVariants.{Quiet}
use Rattle.station.specs.declared.phase.Sound.TheVariants.{Symbol}
use Rattle.station.specs.Station.{syn, ready}
use Rattle.station.proofs.Aa.{IsSyn, aa, NoSyn, by_sound}
use Rattle.station.proofs.Frame.{admission_over}
use Rattle.wire.proofs.SymbolKind.{kind_syn}
use Rattle.bus.specs.Bus.{attached_to, turn_at}
use Rattle.bus.specs.Slot.{said_by, slot_heard}
use Rattle.bus.specs.Waiting.{next_of}
use Rattle.bus.specs.declared.bus.Bus.{Bus}
use Rattle.promises.specs.Calls.{Call, slot, heard, after_call, after_calls, Reachable}
use Rattle.promises.specs.Contest.{SynHeardIn, Between, Undisturbed, Each, Contends, Ranks, OwnsInOneOf}
use Rattle.promises.specs.Fit.{station_at, Fit}
use Rattle.promises.specs.Next.{MasterWaits}
use Rattle.promises.specs.Slots.{slots_in}
use Rattle.promises.proofs.Contest.Round.{bid_means, opens_says}
use Rattle.promises.proofs.Contest.Twelfth.{Begun, begun_heard, begun_between}
use Rattle.promises.proofs.NextIsTheWalk.{Kept, kept_call, kept_calls, reachable_kept, OnlyMasters, bits_below, bit_means}
use Rattle.promises.proofs.Shared.FitKept.{slot_fit, reachable_fit}
use Rattle.promises.proofs.Shared.Seats.{attached_slot, slot_seat}
use Rattle.promises.proofs.TheLeast.{syn_fit, calls_fit, one_rank, attached_master_ranks, least_rank_owns_by_the_twelfth}

shown : Option ℕ → ℕ
shown (Some a) = a
shown None = 256

somebody : Option ℕ → Bool
somebody (Some a) = true
somebody None = false

-- ---- the answer, of any bus whose bits mean what they say

module _ (b : Bus) (few : b.waiting < 2 ^ ranks) (means : (r : ℕ) → (IsSet r b.waiting → MasterWaits b r) × (MasterWaits b r → IsSet r b.waiting)) where
  -- with nobody next, nobody is admitted with a telegram waiting
  nobody_waits : next_of b ≡ None → (r : ℕ) → MasterWaits b r → ⊥
  unfolding next_of somebody
  nobody_waits e r m = ⊎_elim none some (eq-zero-or-pos b.waiting)
    where
      some : 0 < b.waiting → ⊥
      some p = true≢false (ap somebody (sym (least_means b.waiting p few).0 ∙ e))

      none : b.waiting ≡ 0 → ⊥
      none z = let s : IsSet r 0 = subst (IsSet r) z ((means r).1 m) in omega (arith, s, none_set r)

  -- a master next is the one of the lowest bit
  record Lowers (a : ℕ) : Type 0 where
    rank : ℕ
    its : master_at rank ≡ a
    waits : MasterWaits b rank
    least : (r : ℕ) → MasterWaits b r → rank ≤ r

  lowers : (a : ℕ) → next_of b ≡ Some a → Lowers a
  unfolding next_of shown somebody
  lowers a e = ⊎_elim none some (eq-zero-or-pos b.waiting)
    where
      none : b.waiting ≡ 0 → Lowers a
      none z = absurd (false≢true (ap somebody (sym least_none ∙ ap least_of (sym z) ∙ e)))

      some : 0 < b.waiting → Lowers a
      some p =
          let w = least_means b.waiting p few in
          record {
            rank = count_trailing_zeros 32 b.waiting;
            its = ap shown (sym w.0 ∙ e);
            waits = (means (count_trailing_zeros 32 b.waiting)).0 w.1.set;
            least = λ r m. w.1.least r ((means r).1 m);
          }

-- ---- after a SYN, when the next slot begins

module _ {b : Bus} (r : Reachable b) (c : Call) (s : SynHeardIn b c) (before : List Call) (u : Each Between before) where
  abbrev begins : Bus
  begins = after_calls (after_call b c) before

  opened : Begun begins
  opened = begun_between (after_call b c) (begun_heard b (reachable_fit r) s) before u

  fit : Fit begins
  fit = calls_fit (after_call b c) (begun_heard b (reachable_fit r) s).ran (syn_fit b (reachable_fit r) s) before u

  kept : Kept begins
  kept = kept_calls (after_call b c) before (kept_call b c (reachable_kept r))

  masters : (i : ℕ) → i < attached_to begins → OnlyMasters (turn_at begins i)
  masters i l = (opened.each i l).master

  few : begins.waiting < 2 ^ ranks
  few = bits_below begins kept fit masters

  means : (k : ℕ) → (IsSet k begins.waiting → MasterWaits begins k) × (MasterWaits begins k → IsSet k begins.waiting)
  means k = bit_means begins kept fit masters k

  -- who contends waits with its rank
  contender_waits : {i k : ℕ} → Contends begins i → Ranks begins i k → MasterWaits begins k
  contender_waits {i} d e = record { seat = i; contends = d; master = masters i d.attached d.admitted; ranks = e }

  owns_by_the_twelfth : (a : ℕ) → next_of begins ≡ Some a → (calls : List Call) → Each Undisturbed calls → slots_in (slot ∷ calls) ≡ 12
      → (i : ℕ) × (i < attached_to begins) × ((station_at begins i).address ≡ a) × OwnsInOneOf i begins (slot ∷ calls)
  owns_by_the_twelfth a e calls v n =
      let l = lowers begins few means a e in
      let w = least_rank_owns_by_the_twelfth r c s before u l.waits.seat l.waits.contends calls v n in
      let i = w.0 in
      let d = w.1.contends in
      let o = w.1.least in
      let q = o.not_before l.waits.seat l.waits.contends in
      let same-q : q.0 ≡ l.rank = one_rank q.1 l.waits.ranks in
      let up : l.rank ≤ o.rank = l.least o.rank (contender_waits d o.ranks) in
      let down : o.rank ≤ q.0 = q.2 in
      let same : o.rank ≡ l.rank = omega arith in (
        i,
        d.attached,
        sym (master_of_rank (station_at begins i).address l.rank (fit.addressed i d.attached).byte (o.ranks ∙ ap Some same)) ∙ l.its,
        w.2,
      )

  silent : next_of begins ≡ None → (i : ℕ) → i < attached_to begins → (bids (station_at begins i) ≡ false) × (said_by (turn_at begins i) ≡ Quiet)
  silent e i l = go (bids (station_at begins i)) refl
    where
      go : (t : Bool) → bids (station_at begins i) ≡ t → (bids (station_at begins i) ≡ false) × (said_by (turn_at begins i) ≡ Quiet)
      go true q =
          let m = bid_means (station_at begins i) q in
          let d : Contends begins i = record { attached = l; admitted = m.0; waits = m.1 } in
          let k = attached_master_ranks fit i l (masters i l m.0) in
          absurd (nobody_waits begins few means e k.0 (contender_waits d k.1))
      go false q = (q, opens_says (opened.each i l).opens ∙ rw q)

-- who is next after a SYN owns the wire by the twelfth slot
pub next_owns_by_the_twelfth : {b : Bus}
    -- any calls from power-on
    → Reachable b
    -- a SYN is heard in a slot, however it came about
    → (c : Call) → SynHeardIn b c
    -- then users may queue, set replies and have an attach refused, and the next slot begins
    → (before : List Call) → Each Between before
    -- the answer is then a master
    → (a : ℕ) → next_of (after_calls (after_call b c) before) ≡ Some a
    -- that slot and eleven more are undisturbed, with any such calls between them
    → (calls : List Call) → Each Undisturbed calls → slots_in (slot ∷ calls) ≡ 12
    -- the attached station with that address becomes owner in one of the twelve
    → (i : ℕ) × (i < attached_to (after_calls (after_call b c) before)) × ((station_at (after_calls (after_call b c) before) i).address ≡ a)
    × OwnsInOneOf i (after_calls (after_call b c) before) (slot ∷ calls)
next_owns_by_the_twelfth r c s before u a e calls v n = owns_by_the_twelfth r c s before u a e calls v n

-- with nobody next after a SYN, no station bids in the next slot, and none says anything
pub next_nobody_bids : {b : Bus}
    → Reachable b → (c : Call) → SynHeardIn b c → (before : List Call) → Each Between before
    → next_of (after_calls (after_call b c) before) ≡ None
    → (i : ℕ) → i < attached_to (after_calls (after_call b c) before)
    → (bids (station_at (after_calls (after_call b c) before) i) ≡ false) × (said_by (turn_at (after_calls (after_call b c) before) i) ≡ Quiet)
next_nobody_bids r c s before u e i l = silent r c s before u e i l

-- ---- after any other slot

-- a slot in which all hear anything but AA leaves nobody next
pub nobody_but_after_syn : {b : Bus} → Reachable b → (h : Sound) → (h ≡ Symbol syn → ⊥) → next_of (slot_heard b h) ≡ None
nobody_but_after_syn {b} r h n = by_sound h (λ i. absurd (not_syn i n)) (λ q. go q (next_of (slot_heard b h)) refl)
  where
    not_syn : {x : Sound} → IsSyn x → (x ≡ Symbol syn → ⊥) → ⊥
    not_syn (aa {b = y} e) n = n (ap Symbol ((kind_syn y).0 e))

    unadmitted : NoSyn h → (i : ℕ) → i < attached_to (slot_heard b h) → (station_at (slot_heard b h) i).admitted ≡ false
    unadmitted q i l =
        ap (λ t. t.station.admitted) (slot_seat b h i (reachable_fit r).array (rw (attached_slot b h) at l)) ∙ admission_over (ready (station_at b i)) q

    masters : NoSyn h → (i : ℕ) → i < attached_to (slot_heard b h) → OnlyMasters (turn_at (slot_heard b h) i)
    masters q i l e = absurd (false≢true (sym (unadmitted q i l) ∙ e))

    go : NoSyn h → (x : Option ℕ) → next_of (slot_heard b h) ≡ x → next_of (slot_heard b h) ≡ None
    go q None e = e
    go q (Some a) e =
        let k = kept_call b (heard h) (reachable_kept r) in
        let f = slot_fit b h (reachable_fit r) in
        let l = lowers (slot_heard b h) (bits_below (slot_heard b h) k f (masters q)) (bit_means (slot_heard b h) k f (masters q)) a e in
        let d = l.waits.contends in
        absurd (false≢true (sym (unadmitted q l.waits.seat d.attached) ∙ d.admitted))
