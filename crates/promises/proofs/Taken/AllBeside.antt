-- After any calls, of any two attached stations: where one owns the wire and its telegram is behind it, the other is silent or
-- sends it an answer, in step with it. Assumes nothing.
use mathlib.Core.Path.{refl, sym, subst₂}
use mathlib.Core.Logic.{◌≢◌}
use Prim.Native.Nat.{ℕ, ◌<◌}
use native.Mathlib.Nat.{not-suc-le-zero}
use Rattle.wire.specs.declared.part.Telegram.{Telegram}
use Rattle.wire.specs.declared.form.Wire.{Wire}
use Rattle.station.specs.Station.{fresh, ready}
use Rattle.station.specs.Hear.{hears}
use Rattle.station.specs.declared.phase.Phase.{Phase}
use Rattle.station.specs.declared.phase.Phase.TheVariants.{Silent}
use Rattle.station.specs.declared.phase.Sound.{Sound}
use Rattle.station.specs.declared.station.Station.{Station}
use Rattle.station.specs.declared.station.Turn.{Turn}
use Rattle.station.proofs.Aa.{IsSyn, NoSyn, by_sound}
use Rattle.station.proofs.AfterSyn.{after_syn}
use Rattle.bus.specs.declared.bus.Bus.{Bus}
use Rattle.bus.specs.Bus.{Answer}
use Rattle.bus.specs.Bus.{powered_on, attached_to}
use Rattle.bus.specs.Attach.{newcomer}
use Rattle.bus.specs.Slot.{slot_heard}
use Rattle.promises.specs.Calls.{Call, Reachable}
use Rattle.promises.specs.Fit.{station_at}
use Rattle.promises.proofs.Taken.Beside.{Beside, BesideTurn, not_past, silent, hears_beside, ready_not_owing, ready_beside}
use Rattle.promises.proofs.Shared.FitKept.{reachable_fit, ready_apart}
use Rattle.promises.proofs.Shared.Outgoing.{by_reachable}
use Rattle.promises.proofs.Shared.Seats.{Did, Seat, as_it_was, newly_taken, holds_more, answers_more, by_call, seat_after, attached_slot, slot_seat}
use Rattle.promises.proofs.Shared.Stations.{reachable_sane}
use Rattle.promises.proofs.Taken.Together.{reachable_together, ready_follows, ready_sane}

abbrev pub AllBeside : Bus → Type 0
AllBeside b =
    (i j : ℕ) → i < attached_to b → j < attached_to b → i ≢ j
    → Beside (station_at b i).part (station_at b i).phase (station_at b j).phase (station_at b j).out

-- ---- a call that is no slot

-- a seat keeps what it was about, or is a newcomer's, which is silent
data Keeps (b : Bus) (i : ℕ) : Telegram → Phase → Wire → Type 0 where
  kept : i < attached_to b → Keeps b i (station_at b i).part (station_at b i).phase (station_at b i).out
  new : {part : Telegram} {out : Wire} → Keeps b i part Silent out

keeps : {b : Bus} {i : ℕ} {t : Turn} → Seat b i t → Keeps b i t.station.part t.station.phase t.station.out
unfolding newcomer fresh
keeps (as_it_was l) = kept l
keeps (newly_taken a m) = new
keeps (holds_more l t f) = kept l
keeps (answers_more l r f) = kept l

both_keep : {b : Bus} {i j : ℕ} {part part' : Telegram} {p q : Phase} {out out' : Wire} → AllBeside b → i ≢ j
    → Keeps b i part p out → Keeps b j part' q out' → Beside part p q out'
both_keep {i = i} {j = j} w d (kept l) (kept k) = w i j l k d
both_keep w d (kept l) new = silent
both_keep w d new k = not_past refl

answer_beside : {b : Bus} {c : Call} {x : Answer} → Reachable b → Did b c x → AllBeside b → AllBeside x.bus
answer_beside r d w i j l k n =
    both_keep w n (keeps (seat_after d (reachable_fit r).array i l)) (keeps (seat_after d (reachable_fit r).array j k))

-- ---- a slot

slot_beside : {b : Bus} → Reachable b → (d : Sound) → AllBeside b → AllBeside (slot_heard b d)
slot_beside {b} r d w i j l k n =
    let l = rw (attached_slot b d) at l in
    let k = rw (attached_slot b d) at k in
    subst₂ (λ (t u : Turn). Beside t.station.part t.station.phase u.station.phase u.station.out)
    (sym (slot_seat b d i (reachable_fit r).array l)) (sym (slot_seat b d j (reachable_fit r).array k)) (by_sound d by_syn (both_hear l k)).now
  where
    at_seat : ℕ → Station
    at_seat i = ready (station_at b i)

    by_syn : {d : Sound} → IsSyn d → BesideTurn (hears (at_seat i) d) (hears (at_seat j) d)
    by_syn e = record { now = rw (after_syn (at_seat i) e).phase (not_past refl) }

    both_hear : {d : Sound} → i < attached_to b → j < attached_to b → NoSyn d → BesideTurn (hears (at_seat i) d) (hears (at_seat j) d)
    both_hear l k e =
        let g = (reachable_together r).each in
        let o = reachable_sane r i l in
        hears_beside (at_seat i) (at_seat j) (ready_sane (station_at b i) o).possible (ready_follows (station_at b i) (g i l))
        (ready_follows (station_at b j) (g j k))
        (ready_apart r i j l k n) (ready_not_owing (station_at b j))
        (ready_beside (station_at b i) (station_at b j) (g i l).array (reachable_sane r j k).entries (w i j l k n)) e

on_beside : AllBeside powered_on
unfolding powered_on attached_to
on_beside i j l k n = absurd (not-suc-le-zero l)

-- so it is after any calls from power-on
pub reachable_beside : {b : Bus} → Reachable b → AllBeside b
reachable_beside r =
    by_reachable AllBeside (λ _. on_beside)
    (λ b c r k w. by_call AllBeside b (λ c x k d. answer_beside r d w) (λ h. slot_beside r h w) c k) r
