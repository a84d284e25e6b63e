-- The demand: "When a station is told its part was taken, and the master that opened the transfer still owns the wire, then in that
-- slot the addressee, if attached (for an answer, that master), hands out exactly that part and no one else hands out anything; for
-- a broadcast, every other station does" (01, "Acknowledgement", "Broadcast", "Answer"). Assumes nothing.
use mathlib.Core.Path.{◌≡◌, sym, subst}
use mathlib.Core.Bool.{true}
use Prim.Native.Nat.{ℕ, ◌<◌}
use Rattle.station.specs.Phase.{owner}
use Rattle.station.specs.declared.phase.Sound.{Sound}
use Rattle.station.specs.declared.phase.Told.TheVariants.{Taken}
use Rattle.bus.specs.declared.bus.Bus.{Bus}
use Rattle.bus.specs.Bus.{attached_to, turn_at}
use Rattle.promises.specs.Calls.{Call, after_call, Reachable}
use Rattle.promises.specs.Fit.{station_at}
use Rattle.promises.specs.Slots.{AllHear}
use Rattle.promises.specs.Transfers.{HandedOut}
use Rattle.promises.proofs.Taken.TakenAnswer.{answer_to_master}
use Rattle.promises.proofs.Taken.TakenGiven.{owner_to_one, owner_to_all}

pub taken_is_handed_out : {b : Bus} {c : Call} {h : Sound}
    -- any calls from power-on
    → Reachable b
    -- then a slot, disturbed or not, that all hear as h
    → AllHear b c h
    -- in which an attached station is told that its part was taken
    → (i : ℕ) → i < attached_to b → (turn_at (after_call b c) i).told ≡ Taken
    -- and a master owned the wire when the slot began: the station itself, or another one
    → (m : ℕ) → m < attached_to b → owner (station_at b m).phase ≡ true
    -- whom the part was for hands out exactly that part in this slot, and no one else anything: to one station, to all, or an answer
    → HandedOut b (after_call b c) i m
taken_is_handed_out {b} {c} r hear i l taken m k own =
    record {
      to_one = λ e a. owner_to_one r hear i l (itself e) taken a;
      to_all = λ e a. owner_to_all r hear i l (itself e) taken a;
      an_answer = λ d. answer_to_master r hear i m l k own d taken;
    }
  where
    itself : i ≡ m → owner (station_at b i).phase ≡ true
    itself e = subst (λ (j : ℕ). owner (station_at b j).phase ≡ true) (sym e) own
