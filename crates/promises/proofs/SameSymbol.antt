-- In each slot every attached station hears one and the same (01, "A slot"). Assumes nothing.
use mathlib.Core.Path.{◌≡◌}
use Prim.Native.Nat.{ℕ, ◌<◌}
use Rattle.station.specs.Hear.{hears}
use Rattle.station.specs.Station.{ready}
use Rattle.station.specs.declared.phase.Sound.{Sound}
use Rattle.bus.specs.declared.bus.Bus.{Bus}
use Rattle.bus.specs.Bus.{attached_to, turn_at}
use Rattle.bus.specs.Slot.{spoken, slot_run}
use Rattle.promises.specs.Calls.{Call, after_call, Reachable}
use Rattle.promises.specs.Fit.{station_at}
use Rattle.promises.specs.Slots.{AllHear, undisturbed, disturbed}
use Rattle.promises.proofs.Shared.FitKept.{reachable_fit}
use Rattle.promises.proofs.Shared.Seats.{slot_seat, attached_slot}

-- whatever was called before: in a slot that all hear as h, the turn of each attached station is what it makes, made ready, of h
pub same_symbol : {b : Bus} {c : Call} {h : Sound}
    -- any calls from power-on
    → Reachable b
    -- then a slot: undisturbed, h is the AND of what is sent, or quiet; disturbed, h is what is given
    → AllHear b c h
    -- an attached station
    → (i : ℕ) → i < attached_to b
    -- after the slot it is what it makes, ready for the slot, of this very h
    → turn_at (after_call b c) i ≡ hears (ready (station_at b i)) h
unfolding slot_run
same_symbol {b} r undisturbed i l = slot_seat b (spoken b) i (reachable_fit r).array l
same_symbol {b} {h = h} r disturbed i l = slot_seat b h i (reachable_fit r).array l

-- and nobody comes or goes
pub same_stations : {b : Bus} {c : Call} {h : Sound} → AllHear b c h → attached_to (after_call b c) ≡ attached_to b
unfolding slot_run
same_stations {b} undisturbed = attached_slot b (spoken b)
same_stations {b} {h = h} disturbed = attached_slot b h
