-- Of every bus that calls bring about: its loads have 16 places, its slot number has 32 bits. Assumes nothing.
use Prim.Native.Nat.{ℕ, zero, suc, ◌^◌, ◌<◌}
use mathlib.Core.Path.{◌≡◌}
use mathlib.Core.List.{List, [], ◌∷◌}
use native.Mathlib.Nat.{mod-lt}
use native.Mathlib.Omega.{arith}
use lib.ListN.{length, get_or, take}
use Rattle.station.specs.declared.station.Turn.{Turn}
use Rattle.bus.specs.Bus.{unseated, attached_to, turn_at}
use Rattle.bus.specs.declared.bus.Bus.{Bus}
use Rattle.promises.specs.Calls.{Reachable}
use Rattle.promises.proofs.Shared.Uses.{reached}
use Rattle.promises.proofs.SlotsCounted.{slots_counted}
use Rattle.promises.proofs.Taken.Together.{reachable_together}
use Rattle.buslog.specs.Roomy.{RoomyTurns, none, next, Roomy}

roomy_first : (n : ℕ) (l : List Turn) → ((i : ℕ) → i < n → length (get_or l i unseated).station.part.load.bytes ≡ 16) → RoomyTurns (take n l)
roomy_first zero l h = none
roomy_first (suc n) [] h = none
roomy_first (suc n) (t ∷ l) h = next (h 0 (omega arith)) (roomy_first n l (λ i j. h (suc i) (omega arith)))

pub reachable_roomy : (b : Bus) → Reachable b → Roomy b
unfolding turn_at
reachable_roomy b r = roomy_first (attached_to b) b.turns (λ i j. ((reachable_together r).each i j).array)

pub reachable_numbered : (b : Bus) → Reachable b → b.slot < 2 ^ 32
reachable_numbered b r = reached (λ (c : Bus). c.slot < 2 ^ 32) (λ cs k. rw (slots_counted cs) (mod-lt _ (omega arith))) r
