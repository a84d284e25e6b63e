-- `bus::bus::Bus::slot_heard` meets its contract.
use Rattle.std.proofs.Common.{◌≡◌}
use Rattle.bus.specs.declared.find.Query.TheVariants.{WasTold}
use Rattle.laws.specs.First.{first_from, is_found}
use Rattle.std.specs.Prelude.{take}
use Rattle.bus.specs.Find.{meets}
use Rattle.bus.specs.Slot.{turned, map_first, owns_among}
use Rattle.bus.specs.Waiting.{bids_among}
use Rattle.bus.proofs.bus.Bus.slot_heard.Given as goal

abbrev pub invariant-loop-t : goal.invariant-loop-t
invariant-loop-t l =
    (l.t-items ≡ map_first (turned l.heard) l.t-index l.initial.t-items) × (l.told ≡ is_found (first_from (meets WasTold) 0 (take l.t-index l.t-items))) × (l.owns ≡ owns_among l.t-index l.t-items) × (l.waiting ≡ bids_among l.t-index l.t-items)
