-- A run of undisturbed slots. Assumes nothing.
use Rattle.std.specs.Prelude.{ℕ, zero, suc, cond}
use Rattle.bus.specs.declared.bus.Bus.{Bus}
use Rattle.bus.specs.declared.find.Query.TheVariants.{WasTold}
use Rattle.bus.specs.Find.{there_is}
use Rattle.bus.specs.Slot.{slot_run}

-- the bus where a run stopped, and the slots that are left to run
pub record Stop : Type 0 where
  pub bus : Bus
  pub left : ℕ

abbrev pub stopped : Bus → ℕ → Stop
stopped b n = record { bus = b; left = n }

-- n undisturbed slots, one after the other; it stops at the first that tells somebody something
unfoldable pub runs : ℕ → Bus → Stop
runs zero b = record { bus = b; left = 0 }
runs (suc n) b =
    let next = slot_run b in
    let rest = runs n next in
    cond (there_is next WasTold) (record { bus = next; left = n }) rest
