-- Stations that say nothing (01, "A slot", "Generator"). Assumes nothing.
use Rattle.std.specs.Prelude.{◌≡◌, ℕ, ◌<◌}
use Rattle.station.specs.Outbox.{held_in}
use Rattle.station.specs.declared.phase.Sound.TheVariants.{Quiet}
use Rattle.bus.specs.declared.bus.Bus.{Bus}
use Rattle.bus.specs.Bus.{attached_to, turn_at}
use Rattle.bus.specs.Slot.{said_by}
use Rattle.promises.specs.Fit.{station_at}

-- no attached station says anything in the next slot
abbrev pub NobodySays : Bus → Type 0
NobodySays b = (i : ℕ) → i < attached_to b → said_by (turn_at b i) ≡ Quiet

-- no attached station holds a telegram
abbrev pub NobodyHolds : Bus → Type 0
NobodyHolds b = (i : ℕ) → i < attached_to b → held_in (station_at b i).outbox ≡ 0
