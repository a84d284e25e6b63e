-- What `wirelog` is handed to write is exactly its defined output, for every length, every scenario and all buffers lent. Assumes nothing.
use mathlib.Core.Path.{◌≡◌}
use mathlib.Core.List.{List}
use Prim.Native.Nat.{ℕ, ◌≤◌}
use lib.ListN.{length}
use Rattle.laws.proofs.FirstIs as every
use Rattle.laws.proofs.FirstIs.{Every}
use Rattle.bus.specs.declared.bus.Bus.{Bus}
use Rattle.walk.specs.Field.{Bytes}
use Rattle.walk.specs.Moments.{Now}
use Rattle.walk.specs.declared.walk.Moment.{Moment}
use Rattle.walk.specs.declared.walk.Moment.TheVariants.{Called, Told, Passed, Ended}
use Rattle.buslog.specs.Roomy.{AllRoomy, none, next}
use Rattle.scenario.specs.Pen.{room}
use Rattle.promises.specs.Calls.{Reachable}
use Rattle.printed.proofs.Reached.{Reached, moments_reached}
use Rattle.diary.specs.Follow.{told_at, told_buses}
use Rattle.diary.specs.Output.{wirelog_output}
use Rattle.diary.specs.Writes.{Writes}
use Rattle.diary.proofs.WirelogPrints.{wirelog_prints_whole}
use Rattle.listener.proofs.Roomy.{reachable_roomy}

-- every bus that a scenario tells something of is one that calls bring about
pub told_roomy : {ns : List Now} → Every Reached ns → AllRoomy (told_buses ns)
unfolding told_buses
told_roomy every.none = none
told_roomy (every.next {a = n} {l = ns} r rs) = go n.moment n.bus r (told_roomy rs)
  where
    go : (m : Moment) (b : Bus) → Reachable b → AllRoomy (told_buses ns) → AllRoomy (told_at m b (told_buses ns))
    go (Called v) b q on = on
    go Told b q on = next (reachable_roomy b q) on
    go Passed b q on = on
    go Ended b q on = on

pub wirelog_writes : (bytes s into buffer : List ℕ) → Bytes s → length buffer ≡ room → length bytes ≤ length into
    → Writes bytes s into buffer (wirelog_output (length bytes) s)
wirelog_writes bytes s into buffer all whole h = wirelog_prints_whole bytes s into buffer all whole (told_roomy (moments_reached s all)) h
