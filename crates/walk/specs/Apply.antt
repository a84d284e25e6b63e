-- What a field asks of the bus (01, "Bench program"). Assumes nothing.
use Rattle.std.specs.Prelude.{Option, Some, None, true, false, cond, List, [], ℕ, ◌-◌, leb, length, take, drop}
use Rattle.station.specs.declared.phase.Sound.TheVariants as sound
use Rattle.bus.specs.Bus.{done}
use Rattle.bus.specs.Attach.{attaches}
use Rattle.bus.specs.Queue.{queues}
use Rattle.bus.specs.Reply.{replies}
use Rattle.bus.specs.Slot.{slot_heard}
use Rattle.bus.specs.declared.bus.Bus.{Bus}
use Rattle.bus.specs.Bus.{Answer}
use Rattle.walk.specs.declared.field.Field.{Field}
use Rattle.walk.specs.declared.field.Field.TheVariants.{Master, Slave, Reply, Queue, Run, Heard, Quiet}

-- the bytes from a place to another
unfoldable pub bytes_from : List ℕ → ℕ → ℕ → List ℕ
bytes_from s from to = cond (leb to (length s)) (cond (leb from to) (take (to - from) (drop from s)) []) []

-- a field that ends at `to`; a run is run by whoever walks the fields
abbrev pub applied_as : Field → Bus → List ℕ → ℕ → Answer
applied_as (Master a) b s to = attaches b a true
applied_as (Slave a) b s to = attaches b a false
applied_as (Reply a p q from) b s to = replies b a p q (bytes_from s from to)
applied_as (Queue q z p r from) b s to = queues b q z p r (bytes_from s from to)
applied_as (Run n) b s to = done b
applied_as (Heard x) b s to = done (slot_heard b (sound.Symbol x))
applied_as Quiet b s to = done (slot_heard b sound.Quiet)

unfoldable pub applied : Bus → Field → List ℕ → ℕ → Answer
applied b f s to = applied_as f b s to

-- where there is no field nothing is asked
abbrev pub applied_if : Option Field → Bus → List ℕ → ℕ → Answer
applied_if (Some f) b s to = applied b f s to
applied_if None b s to = done b
