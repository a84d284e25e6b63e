-- A walk over a scenario's fields, one moment at a time, with the bus as it then stands. Assumes nothing.
use Rattle.std.specs.Prelude.{Bool, true, false, cond, not, List, ℕ, zero, suc, ◌+◌, ◌-◌, ◌*◌, ltb, length, Option, Some, None}
use Rattle.station.specs.declared.phase.Sound.TheVariants as sound
use Rattle.bus.specs.Find.{there_is}
use Rattle.bus.specs.Run.{runs}
use Rattle.bus.specs.Slot.{slot_heard}
use Rattle.bus.specs.declared.bus.Bus.{Bus}
use Rattle.bus.specs.Bus.{Answer}
use Rattle.bus.specs.declared.find.Query.TheVariants.{WasTold}
use Rattle.walk.specs.declared.field.Field.{Field}
use Rattle.walk.specs.declared.field.Field.TheVariants.{Master, Slave, Reply, Queue, Run, Heard, Quiet}
use Rattle.walk.specs.declared.walk.Place.{Place}
use Rattle.walk.specs.declared.walk.Moment.{Moment}
use Rattle.walk.specs.declared.walk.Moment.TheVariants.{Called, Told, Passed, Ended}
use Rattle.walk.specs.declared.walk.Task.{Task}
use Rattle.walk.specs.declared.walk.Task.TheVariants.{Call, Slots, Hear, Pass, End}
use Rattle.walk.specs.declared.walk.Ahead.{Ahead}
use Rattle.walk.specs.Field.{field_at}
use Rattle.walk.specs.Apply.{applied}

-- before a field, or within one of which so many slots are still to run
abbrev pub before : ℕ → Place
before at = record { at = at; left = None }

abbrev pub within : ℕ → ℕ → Place
within to left = record { at = to; left = Some left }

-- within a field where slots told somebody something, else behind it
abbrev pub came_to : ℕ → ℕ → Bool → Place
came_to to left told = cond told (within to left) (before to)

-- slots are run to the first that tells somebody something; a field of no slots, or of none that are left, is over
abbrev pub slots_left : ℕ → Task
slots_left n = cond (ltb 0 n) (Slots n) Pass

abbrev pub task_of : Field → Task
task_of (Master a) = Call (Master a)
task_of (Slave a) = Call (Slave a)
task_of (Reply a p s f) = Call (Reply a p s f)
task_of (Queue q z p s f) = Call (Queue q z p s f)
task_of (Run n) = slots_left n
task_of (Heard x) = Hear (sound.Symbol x)
task_of Quiet = Hear sound.Quiet

-- where there is no field the scenario is over
abbrev pub task_as : Option Field → Task
task_as (Some f) = task_of f
task_as None = End

abbrev pub ahead : Task → ℕ → Ahead
ahead t to = record { task = t; to = to }

abbrev pub ahead_as : Option ℕ → ℕ → List ℕ → Ahead
ahead_as (Some left) at s = ahead (slots_left left) at
ahead_as None at s = cond (ltb at (length s)) (ahead (task_as (field_at s at).field) (field_at s at).next) (ahead End at)

-- what is next at a place, and where its field ends
unfoldable pub ahead_of : Place → List ℕ → Ahead
ahead_of p s = ahead_as p.left p.at s

-- a moment, the bus as it then stands, and how far the scenario has gone
pub record Step : Type 0 where
  pub bus : Bus
  pub place : Place
  pub moment : Moment

abbrev pub stepped : Bus → Place → Moment → Step
stepped b p m = record { bus = b; place = p; moment = m }

-- a call was made
abbrev pub called : Answer → ℕ → Step
called a to = stepped a.bus (within to 0) (Called a.verdict)

-- the last slot told somebody something, or the field is over
unfoldable pub came : Bus → ℕ → ℕ → Step
came b to left = cond (there_is b WasTold) (stepped b (within to left) Told) (stepped b (before to) Passed)

abbrev pub next_as : Task → ℕ → Bus → List ℕ → Step
next_as (Call f) to b s = called (applied b f s to) to
next_as (Slots n) to b s = came (runs n b).bus to (runs n b).left
next_as (Hear x) to b s = came (slot_heard b x) to 0
next_as Pass to b s = stepped b (before to) Passed
next_as End to b s = stepped b (before to) Ended

-- on to the next moment
unfoldable pub next : Bus → Place → List ℕ → Step
next b p s = next_as (ahead_of p s).task (ahead_of p s).to b s

abbrev pub is_end : Moment → Bool
is_end (Called v) = false
is_end Told = false
is_end Passed = false
is_end Ended = true

-- ends of fields are passed by, unless they are asked for
abbrev pub passed_by : Bool → Moment → Bool
passed_by ends (Called v) = false
passed_by ends Told = false
passed_by ends Passed = not ends
passed_by ends Ended = false

unfoldable pub walked_from : ℕ → Bus → Place → List ℕ → Bool → Step
walked_from zero b p s ends = next b p s
walked_from (suc k) b p s ends =
    let n = next b p s in
    let further = walked_from k n.bus n.place s ends in
    cond (passed_by ends n.moment) further n

abbrev pub slots_to_go : Option ℕ → ℕ
slots_to_go (Some left) = left + 1
slots_to_go None = 0

-- no more moments than this are to come: a field has a run of at most 65,535 slots
unfoldable pub to_go : Place → List ℕ → ℕ
to_go p s = (length s - p.at) * 65537 + slots_to_go p.left

-- on to the next moment that is asked for
unfoldable pub walked : Bus → Place → List ℕ → Bool → Step
walked b p s ends = walked_from (to_go p s) b p s ends
