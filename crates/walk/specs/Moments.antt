-- The moments of a scenario: what its fields come to, one after the other, each with the bus as it then stands. Assumes nothing.
use Rattle.std.specs.Prelude.{◌≡◌, Bool, true, false, cond, List, [], ◌∷◌, ◌++◌, ℕ, zero, suc, ltb, length, Option, Some, None}
use Rattle.bus.specs.Bus.{powered_on}
use Rattle.bus.specs.Find.{there_is}
use Rattle.bus.specs.Slot.{slot_run}
use Rattle.bus.specs.declared.bus.Bus.{Bus}
use Rattle.bus.specs.Bus.{Answer}
use Rattle.bus.specs.declared.find.Query.TheVariants.{WasTold}
use Rattle.walk.specs.declared.field.Field.{Field}
use Rattle.walk.specs.declared.field.Field.TheVariants.{Master, Slave, Reply, Queue, Run, Heard, Quiet}
use Rattle.walk.specs.declared.walk.Moment.{Moment}
use Rattle.walk.specs.declared.walk.Moment.TheVariants.{Called, Told, Passed, Ended}
use Rattle.walk.specs.Field.{field_at}
use Rattle.walk.specs.declared.walk.Place.{Place}
use Rattle.walk.specs.Walk.{Step}
use Rattle.walk.specs.Apply.{applied}
use Rattle.walk.specs.Walk.{is_end, walked}

-- a moment, and the bus as it then stands
pub record Now : Type 0 where
  pub moment : Moment
  pub bus : Bus

abbrev pub now : Moment → Bus → Now
now m b = record { moment = m; bus = b }

-- a bus, and the moments on the way to it
pub record Gone : Type 0 where
  pub bus : Bus
  pub moments : List Now

-- a slot that told somebody something is a moment
abbrev pub told_in : Bus → List Now → List Now
told_in b rest = cond (there_is b WasTold) (now Told b ∷ rest) rest

-- n undisturbed slots
unfoldable pub ran : ℕ → Bus → Gone
ran zero b = record { bus = b; moments = [] }
ran (suc n) b =
    let next = slot_run b in
    let rest = ran n next in
    record { bus = rest.bus; moments = told_in next rest.moments }

-- a call's verdict, or the slots that told somebody something
abbrev pub called_by : Answer → Gone
called_by r = record { bus = r.bus; moments = now (Called r.verdict) r.bus ∷ [] }

abbrev pub heard_by : Answer → Gone
heard_by r = record { bus = r.bus; moments = told_in r.bus [] }

abbrev pub gone_as : Field → Answer → Gone
gone_as (Master a) r = called_by r
gone_as (Slave a) r = called_by r
gone_as (Reply a p s f) r = called_by r
gone_as (Queue q z p s f) r = called_by r
gone_as (Run n) r = ran n r.bus
gone_as (Heard x) r = heard_by r
gone_as Quiet r = heard_by r

-- nothing where there is no field
abbrev pub gone_by : Option Field → Bus → List ℕ → ℕ → Gone
gone_by (Some f) b s to = gone_as f (applied b f s to)
gone_by None b s to = record { bus = b; moments = [] }

-- field after field, each applied in order, and each with its end; then the end
unfoldable pub moments_from : ℕ → List ℕ → ℕ → Bus → List Now
moments_from zero s at b = now Ended b ∷ []
moments_from (suc k) s at b =
    let p = field_at s at in
    let done = gone_by p.field b s p.next in
    let rest = done.moments ++ (now Passed done.bus ∷ moments_from k s p.next done.bus) in
    cond (ltb at (length s)) rest (now Ended b ∷ [])

unfoldable pub moments : List ℕ → List Now
moments s = moments_from (length s) s 0 powered_on

-- without the ends of fields
abbrev pub is_passed : Moment → Bool
is_passed (Called v) = false
is_passed Told = false
is_passed Passed = true
is_passed Ended = false

unfoldable pub without_ends : List Now → List Now
without_ends [] = []
without_ends (n ∷ ns) = let rest = without_ends ns in cond (is_passed n.moment) rest (n ∷ rest)

-- what a walk gives from a place on, one moment after the other until the scenario is over
pub data Gives (ends : Bool) (s : List ℕ) : Bus → Place → List Now → Type 0 where
  last : {b : Bus} {p : Place} {n : Step} → walked b p s ends ≡ n → is_end n.moment ≡ true → Gives ends s b p (now n.moment n.bus ∷ [])
  one : {b : Bus} {p : Place} {n : Step} {l : List Now} → walked b p s ends ≡ n → is_end n.moment ≡ false
      → Gives ends s n.bus n.place l → Gives ends s b p (now n.moment n.bus ∷ l)
