-- The whole program's output as a function of its input (01, "Bench program"). Assumes nothing.
use Rattle.std.specs.Prelude.{cond, List, [], ◌∷◌, ◌++◌, ℕ, zero, suc, ltb, length, Option, Some, None}
use Rattle.bus.specs.Bus.{powered_on}
use Rattle.bus.specs.Slot.{slot_run}
use Rattle.bus.specs.declared.bus.Bus.{Bus}
use Rattle.bus.specs.Bus.{Answer}
use Rattle.walk.specs.declared.field.Field.{Field}
use Rattle.walk.specs.declared.field.Field.TheVariants.{Master, Slave, Reply, Queue, Run, Heard, Quiet}
use Rattle.std.specs.Prelude.{Result, ⊤, Ok, Err}
use Rattle.walk.specs.declared.form.FormError.{FormError}
use Rattle.walk.specs.declared.form.FormError.TheVariants.{BadField, TooLong}
use Rattle.walk.specs.Field.{field_at}
use Rattle.walk.specs.Form.{form_of}
use Rattle.walk.specs.Apply.{applied}
use Rattle.scenario.specs.Lines.{slot_text, verdict_text, form_text, end_text}

-- a bus, and what was printed on the way to it
pub record Printed : Type 0 where
  pub bus : Bus
  pub text : List ℕ

-- n undisturbed slots and the lines of each
unfoldable pub ran : ℕ → Bus → Printed
ran zero b = record { bus = b; text = [] }
ran (suc n) b =
    let next = slot_run b in
    let rest = ran n next in
    record { bus = rest.bus; text = slot_text next ++ rest.text }

-- a slot's lines, or the line of a refusal
abbrev pub printed_as : Field → Answer → Printed
printed_as (Master a) r = record { bus = r.bus; text = verdict_text r.verdict }
printed_as (Slave a) r = record { bus = r.bus; text = verdict_text r.verdict }
printed_as (Reply a p s f) r = record { bus = r.bus; text = verdict_text r.verdict }
printed_as (Queue q z p s f) r = record { bus = r.bus; text = verdict_text r.verdict }
printed_as (Run n) r = ran n r.bus
printed_as (Heard x) r = record { bus = r.bus; text = slot_text r.bus }
printed_as Quiet r = record { bus = r.bus; text = slot_text r.bus }

-- nothing where there is no field
abbrev pub printed_of : Option Field → Bus → List ℕ → ℕ → Printed
printed_of (Some f) b s to = printed_as f (applied b f s to)
printed_of None b s to = record { bus = b; text = [] }

-- field after field, each applied in order
unfoldable pub printed_from : ℕ → List ℕ → ℕ → Bus → List ℕ
printed_from zero s at b = end_text b.slot
printed_from (suc k) s at b =
    let p = field_at s at in
    let done = printed_of p.field b s p.next in
    let rest = done.text ++ printed_from k s p.next done.bus in
    cond (ltb at (length s)) rest (end_text b.slot)

-- "ebus bench"
abbrev pub header : List ℕ
header = 101 ∷ 98 ∷ 117 ∷ 115 ∷ 32 ∷ 98 ∷ 101 ∷ 110 ∷ 99 ∷ 104 ∷ 10 ∷ []

abbrev pub output_of : Result ⊤ FormError → List ℕ → List ℕ
output_of (Ok tt) s = printed_from (length s) s 0 powered_on
output_of (Err (BadField at)) s = form_text (Err (BadField at))
output_of (Err TooLong) s = form_text (Err TooLong)

unfoldable pub output : List ℕ → List ℕ
output s = header ++ output_of (form_of s) s
