-- What is shown at the moments is each field's line, one behind the other. Assumes nothing.
use mathlib.Core.Path.{◌≡◌, refl, sym, ap, ◌∙◌}
use mathlib.Core.Bool.{Bool, true, false, cond}
use mathlib.Core.List.{List, [], ◌∷◌, ◌++◌, append_assoc}
use Prim.Native.Nat.{ℕ, zero, suc}
use lib.Dec.{ltb}
use lib.ListN.{length}
use Rattle.bus.specs.Bus.{powered_on}
use Rattle.bus.specs.Find.{there_is}
use Rattle.bus.specs.Slot.{slot_run}
use Rattle.bus.specs.Waiting.{next_of}
use Rattle.bus.specs.declared.bus.Bus.{Bus}
use Rattle.bus.specs.Bus.{Answer}
use Rattle.bus.specs.declared.find.Query.TheVariants.{WasTold}
use Rattle.walk.specs.Apply.{applied}
use Rattle.walk.specs.Field.{field_at}
use Rattle.walk.specs.Form.{form_of}
use Rattle.walk.specs.Moments.{Now, now, Gone, told_in, ran, gone_as, gone_by, moments_from, moments}
use Rattle.std.specs.Prelude.{Option, Some, None}
use Rattle.walk.specs.declared.field.Field.{Field}
use Rattle.walk.specs.declared.field.Field.TheVariants.{Master, Slave, Reply, Queue, Run, Heard, Quiet}
use Rattle.std.specs.Prelude.{Ok}
use Rattle.walk.specs.declared.walk.Moment.TheVariants.{Told, Passed, Ended}
use Rattle.screen.specs.ByFields.{field_lines, lines_by_fields}
use Rattle.screen.specs.Lines.{line_text, shown_text}
use Rattle.screen.specs.Output.{shown_of, displayed}

shown_append : (l m : List Now) → shown_of (l ++ m) ≡ shown_of l ++ shown_of m
unfolding shown_of
shown_append [] m = refl
shown_append (n ∷ l) m =
    let x = shown_text n.moment n.bus in
    ap (λ (v : List ℕ). x ++ v) (shown_append l m) ∙ sym (append_assoc x (shown_of l) (shown_of m))

-- ---- on the way to its end a field shows nothing

told_nothing : (b : Bus) (l : List Now) → shown_of (told_in b l) ≡ shown_of l
unfolding shown_of
told_nothing b l = go (there_is b WasTold)
  where
    go : (t : Bool) → shown_of (cond t (now Told b ∷ l) l) ≡ shown_of l
    go true = refl
    go false = refl

ran_nothing : (n : ℕ) (b : Bus) → shown_of (ran n b).moments ≡ []
unfolding ran shown_of
ran_nothing zero b = refl
ran_nothing (suc n) b = told_nothing (slot_run b) (ran n (slot_run b)).moments ∙ ran_nothing n (slot_run b)

gone_nothing : (f : Field) (r : Answer) → shown_of (gone_as f r).moments ≡ []
unfolding shown_of
gone_nothing (Master a) r = refl
gone_nothing (Slave a) r = refl
gone_nothing (Reply a p s f) r = refl
gone_nothing (Queue q z p s f) r = refl
gone_nothing (Run n) r = ran_nothing n r.bus
gone_nothing (Heard x) r = told_nothing r.bus []
gone_nothing Quiet r = told_nothing r.bus []

placed_nothing : (f : Option Field) (b : Bus) (s : List ℕ) (to : ℕ) → shown_of (gone_by f b s to).moments ≡ []
unfolding shown_of
placed_nothing (Some f) b s to = gone_nothing f (applied b f s to)
placed_nothing None b s to = refl

-- ---- and at its end its line

field_shown : (g : Gone) (l : List Now) → shown_of g.moments ≡ []
    → shown_of (g.moments ++ (now Passed g.bus ∷ l)) ≡ line_text g.bus.slot (next_of g.bus) ++ shown_of l
unfolding shown_of
field_shown g l e = shown_append g.moments (now Passed g.bus ∷ l) ∙ ap (λ (v : List ℕ). v ++ shown_of (now Passed g.bus ∷ l)) e

from_fields : (k : ℕ) (s : List ℕ) (at : ℕ) (b : Bus) → shown_of (moments_from k s at b) ≡ field_lines k s at b
unfolding moments_from field_lines shown_of
from_fields zero s at b = refl
from_fields (suc k) s at b = go (ltb at (length s)) (from_fields k s to gone.bus)
  where
    f : Option Field
    f = (field_at s at).field

    to : ℕ
    to = (field_at s at).next

    gone : Gone
    gone = gone_by f b s to

    line : List ℕ
    line = line_text gone.bus.slot (next_of gone.bus)

    go : (t : Bool) → shown_of (moments_from k s to gone.bus) ≡ field_lines k s to gone.bus
        → shown_of (cond t (gone.moments ++ (now Passed gone.bus ∷ moments_from k s to gone.bus)) (now Ended b ∷ []))
        ≡ cond t (line ++ field_lines k s to gone.bus) []
    go true e = field_shown gone (moments_from k s to gone.bus) (placed_nothing f b s to) ∙ ap (λ (v : List ℕ). line ++ v) e
    go false e = refl

-- of every scenario of good form
pub lines_by_fields_lem : (s : List ℕ) → form_of s ≡ Ok tt → displayed s ≡ lines_by_fields s
unfolding displayed moments lines_by_fields
lines_by_fields_lem s g = rw g (from_fields (length s) s 0 powered_on)
