-- The output is what is printed at the scenario's moments: slots that tell nobody anything print nothing. Assumes nothing.
use mathlib.Core.Path.{◌≡◌, refl, sym, ap, ◌∙◌}
use mathlib.Core.Bool.{Bool, true, false, cond}
use mathlib.Core.List.{List, [], ◌∷◌, ◌++◌, append_assoc, append-nil}
use Prim.Native.Nat.{ℕ, zero, suc}
use lib.Dec.{ltb}
use lib.ListN.{length}
use Rattle.bus.specs.Events.{Line}
use Rattle.bus.specs.Bus.{powered_on}
use Rattle.bus.specs.Find.{there_is}
use Rattle.bus.specs.Slot.{slot_run}
use Rattle.bus.specs.declared.bus.Bus.{Bus}
use Rattle.bus.specs.Bus.{Answer}
use Rattle.bus.specs.declared.find.Query.TheVariants.{WasTold}
use Rattle.bus.proofs.EventsTold.{told_exactly_when}
use Rattle.walk.specs.Apply.{applied}
use Rattle.walk.specs.Field.{field_at}
use Rattle.walk.specs.Form.{form_of}
use Rattle.walk.specs.Moments as walk
use Rattle.walk.specs.Moments.{Now, now, Gone, told_in, gone_as, gone_by, moments_from, moments, is_passed, without_ends}
use Rattle.std.specs.Prelude.{Option, Some, None}
use Rattle.walk.specs.declared.field.Field.{Field}
use Rattle.walk.specs.declared.field.Field.TheVariants.{Master, Slave, Reply, Queue, Run, Heard, Quiet}
use Rattle.std.specs.Prelude.{Ok}
use Rattle.walk.specs.declared.walk.Moment.{Moment}
use Rattle.walk.specs.declared.walk.Moment.TheVariants.{Called, Told, Passed, Ended}
use Rattle.scenario.specs.Fill.{moment_text, moments_text}
use Rattle.scenario.specs.Lines.{slot_text, text_of, end_text}
use Rattle.scenario.specs.Output.{Printed, ran, printed_as, printed_of, printed_from, header, output}

texts_append : (l m : List Now) → moments_text (l ++ m) ≡ moments_text l ++ moments_text m
unfolding moments_text
texts_append [] m = refl
texts_append (n ∷ l) m =
    ap (λ (v : List ℕ). moment_text n.moment n.bus ++ v) (texts_append l m) ∙ sym (append_assoc (moment_text n.moment n.bus) (moments_text l) (moments_text m))

-- a slot that tells nobody anything prints nothing
pub quiet_text : (b : Bus) → there_is b WasTold ≡ false → slot_text b ≡ []
unfolding slot_text text_of
quiet_text b e = ap (λ (ls : List Line). text_of ls) ((told_exactly_when b).0 e)

told_text : (b : Bus) (l : List Now) → moments_text (told_in b l) ≡ slot_text b ++ moments_text l
unfolding moments_text
told_text b l = go (there_is b WasTold) refl
  where
    go : (t : Bool) → there_is b WasTold ≡ t → moments_text (cond t (now Told b ∷ l) l) ≡ slot_text b ++ moments_text l
    go true e = refl
    go false e = rw (quiet_text b e)

-- the same bus, and the text of the moments on the way to it
abbrev printed_by : Gone → Printed
printed_by g = record { bus = g.bus; text = moments_text g.moments }

-- a run that stops where somebody is told something prints what its slots print
ran_text : (n : ℕ) (b : Bus) → ran n b ≡ printed_by (walk.ran n b)
unfolding ran walk.ran moments_text
ran_text zero b = refl
ran_text (suc n) b =
    rw (ran_text n (slot_run b), told_text (slot_run b) (walk.ran n (slot_run b)).moments)

field_text : (f : Field) (r : Answer) → printed_as f r ≡ printed_by (gone_as f r)
unfolding moments_text
field_text (Master a) r = simp append-nil
field_text (Slave a) r = simp append-nil
field_text (Reply a p s f) r = simp append-nil
field_text (Queue q z p s f) r = simp append-nil
field_text (Run n) r = ran_text n r.bus
field_text (Heard x) r = simp (told_text r.bus [], append-nil)
field_text Quiet r = simp (told_text r.bus [], append-nil)

placed_text : (f : Option Field) (b : Bus) (s : List ℕ) (to : ℕ) → printed_of f b s to ≡ printed_by (gone_by f b s to)
unfolding moments_text
placed_text (Some f) b s to = field_text f (applied b f s to)
placed_text None b s to = refl

from_text : (k : ℕ) (s : List ℕ) (at : ℕ) (b : Bus) → printed_from k s at b ≡ moments_text (moments_from k s at b)
unfolding printed_from moments_from moments_text
from_text zero s at b = simp append-nil
from_text (suc k) s at b =
    go (ltb at (length s)) (placed_text f b s to) (from_text k s to (gone_by f b s to).bus)
  where
    f : Option Field
    f = (field_at s at).field

    to : ℕ
    to = (field_at s at).next

    gone : Gone
    gone = gone_by f b s to

    go : (t : Bool) → printed_of f b s to ≡ printed_by gone
        → printed_from k s to gone.bus ≡ moments_text (moments_from k s to gone.bus)
        → cond t ((printed_of f b s to).text ++ printed_from k s to (printed_of f b s to).bus) (end_text b.slot)
        ≡ moments_text (cond t (gone.moments ++ (now Passed gone.bus ∷ moments_from k s to gone.bus)) (now Ended b ∷ []))
    go true e h = rw (e, h, texts_append gone.moments (now Passed gone.bus ∷ moments_from k s to gone.bus))
    go false e h = simp append-nil

-- of a scenario of good form
pub output_of_moments : (s : List ℕ) → form_of s ≡ Ok tt → output s ≡ header ++ moments_text (moments s)
unfolding output moments
output_of_moments s g = rw g (ap (λ (v : List ℕ). header ++ v) (from_text (length s) s 0 powered_on))

-- the end of a field prints nothing
pub without_text : (l : List Now) → moments_text (without_ends l) ≡ moments_text l
unfolding moments_text without_ends
without_text [] = refl
without_text (n ∷ l) = go n.moment n.bus (without_text l)
  where
    go : (m : Moment) (b : Bus) → moments_text (without_ends l) ≡ moments_text l
        → moments_text (cond (is_passed m) (without_ends l) (now m b ∷ without_ends l)) ≡ moment_text m b ++ moments_text l
    go (Called v) b e = rw e
    go Told b e = rw e
    go Passed b e = e
    go Ended b e = rw e
