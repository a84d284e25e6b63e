-- The walk gives the moments of the scenario, each with the bus as it then stands. Assumes nothing.
use mathlib.Core.Path.{◌≡◌, refl, sym, ap, ◌∙◌}
use mathlib.Core.Bool.{Bool, true, false, cond, true≢false}
use mathlib.Core.List.{List, [], ◌∷◌, ◌++◌}
use Prim.Native.Nat.{ℕ, zero, suc, ◌-◌, ◌≤◌, ◌<◌}
use native.Mathlib.Omega.{arith}
use borrow.Author.Tests.{ltb-true, ltb-false, lt-ltb, le-ltb}
use lib.Dec.{ltb}
use lib.ListN.{length}
use Rattle.station.specs.declared.phase.Sound.TheVariants as sound
use Rattle.bus.specs.Bus.{powered_on, done}
use Rattle.bus.specs.Find.{there_is}
use Rattle.bus.specs.Run.{runs}
use Rattle.bus.specs.Slot.{slot_heard, slot_run}
use Rattle.bus.specs.declared.bus.Bus.{Bus}
use Rattle.bus.specs.declared.find.Query.TheVariants.{WasTold}
use Rattle.bus.specs.Run.{Stop}
use Rattle.std.specs.Prelude.{Option, Some, None}
use Rattle.walk.specs.declared.field.Field.{Field}
use Rattle.walk.specs.declared.field.Field.TheVariants.{Master, Slave, Reply, Queue, Run, Heard, Quiet}
use Rattle.std.specs.Prelude.{Ok}
use Rattle.walk.specs.declared.walk.Place.{Place}
use Rattle.walk.specs.declared.walk.Moment.{Moment}
use Rattle.walk.specs.declared.walk.Moment.TheVariants.{Called, Told, Passed, Ended}
use Rattle.walk.specs.Walk.{Step}
use Rattle.walk.specs.Field.{Bytes, field_at, is_bad}
use Rattle.walk.specs.Form.{form_of}
use Rattle.walk.specs.Apply.{applied}
use Rattle.walk.specs.Walk.{before, within, slots_left, task_as, ahead_of, stepped, came, next_as, next, is_end, passed_by, walked}
use Rattle.walk.specs.Moments.{Now, now, Gone, ran, gone_by, told_in, moments_from, moments, is_passed, without_ends, Gives, last, one}
use Rattle.walk.proofs.Fields.{Finds, next_past, found_next, found_first, not_bad}
use Rattle.walk.proofs.Going.{goes_first, goes_here, walked_on, came_told, came_quiet}
use Rattle.walk.proofs.Shorter.{run_shorter}

-- one moment at a time, the ends of fields among them
data Steps (s : List ℕ) : Bus → Place → List Now → Type 0 where
  at_end : {b : Bus} {p : Place} {n : Step} → next b p s ≡ n → is_end n.moment ≡ true → Steps s b p (now n.moment n.bus ∷ [])
  and_on : {b : Bus} {p : Place} {n : Step} {l : List Now} → next b p s ≡ n → is_end n.moment ≡ false
      → Steps s n.bus n.place l → Steps s b p (now n.moment n.bus ∷ l)

-- ---- a run stops where somebody is told something: its moments are those of its slots

abbrev told_gone : Stop → Gone
told_gone r = record { bus = (ran r.left r.bus).bus; moments = now Told r.bus ∷ (ran r.left r.bus).moments }

abbrev quiet_gone : Stop → Gone
quiet_gone r = record { bus = r.bus; moments = [] }

ran_told : (n : ℕ) (b : Bus) → 0 < n → there_is (runs n b).bus WasTold ≡ true → ran n b ≡ told_gone (runs n b)
unfolding ran runs
ran_told zero b h e = absurd (omega arith)
ran_told (suc n) b h e = go (there_is (slot_run b) WasTold) refl e (ran_told n (slot_run b))
  where
    rest : (m : ℕ) → (t : Bool) → there_is (slot_run b) WasTold ≡ false → there_is (runs m (slot_run b)).bus WasTold ≡ true
        → (0 < m → there_is (runs m (slot_run b)).bus WasTold ≡ true → ran m (slot_run b) ≡ told_gone (runs m (slot_run b)))
        → ran m (slot_run b) ≡ told_gone (runs m (slot_run b))
    rest zero t f e h = absurd (true≢false (sym e ∙ f))
    rest (suc m) t f e h = h (omega arith) e

    go : (t : Bool) → there_is (slot_run b) WasTold ≡ t
        → there_is (cond t (record { bus = slot_run b; left = n }) (runs n (slot_run b))).bus WasTold ≡ true
        → (0 < n → there_is (runs n (slot_run b)).bus WasTold ≡ true → ran n (slot_run b) ≡ told_gone (runs n (slot_run b)))
        → ran (suc n) b ≡ told_gone (cond t (record { bus = slot_run b; left = n }) (runs n (slot_run b)))
    go true f e h = simp f
    go false f e h = simp f (rest n false f e h)

ran_quiet : (n : ℕ) (b : Bus) → 0 < n → there_is (runs n b).bus WasTold ≡ false → ran n b ≡ quiet_gone (runs n b)
unfolding ran runs
ran_quiet zero b h e = absurd (omega arith)
ran_quiet (suc n) b h e = go (there_is (slot_run b) WasTold) refl e (ran_quiet n (slot_run b))
  where
    rest : (m : ℕ) → there_is (runs m (slot_run b)).bus WasTold ≡ false
        → (0 < m → there_is (runs m (slot_run b)).bus WasTold ≡ false → ran m (slot_run b) ≡ quiet_gone (runs m (slot_run b)))
        → ran m (slot_run b) ≡ quiet_gone (runs m (slot_run b))
    rest zero e h = refl
    rest (suc m) e h = h (omega arith) e

    go : (t : Bool) → there_is (slot_run b) WasTold ≡ t
        → there_is (cond t (record { bus = slot_run b; left = n }) (runs n (slot_run b))).bus WasTold ≡ false
        → (0 < n → there_is (runs n (slot_run b)).bus WasTold ≡ false → ran n (slot_run b) ≡ quiet_gone (runs n (slot_run b)))
        → ran (suc n) b ≡ quiet_gone (cond t (record { bus = slot_run b; left = n }) (runs n (slot_run b)))
    go true f e h = absurd (true≢false (sym f ∙ e))
    go false f e h = simp f (rest n e h)

-- ---- one field

ran_zero : (b : Bus) → ran 0 b ≡ record { bus = b; moments = [] }
unfolding ran
ran_zero b = refl

-- the field under way has no slots left: it is over
passes : (s : List ℕ) (b : Bus) (to : ℕ) → next b (within to 0) s ≡ stepped b (before to) Passed
unfolding next ahead_of
passes s b to = refl

slots_next : (s : List ℕ) (b : Bus) (to n : ℕ) → next b (within to n) s ≡ next_as (slots_left n) to b s
unfolding next ahead_of
slots_next s b to n = refl

no_slots : (n : ℕ) (s : List ℕ) (b : Bus) (p : Place) (to : ℕ) {l : List Now} → n ≤ 0 → next b p s ≡ next_as (slots_left n) to b s
    → Steps s (ran n b).bus (before to) l → Steps s b p ((ran n b).moments ++ (now Passed (ran n b).bus ∷ l))
no_slots zero s b p to h e w = rw (ran_zero b) (and_on e refl (rw (ran_zero b) at w))
no_slots (suc n) s b p to h e w = absurd (omega arith)

some_slots : (n : ℕ) (s : List ℕ) (b : Bus) (p : Place) (to : ℕ) {l : List Now} → 0 < n → next b p s ≡ next_as (slots_left n) to b s
    → Steps s (ran n b).bus (before to) l
    → ((k : ℕ) (c : Bus) → k < n → Steps s (ran k c).bus (before to) l → Steps s c (within to k) ((ran k c).moments ++ (now Passed (ran k c).bus ∷ l)))
    → Steps s b p ((ran n b).moments ++ (now Passed (ran n b).bus ∷ l))
some_slots n s b p to {l} some e w ih = go (there_is r.bus WasTold) refl
  where
    r : Stop
    r = runs n b

    f : next b p s ≡ came r.bus to r.left
    f = e ∙ simp (lt-ltb 0 n some)

    go : (t : Bool) → there_is r.bus WasTold ≡ t → Steps s b p ((ran n b).moments ++ (now Passed (ran n b).bus ∷ l))
    go true t =
        let q : ran n b ≡ told_gone r = ran_told n b some t in
        let w : Steps s (ran r.left r.bus).bus (before to) l = rw q at w in
        rw q (and_on (f ∙ came_told r.bus to r.left refl t) refl (ih r.left r.bus (run_shorter n b some) w))
    go false t =
        let q : ran n b ≡ quiet_gone r = ran_quiet n b some t in
        let w : Steps s r.bus (before to) l = rw q at w in
        rw q (and_on (f ∙ came_quiet r.bus to r.left refl t) refl w)

run_steps : (m n : ℕ) (s : List ℕ) (b : Bus) (p : Place) (to : ℕ) {l : List Now} → n ≤ m → next b p s ≡ next_as (slots_left n) to b s
    → Steps s (ran n b).bus (before to) l → Steps s b p ((ran n b).moments ++ (now Passed (ran n b).bus ∷ l))
run_steps zero n s b p to h e w = no_slots n s b p to h e w
run_steps (suc m) n s b p to {l} h e w = go (ltb 0 n) refl (λ k c i w. run_steps m k s c (within to k) to (omega (arith, i, h)) (slots_next s c to k) w)
  where
    go : (t : Bool) → ltb 0 n ≡ t
        → ((k : ℕ) (c : Bus) → k < n → Steps s (ran k c).bus (before to) l → Steps s c (within to k) ((ran k c).moments ++ (now Passed (ran k c).bus ∷ l)))
        → Steps s b p ((ran n b).moments ++ (now Passed (ran n b).bus ∷ l))
    go true t ih = some_slots n s b p to (ltb-true 0 n t) e w ih
    go false t ih = no_slots n s b p to (ltb-false 0 n t) e w

heard_steps : (s : List ℕ) (c b : Bus) (p : Place) (to : ℕ) {l : List Now} → next b p s ≡ came c to 0
    → Steps s c (before to) l → Steps s b p (told_in c [] ++ (now Passed c ∷ l))
heard_steps s c b p to {l} e w = go (there_is c WasTold) refl
  where
    go : (t : Bool) → there_is c WasTold ≡ t → Steps s b p (told_in c [] ++ (now Passed c ∷ l))
    go true f = rw f (and_on (e ∙ came_told c to 0 refl f) refl (and_on (passes s c to) refl w))
    go false f = rw f (and_on (e ∙ came_quiet c to 0 refl f) refl w)

field_steps : (f : Option Field) (s : List ℕ) (b : Bus) (p : Place) (to : ℕ) {l : List Now} → is_bad f ≡ false
    → next b p s ≡ next_as (task_as f) to b s
    → Steps s (gone_by f b s to).bus (before to) l
    → Steps s b p ((gone_by f b s to).moments ++ (now Passed (gone_by f b s to).bus ∷ l))
unfolding applied done
field_steps (Some (Master a)) s b p to g e w = and_on e refl (and_on (passes s _ to) refl w)
field_steps (Some (Slave a)) s b p to g e w = and_on e refl (and_on (passes s _ to) refl w)
field_steps (Some (Reply a q r f)) s b p to g e w = and_on e refl (and_on (passes s _ to) refl w)
field_steps (Some (Queue q z r t f)) s b p to g e w = and_on e refl (and_on (passes s _ to) refl w)
field_steps (Some (Run n)) s b p to g e w = run_steps n n s b p to (omega arith) e w
field_steps (Some (Heard x)) s b p to g e w = heard_steps s (slot_heard b (sound.Symbol x)) b p to e w
field_steps (Some Quiet) s b p to g e w = heard_steps s (slot_heard b sound.Quiet) b p to e w
field_steps None s b p to g e w = absurd (true≢false g)

-- ---- all fields

field_next : (s : List ℕ) (b : Bus) (at : ℕ) → at < length s
    → next b (before at) s ≡ next_as (task_as (field_at s at).field) (field_at s at).next b s
unfolding next ahead_of
field_next s b at h = simp (lt-ltb at (length s) h)

end_next : (s : List ℕ) (b : Bus) (at : ℕ) → length s ≤ at → next b (before at) s ≡ stepped b (before at) Ended
unfolding next ahead_of
end_next s b at h = simp (le-ltb at (length s) h)

steps_from : (k : ℕ) (s : List ℕ) (at : ℕ) (b : Bus) → length s - at ≤ k → Finds s at (Ok tt) → Steps s b (before at) (moments_from k s at b)
unfolding moments_from
steps_from zero s at b h g = at_end (end_next s b at (omega arith)) refl
steps_from (suc k) s at b h g =
    go (ltb at (length s)) refl (steps_from k s (field_at s at).next (gone_by (field_at s at).field b s (field_at s at).next).bus)
  where
    f : Option Field
    f = (field_at s at).field

    to : ℕ
    to = (field_at s at).next

    gone : Gone
    gone = gone_by f b s to

    go : (t : Bool) → ltb at (length s) ≡ t
        → (length s - to ≤ k → Finds s to (Ok tt) → Steps s gone.bus (before to) (moments_from k s to gone.bus))
        → Steps s b (before at) (cond t (gone.moments ++ (now Passed gone.bus ∷ moments_from k s to gone.bus)) (now Ended b ∷ []))
    go true t ih =
        let l : at < length s = ltb-true at (length s) t in
        let n = not_bad s at l g in
        field_steps f s b (before at) to n (field_next s b at l) (ih (omega (arith, next_past s at n)) (found_next s at (Ok tt) l n g))
    go false t ih = at_end (end_next s b at (ltb-false at (length s) t)) refl

-- ---- with the ends of fields, and without them

walked_is : (b : Bus) (p : Place) (s : List ℕ) (ends : Bool) {n : Step} → next b p s ≡ n → passed_by ends n.moment ≡ false → walked b p s ends ≡ n
walked_is b p s ends e f = sym (goes_here (goes_first b p s ends) e f)

all_kept : (m : Moment) → passed_by true m ≡ false
all_kept (Called v) = refl
all_kept Told = refl
all_kept Passed = refl
all_kept Ended = refl

with_ends : {s : List ℕ} {b : Bus} {p : Place} {l : List Now} → Steps s b p l → Gives true s b p l
with_ends {s} {b} {p} (at_end {n = n} e f) = last (walked_is b p s true e (all_kept n.moment)) f
with_ends {s} {b} {p} (and_on {n = n} e f w) = one (walked_is b p s true e (all_kept n.moment)) f (with_ends w)

-- the same moments from where the walk comes to the same
same_gives : {ends : Bool} {s : List ℕ} {b c : Bus} {p q : Place} {l : List Now} → walked b p s ends ≡ walked c q s ends → Gives ends s c q l → Gives ends s b p l
same_gives e (last f g) = last (e ∙ f) g
same_gives e (one f g w) = one (e ∙ f) g w

without : {s : List ℕ} {b : Bus} {p : Place} {l : List Now} → Bytes s → Steps s b p l → Gives false s b p (without_ends l)
unfolding without_ends
without {s} {b} {p} bytes (at_end {n = n} e f) = go n.moment refl f
  where
    go : (m : Moment) → n.moment ≡ m → is_end m ≡ true → Gives false s b p (cond (is_passed m) [] (now n.moment n.bus ∷ []))
    go (Called v) g h = absurd (true≢false (sym h))
    go Told g h = absurd (true≢false (sym h))
    go Passed g h = absurd (true≢false (sym h))
    go Ended g h = last (walked_is b p s false e (ap (passed_by false) g)) (ap is_end g)
without {s} {b} {p} bytes (and_on {n = n} {l = l} e f w) = go n.moment refl f (without bytes w)
  where
    go : (m : Moment) → n.moment ≡ m → is_end m ≡ false → Gives false s n.bus n.place (without_ends l)
        → Gives false s b p (cond (is_passed m) (without_ends l) (now n.moment n.bus ∷ without_ends l))
    go (Called v) g h w = one (walked_is b p s false e (ap (passed_by false) g)) (ap is_end g) w
    go Told g h w = one (walked_is b p s false e (ap (passed_by false) g)) (ap is_end g) w
    go Passed g h w = same_gives (walked_on b p s false bytes e (ap (passed_by false) g)) w
    go Ended g h w = absurd (true≢false h)

-- ---- the theorems

from_start : (s : List ℕ) → form_of s ≡ Ok tt → Steps s powered_on (before 0) (moments s)
unfolding moments
from_start s g = steps_from (length s) s 0 powered_on (omega arith) (found_first s g)

-- asked for the ends of fields, the walk gives every moment of the scenario
pub walk_gives_moments : (s : List ℕ) → form_of s ≡ Ok tt → Gives true s powered_on (before 0) (moments s)
walk_gives_moments s g = with_ends (from_start s g)

-- else it gives all but the ends of fields
pub walk_gives_others : (s : List ℕ) → Bytes s → form_of s ≡ Ok tt → Gives false s powered_on (before 0) (without_ends (moments s))
walk_gives_others s bytes g = without bytes (from_start s g)
