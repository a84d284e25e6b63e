-- A fill of the buffer, a moment at a time. Assumes nothing.
use mathlib.Core.Path.{◌≡◌, refl, sym, ap, ◌∙◌}
use mathlib.Core.Bool.{Bool, true, false, cond}
use mathlib.Core.List.{List, []}
use Prim.Native.Nat.{ℕ, zero, suc, ◌-◌, ◌≤◌, ◌<◌}
use native.Mathlib.Omega.{arith}
use borrow.Author.Tests.{le-leb, lt-leb}
use Rattle.bus.specs.Find.{there_is}
use Rattle.bus.specs.declared.bus.Bus.{Bus}
use Rattle.bus.specs.declared.find.Query.TheVariants.{WasTold}
use Rattle.walk.specs.Field.{Bytes}
use Rattle.walk.specs.Walk.{came_to, stepped, came, next, is_end, passed_by, to_go, walked}
use Rattle.walk.specs.declared.walk.Moment.{Moment}
use Rattle.walk.specs.declared.walk.Moment.TheVariants.{Called, Told, Passed, Ended}
use Rattle.walk.specs.declared.walk.Place.{Place}
use Rattle.walk.specs.Walk.{Step}
use Rattle.walk.proofs.Going.{goes_first, goes_here, walked_nearer, walked_on}
use Rattle.walk.proofs.Nearer.{nearer}
use Rattle.scenario.specs.declared.fill.Stage.TheVariants.{Fields, Done}
use Rattle.scenario.specs.Fill.{Fill, filling, printed, moment_text, filled_from, fields_filled}
use Rattle.scenario.specs.Lines.{slot_text}
use Rattle.scenario.specs.declared.pen.Pen.{Pen}
use Rattle.scenario.specs.Pen.{penned, room, page_room}
use Rattle.scenario.proofs.OfMoments.{quiet_text}
use Rattle.scenario.proofs.Written.{nothing}

-- enough turns for what is to go from a place on, and where they come to
pub record FillsTo (b : Bus) (p : Place) (s : List ℕ) (q : Pen) (r : Fill) : Type 0 where
  pub turns : ℕ
  pub enough : to_go p s < turns
  pub comes : filled_from turns b p s q ≡ r

pub fills_first : (b : Bus) (p : Place) (s : List ℕ) (q : Pen) → FillsTo b p s q (fields_filled p b s q)
fills_first b p s q = record { turns = suc (to_go p s); enough = omega arith; comes = refl }

-- no whole page fits
pub fills_full : {b : Bus} {p : Place} {s : List ℕ} {q : Pen} {r : Fill} → FillsTo b p s q r → room - page_room < q.at
    → filling (printed Fields p b) q ≡ r
unfolding filled_from
fills_full {b} {p} {s} {q} {r} f h = go f.turns f.comes
  where
    go : (k : ℕ) → filled_from k b p s q ≡ r → filling (printed Fields p b) q ≡ r
    go zero w = w
    go (suc k) w = sym (simp (lt-leb q.at (room - page_room) h)) ∙ w

-- the scenario is over
pub fills_end : {b : Bus} {p : Place} {s : List ℕ} {q more : Pen} {r : Fill} {n : Step} → FillsTo b p s q r → q.at ≤ room - page_room
    → walked b p s false ≡ n → is_end n.moment ≡ true → more ≡ penned q (moment_text n.moment n.bus)
    → filling (printed Done n.place n.bus) more ≡ r
unfolding filled_from
fills_end {b} {p} {s} {q} {more} {r} {n} f h e g m = go f.turns f.enough f.comes
  where
    go : (k : ℕ) → to_go p s < k → filled_from k b p s q ≡ r → filling (printed Done n.place n.bus) more ≡ r
    go zero l w = absurd (omega arith)
    go (suc k) l w = rw m (sym (simp (le-leb q.at (room - page_room) h, e, g)) ∙ w)

-- a moment more
pub fills_on : {b : Bus} {p : Place} {s : List ℕ} {q more : Pen} {r : Fill} {n : Step} → Bytes s → FillsTo b p s q r → q.at ≤ room - page_room
    → walked b p s false ≡ n → is_end n.moment ≡ false → more ≡ penned q (moment_text n.moment n.bus)
    → FillsTo n.bus n.place s more r
unfolding filled_from
fills_on {b} {p} {s} {q} {more} {r} {n} bytes f h e g m = go f.turns f.enough f.comes
  where
    near : to_go n.place s < to_go p s
    near = rw e at (walked_nearer b p s false bytes (rw e g))

    go : (k : ℕ) → to_go p s < k → filled_from k b p s q ≡ r → FillsTo n.bus n.place s more r
    go zero l w = absurd (omega arith)
    go (suc k) l w =
        record {
          turns = k;
          enough = omega (arith, near);
          comes = rw m (sym (simp (le-leb q.at (room - page_room) h, e, g)) ∙ w);
        }

-- ---- the walk, a task at a time

passed_text : (m : Moment) (b : Bus) → passed_by false m ≡ true → moment_text m b ≡ []
passed_text (Called v) b e = let z : ◌≡◌ {A = ℕ} 0 1 = cc in absurd (omega arith)
passed_text Told b e = let z : ◌≡◌ {A = ℕ} 0 1 = cc in absurd (omega arith)
passed_text Passed b e = refl
passed_text Ended b e = let z : ◌≡◌ {A = ℕ} 0 1 = cc in absurd (omega arith)

-- what is next, the end of a field too
pub fills_next : {b : Bus} {p : Place} {s : List ℕ} {q more : Pen} {r : Fill} {n : Step} → Bytes s → FillsTo b p s q r → q.at ≤ room - page_room
    → next b p s ≡ n → is_end n.moment ≡ false → more ≡ penned q (moment_text n.moment n.bus)
    → FillsTo n.bus n.place s more r
unfolding filled_from
fills_next {b} {p} {s} {q} {more} {r} {n} bytes f h e g m = by_kind (passed_by false n.moment) refl
  where
    near : to_go n.place s < to_go p s
    near = rw e at (nearer b p s bytes (rw e g))

    same : passed_by false n.moment ≡ true → (k : ℕ) → to_go p s < k → filled_from k b p s q ≡ r → filled_from k n.bus n.place s q ≡ r
    same t zero l w = absurd (omega arith)
    same t (suc k) l w = sym (simp (le-leb q.at (room - page_room) h, walked_on b p s false bytes e t)) ∙ w

    by_kind : (t : Bool) → passed_by false n.moment ≡ t → FillsTo n.bus n.place s more r
    by_kind true t =
        rw (m ∙ ap (λ (xs : List ℕ). penned q xs) (passed_text n.moment n.bus t) ∙ sym (nothing q))
        (record { turns = f.turns; enough = omega (arith, near, f.enough); comes = same t f.turns f.enough f.comes })
    by_kind false t = fills_on bytes f h (sym (goes_here (goes_first b p s false) e t)) g m

-- the scenario is over, and the end is next
pub fills_over : {b : Bus} {p : Place} {s : List ℕ} {q more : Pen} {r : Fill} {n : Step} → FillsTo b p s q r → q.at ≤ room - page_room
    → next b p s ≡ n → passed_by false n.moment ≡ false → is_end n.moment ≡ true → more ≡ penned q (moment_text n.moment n.bus)
    → filling (printed Done n.place n.bus) more ≡ r
fills_over {b} {p} {s} f h e t g m = fills_end f h (sym (goes_here (goes_first b p s false) e t)) g m

-- slots were run: their lines are those of the last, and there are none where nobody was told anything
abbrev moment_of : Bool → Moment
moment_of told = cond told Told Passed

came_is : (b : Bus) (to left : ℕ) (told : Bool) → told ≡ there_is b WasTold → came b to left ≡ stepped b (came_to to left told) (moment_of told)
unfolding came
came_is b to left true e = simp (← e)
came_is b to left false e = simp (← e)

came_text : (b : Bus) (told : Bool) → told ≡ there_is b WasTold → moment_text (moment_of told) b ≡ slot_text b
came_text b true e = refl
came_text b false e = sym (quiet_text b (sym e))

no_end : (told : Bool) → is_end (moment_of told) ≡ false
no_end true = refl
no_end false = refl

pub fills_came : {b : Bus} {p : Place} {s : List ℕ} {q more : Pen} {r : Fill} (b' : Bus) (to left : ℕ) (told : Bool) → Bytes s → FillsTo b p s q r
    → q.at ≤ room - page_room → next b p s ≡ came b' to left → told ≡ there_is b' WasTold → more ≡ penned q (slot_text b')
    → FillsTo b' (came_to to left told) s more r
fills_came {q = q} b' to left told bytes f h e t m =
    fills_next bytes f h (e ∙ came_is b' to left told t) (no_end told) (m ∙ ap (λ (xs : List ℕ). penned q xs) (sym (came_text b' told t)))

pub came_nearer : (b : Bus) (p : Place) (s : List ℕ) (b' : Bus) (to left : ℕ) (told : Bool) → Bytes s
    → next b p s ≡ came b' to left → told ≡ there_is b' WasTold → to_go (came_to to left told) s < to_go p s
came_nearer b p s b' to left told bytes e t =
    let k = e ∙ came_is b' to left told t in
    rw k at (nearer b p s bytes (rw k (no_end told)))
