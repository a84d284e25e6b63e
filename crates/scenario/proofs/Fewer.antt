-- Each fill brings the end nearer, whatever the buffer: so the program that fills until it is done ends. Assumes nothing.
use mathlib.Core.Path.{◌≡◌, refl}
use mathlib.Core.Bool.{Bool, true, false, cond}
use mathlib.Core.List.{List}
use Prim.Native.Nat.{ℕ, zero, suc, ◌+◌, ◌-◌, ◌≤◌, ◌<◌}
use native.Mathlib.Omega.{arith}
use lib.Dec.{leb}
use Rattle.bus.specs.declared.bus.Bus.{Bus}
use Rattle.walk.specs.Field.{Bytes}
use Rattle.walk.specs.Walk.{is_end, to_go, walked}
use Rattle.std.specs.Prelude.{Result, ⊤, Ok, Err}
use Rattle.walk.specs.declared.form.FormError.{FormError}
use Rattle.walk.specs.declared.form.FormError.TheVariants.{BadField, TooLong}
use Rattle.walk.specs.declared.walk.Place.{Place}
use Rattle.walk.specs.Walk.{Step}
use Rattle.walk.proofs.Going.{walked_nearer}
use Rattle.scenario.specs.declared.fill.Stage.{Stage}
use Rattle.scenario.specs.declared.fill.Stage.TheVariants.{Opening, Fields, Done}
use Rattle.scenario.specs.declared.fill.Printing.{Printing}
use Rattle.scenario.specs.Fill.{moment_text, opening_text, printed, is_done, filling, filled_from, filled_as, opened, filled}
use Rattle.scenario.specs.Series.{fills_as, fills_to_come}
use Rattle.scenario.specs.declared.pen.Pen.{Pen}
use Rattle.scenario.specs.Pen.{pen, penned, room, page_room}

abbrev pub fills_left : Printing → List ℕ → ℕ
fills_left g s = fills_to_come s g

at_most : (k : ℕ) (b : Bus) (p : Place) (s : List ℕ) (q : Pen) → Bytes s → fills_left (filled_from k b p s q).printing s ≤ to_go p s + 1
unfolding filled_from
at_most zero b p s q bytes = omega arith
at_most (suc k) b p s q bytes =
    go (leb q.at (room - page_room)) (is_end n.moment) refl (at_most k n.bus n.place s (penned q (moment_text n.moment n.bus)) bytes)
  where
    n : Step
    n = walked b p s false

    more : Pen
    more = penned q (moment_text n.moment n.bus)

    go : (t u : Bool) → is_end n.moment ≡ u → fills_left (filled_from k n.bus n.place s more).printing s ≤ to_go n.place s + 1
        → fills_left (cond t (cond u (filling (printed Done n.place n.bus) more) (filled_from k n.bus n.place s more)) (filling (printed Fields p b) q)).printing s ≤ to_go p s + 1
    go true true e h = omega arith
    go true false e h = omega (arith, walked_nearer b p s false bytes e)
    go false u e h = omega arith

some : (b : Bus) (p : Place) (s buffer : List ℕ) → Bytes s → fills_left (filled_from (suc (to_go p s)) b p s (pen buffer 0)).printing s < to_go p s + 1
unfolding filled_from
some b p s buffer bytes = go (is_end n.moment) refl
  where
    n : Step
    n = walked b p s false

    more : Pen
    more = penned (pen buffer 0) (moment_text n.moment n.bus)

    go : (u : Bool) → is_end n.moment ≡ u
        → fills_left (cond u (filling (printed Done n.place n.bus) more) (filled_from (to_go p s) n.bus n.place s more)).printing s < to_go p s + 1
    go true e = omega arith
    go false e = omega (arith, at_most (to_go p s) n.bus n.place s more bytes, walked_nearer b p s false bytes e)

pub fewer : (g : Printing) (s buffer : List ℕ) → Bytes s → is_done g.stage ≡ false → fills_left (filled g s buffer).printing s < fills_left g s
unfolding filled penned
fewer g s buffer bytes d = go g.stage d
  where
    opening : (f : Result ⊤ FormError) (q : Pen) → fills_left (filled_as (opened (Opening f)) g.place g.bus s q).printing s < to_go g.place s + 2
    opening (Ok tt) q = omega (arith, at_most (suc (to_go g.place s)) g.bus g.place s q bytes)
    opening (Err (BadField at)) q = omega arith
    opening (Err TooLong) q = omega arith

    go : (t : Stage) → is_done t ≡ false
        → fills_left (filled_as (opened t) g.place g.bus s (penned (pen buffer 0) (opening_text t))).printing s < fills_as t (to_go g.place s)
    go (Opening f) d = opening f (penned (pen buffer 0) (opening_text (Opening f)))
    go Fields d = some g.bus g.place s buffer bytes
    go Done d = let z : ◌≡◌ {A = ℕ} 0 1 = cc in absurd (omega arith)
