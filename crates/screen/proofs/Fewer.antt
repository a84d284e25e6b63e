-- Each fill brings the end nearer, whatever the buffer: so the program that fills until it is done ends. Assumes nothing.
use mathlib.Core.Path.{◌≡◌, refl}
use mathlib.Core.Bool.{Bool, true, false, cond}
use mathlib.Core.List.{List}
use Prim.Native.Nat.{ℕ, zero, suc, ◌+◌, ◌-◌, ◌≤◌, ◌<◌}
use native.Mathlib.Omega.{arith}
use lib.Dec.{leb}
use Rattle.bus.specs.declared.bus.Bus.{Bus}
use Rattle.walk.specs.Field.{Bytes}
use Rattle.walk.specs.Walk.{is_end, to_go, walked}
use Rattle.walk.specs.declared.walk.Place.{Place}
use Rattle.walk.specs.Walk.{Step}
use Rattle.walk.proofs.Going.{walked_nearer}
use Rattle.scenario.specs.declared.pen.Pen.{Pen}
use Rattle.scenario.specs.Pen.{pen, penned, room}
use Rattle.screen.specs.declared.fill.Showing.{Showing}
use Rattle.screen.specs.Series.{fills_to_come}
use Rattle.screen.specs.Fill.{so_far, line_room, filling, filled_from, filled}
use Rattle.screen.specs.Lines.{shown_text}

-- no more fills than this are to come
abbrev pub fills_left : Showing → List ℕ → ℕ
fills_left g s = fills_to_come s g

at_most : (k : ℕ) (b : Bus) (p : Place) (s : List ℕ) (q : Pen) → Bytes s → fills_left (filled_from k b p s q).showing s ≤ to_go p s + 1
unfolding filled_from
at_most zero b p s q bytes = omega arith
at_most (suc k) b p s q bytes =
    go (leb q.at (room - line_room)) (is_end n.moment) refl (at_most k n.bus n.place s (penned q (shown_text n.moment n.bus)) bytes)
  where
    n : Step
    n = walked b p s true

    more : Pen
    more = penned q (shown_text n.moment n.bus)

    go : (t u : Bool) → is_end n.moment ≡ u → fills_left (filled_from k n.bus n.place s more).showing s ≤ to_go n.place s + 1
        → fills_left (cond t (cond u (filling (so_far n.place n.bus true) more) (filled_from k n.bus n.place s more)) (filling (so_far p b false) q)).showing s ≤ to_go p s + 1
    go true true e h = omega arith
    go true false e h = omega (arith, walked_nearer b p s true bytes e)
    go false u e h = omega arith

some : (b : Bus) (p : Place) (s buffer : List ℕ) → Bytes s → fills_left (filled_from (suc (to_go p s)) b p s (pen buffer 0)).showing s < to_go p s + 1
unfolding filled_from
some b p s buffer bytes = go (is_end n.moment) refl
  where
    n : Step
    n = walked b p s true

    more : Pen
    more = penned (pen buffer 0) (shown_text n.moment n.bus)

    go : (u : Bool) → is_end n.moment ≡ u
        → fills_left (cond u (filling (so_far n.place n.bus true) more) (filled_from (to_go p s) n.bus n.place s more)).showing s < to_go p s + 1
    go true e = omega arith
    go false e = omega (arith, at_most (to_go p s) n.bus n.place s more bytes, walked_nearer b p s true bytes e)

pub fewer : (g : Showing) (s buffer : List ℕ) → Bytes s → g.done ≡ false → fills_left (filled g s buffer).showing s < fills_left g s
unfolding filled
fewer g s buffer bytes d = rw d (some g.bus g.place s buffer bytes)
