-- A fill of the buffer, a moment at a time. Assumes nothing.
use mathlib.Core.Path.{◌≡◌, refl, sym, ap, ◌∙◌}
use mathlib.Core.Bool.{true, false}
use mathlib.Core.List.{List}
use Prim.Native.Nat.{ℕ, zero, suc, ◌-◌, ◌≤◌, ◌<◌}
use native.Mathlib.Omega.{arith}
use borrow.Author.Tests.{le-leb, lt-leb}
use Rattle.std.specs.Prelude.{Option}
use Rattle.bus.specs.Waiting.{next_of}
use Rattle.bus.specs.declared.bus.Bus.{Bus}
use Rattle.walk.specs.Field.{Bytes}
use Rattle.walk.specs.Walk.{is_end, to_go, walked}
use Rattle.walk.specs.declared.walk.Moment.{Moment}
use Rattle.walk.specs.declared.walk.Place.{Place}
use Rattle.walk.specs.Walk.{Step}
use Rattle.walk.proofs.Going.{walked_nearer}
use Rattle.scenario.specs.declared.pen.Pen.{Pen}
use Rattle.scenario.specs.Pen.{pen, penned, room}
use Rattle.screen.specs.declared.fill.Showing.{Showing}
use Rattle.screen.specs.Fill.{Fill, filling, so_far, line_room, filled_from, filled}
use Rattle.screen.specs.Lines.{shown_at, shown_text}

-- enough turns for what is to go from a place on, and where they come to
pub record FillsTo (b : Bus) (p : Place) (s : List ℕ) (q : Pen) (r : Fill) : Type 0 where
  pub turns : ℕ
  pub enough : to_go p s < turns
  pub comes : filled_from turns b p s q ≡ r

pub fills_first : (g : Showing) (s buffer : List ℕ) → FillsTo g.bus g.place s (pen buffer 0) (filled g s buffer)
unfolding filled
fills_first g s buffer = record { turns = suc (to_go g.place s); enough = omega arith; comes = refl }

-- no whole line fits
pub fills_full : {b : Bus} {p : Place} {s : List ℕ} {q : Pen} {r : Fill} {g : Showing} → FillsTo b p s q r → room - line_room < q.at
    → g ≡ so_far p b false → filling g q ≡ r
unfolding filled_from
fills_full {b} {p} {s} {q} {r} {g} f h e = rw e (go f.turns f.comes)
  where
    go : (k : ℕ) → filled_from k b p s q ≡ r → filling (so_far p b false) q ≡ r
    go zero w = w
    go (suc k) w = sym (simp (lt-leb q.at (room - line_room) h)) ∙ w

-- the scenario is over
pub fills_end : {b : Bus} {p : Place} {s : List ℕ} {q more : Pen} {r : Fill} {n : Step} {g : Showing} → FillsTo b p s q r → q.at ≤ room - line_room
    → n ≡ walked b p s true → is_end n.moment ≡ true → more ≡ penned q (shown_text n.moment n.bus)
    → g ≡ so_far n.place n.bus true → filling g more ≡ r
unfolding filled_from
fills_end {b} {p} {s} {q} {more} {r} {n} {g} f h e i m d = rw d (go f.turns f.enough f.comes)
  where
    go : (k : ℕ) → to_go p s < k → filled_from k b p s q ≡ r → filling (so_far n.place n.bus true) more ≡ r
    go zero l w = absurd (omega arith)
    go (suc k) l w = rw m (sym (simp (le-leb q.at (room - line_room) h, ← e, i)) ∙ w)

-- a moment more
pub fills_on : {b : Bus} {p : Place} {s : List ℕ} {q more : Pen} {r : Fill} {n : Step} → Bytes s → FillsTo b p s q r → q.at ≤ room - line_room
    → n ≡ walked b p s true → is_end n.moment ≡ false → more ≡ penned q (shown_text n.moment n.bus)
    → FillsTo n.bus n.place s more r
unfolding filled_from
fills_on {b} {p} {s} {q} {more} {r} {n} bytes f h e i m = go f.turns f.enough f.comes
  where
    near : to_go n.place s < to_go p s
    near = rw e (walked_nearer b p s true bytes (rw (← e) i))

    go : (k : ℕ) → to_go p s < k → filled_from k b p s q ≡ r → FillsTo n.bus n.place s more r
    go zero l w = absurd (omega arith)
    go (suc k) l w =
        record {
          turns = k;
          enough = omega (arith, near);
          comes = rw m (sym (simp (le-leb q.at (room - line_room) h, ← e, i)) ∙ w);
        }

-- what is written at a moment, by who is next on the bus
pub shown_is : (q : Pen) (m : Moment) (b : Bus) {more : Pen} {n : Option ℕ} → more ≡ penned q (shown_at m b.slot n) → n ≡ next_of b → more ≡ penned q (shown_text m b)
shown_is q m b e f = e ∙ ap (λ (n : Option ℕ). penned q (shown_at m b.slot n)) f
