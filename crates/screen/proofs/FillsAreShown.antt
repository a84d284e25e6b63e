-- The bytes of all fills, one after the other until it is done, are the display's lines. Assumes nothing.
use mathlib.Core.Path.{◌≡◌, refl, ap, subst, ◌∙◌}
use mathlib.Core.Bool.{Bool, true, false, true≢false}
use mathlib.Core.List.{List, [], ◌++◌, append_assoc, append-nil}
use Prim.Native.Nat.{ℕ, zero, suc, ◌+◌, ◌-◌, ◌*◌, ◌≤◌, ◌<◌}
use native.Mathlib.Omega.{arith}
use borrow.Author.Tests.{leb-true, leb-false}
use lib.Dec.{leb}
use lib.ListN.{length, length-append}
use Rattle.bus.specs.Bus.{powered_on}
use Rattle.bus.specs.declared.bus.Bus.{Bus}
use Rattle.walk.specs.Field.{Bytes}
use Rattle.walk.specs.Form.{form_of}
use Rattle.walk.specs.Moments.{Now, moments, Gives, last, one}
use Rattle.walk.specs.Walk.{before, to_go}
use Rattle.std.specs.Prelude.{Ok}
use Rattle.walk.specs.declared.walk.Place.{Place}
use Rattle.walk.proofs.Given.{walk_gives_moments}
use Rattle.walk.proofs.Going.{walked_nearer}
use Rattle.scenario.specs.declared.pen.Pen.{Pen}
use Rattle.scenario.specs.Pen.{pen, penned, room}
use Rattle.scenario.proofs.Fills.{place_is, written_bytes, same_length}
use Rattle.scenario.proofs.Written.{penned_append}
use Rattle.screen.specs.declared.fill.Showing.{Showing}
use Rattle.screen.specs.Fill.{so_far, line_room, started, Fill, filling, filled_from, filled, Prints, finished, after}
use Rattle.screen.specs.Lines.{shown_text}
use Rattle.screen.specs.Output.{shown_of, displayed}
use Rattle.screen.proofs.LinesFit.{shown_most}

-- ---- one fill

-- what a fill makes of the text that is still to come: all of it, or as much as leaves no room for a line
data Fills (s buffer : List ℕ) (f : Fill) : List ℕ → Type 0 where
  all : {p : Place} {b : Bus} (t : List ℕ) → length t ≤ room → f ≡ filling (so_far p b true) (penned (pen buffer 0) t) → Fills s buffer f t
  part : {p : Place} {b : Bus} {l : List Now} (t : List ℕ) → length t ≤ room → room - line_room < length t
      → f ≡ filling (so_far p b false) (penned (pen buffer 0) t) → Gives true s b p l → Fills s buffer f (t ++ shown_of l)

module _ (s buffer : List ℕ) (bytes : Bytes s) (whole : length buffer ≡ room) where
  fills_from : (k : ℕ) {b : Bus} {p : Place} {l : List Now} → Gives true s b p l → (t : List ℕ) → to_go p s < k → length t ≤ room
      → Fills s buffer (filled_from k b p s (penned (pen buffer 0) t)) (t ++ shown_of l)
  unfolding filled_from shown_of
  fills_from zero w t h r = absurd (omega arith)
  fills_from (suc k) {b} {p} (last {n = n} e g) t h r = go (leb (penned (pen buffer 0) t).at (room - line_room)) refl
    where
      x : List ℕ
      x = shown_text n.moment n.bus

      at : (penned (pen buffer 0) t).at ≡ length t
      at = place_is buffer t whole r

      go : (u : Bool) → leb (penned (pen buffer 0) t).at (room - line_room) ≡ u
          → Fills s buffer (filled_from (suc k) b p s (penned (pen buffer 0) t)) (t ++ (x ++ []))
      go true u =
          let i = leb-true (penned (pen buffer 0) t).at (room - line_room) u in
          let j = shown_most n.moment n.bus in
          rw (append-nil x)
          (all {p = n.place} {b = n.bus} (t ++ x) (omega (arith, length-append t x, at)) (simp (u, e, g) (ap (λ (q : Pen). filling (so_far n.place n.bus true) q) (penned_append (pen buffer 0) t x))))
      go false u =
          let i = leb-false (penned (pen buffer 0) t).at (room - line_room) u in
          part {p = p} {b = b} t r (omega (arith, at)) (simp u) (last e g)
  fills_from (suc k) {b} {p} (one {n = n} {l = l} e g w) t h r =
      go (leb (penned (pen buffer 0) t).at (room - line_room)) refl (fills_from k w (t ++ shown_text n.moment n.bus))
    where
      x : List ℕ
      x = shown_text n.moment n.bus

      at : (penned (pen buffer 0) t).at ≡ length t
      at = place_is buffer t whole r

      near : to_go n.place s < to_go p s
      near = rw e at (walked_nearer b p s true bytes (rw e g))

      go : (u : Bool) → leb (penned (pen buffer 0) t).at (room - line_room) ≡ u
          → (to_go n.place s < k → length (t ++ x) ≤ room
          → Fills s buffer (filled_from k n.bus n.place s (penned (pen buffer 0) (t ++ x))) ((t ++ x) ++ shown_of l))
          → Fills s buffer (filled_from (suc k) b p s (penned (pen buffer 0) t)) (t ++ (x ++ shown_of l))
      go true u ih =
          let i = leb-true (penned (pen buffer 0) t).at (room - line_room) u in
          let j = shown_most n.moment n.bus in
          simp (u, e, g, penned_append (pen buffer 0) t x) (rw append_assoc at (ih (omega (arith, near)) (omega (arith, length-append t x, at))))
      go false u ih =
          let i = leb-false (penned (pen buffer 0) t).at (room - line_room) u in
          part {p = p} {b = b} t r (omega (arith, at)) (simp u) (one e g w)

-- ---- all fills

-- so many fills, of which each but the last leaves no room for a line, and what they print
pub record Shown (s : List ℕ) (g : Showing) (buffer x : List ℕ) : Type 0 where
  pub fills : ℕ
  pub few : fills * 65514 ≤ length x + 65514
  pub prints : Prints s g buffer fills x

-- what is shown from a place on, into any buffer, as far as the text is shorter than m
abbrev Shown-below : List ℕ → ℕ → Type 0
Shown-below s m = (buffer : List ℕ) (b : Bus) (p : Place) (l : List Now) → length buffer ≡ room → Gives true s b p l
    → length (shown_of l) < m → Shown s (so_far p b false) buffer (shown_of l)

one_fill : (s buffer : List ℕ) (g : Showing) (m : ℕ) {f : Fill} {x : List ℕ} → length buffer ≡ room → g.done ≡ false
    → filled g s buffer ≡ f → Fills s buffer f x → length x < suc m → Shown-below s m → Shown s g buffer x
one_fill s buffer g m whole d e (all {p} {b} t h f) l ih =
    record {
      fills = 1;
      few = omega arith;
      prints = subst (λ (v : List ℕ). Prints s g buffer 1 v) (append-nil _ ∙ written_bytes buffer t whole h)
          (after {f = filling (so_far p b true) (penned (pen buffer 0) t)} d (e ∙ f) (λ n. absurd (true≢false n)) (finished refl));
    }
one_fill s buffer g m whole d e (part {p} {b} {l} t h r f w) i ih =
    let more = ih (penned (pen buffer 0) t).page b p l (same_length buffer t whole h) w (omega (arith, length-append t (shown_of l))) in
    record {
      fills = suc more.fills;
      few = omega (arith, more.few, length-append t (shown_of l));
      prints = subst (λ (v : List ℕ). Prints s g buffer (suc more.fills) (v ++ shown_of l)) (written_bytes buffer t whole h)
          (after {f = filling (so_far p b false) (penned (pen buffer 0) t)} d (e ∙ f) (λ n. omega (arith, place_is buffer t whole h)) more.prints);
    }

moments_shown : (s : List ℕ) → Bytes s → (m : ℕ) → Shown-below s m
unfolding filled penned
moments_shown s bytes zero buffer b p l whole w i = absurd (omega arith)
moments_shown s bytes (suc m) buffer b p l whole w i =
    one_fill s buffer (so_far p b false) m whole refl refl
    (fills_from s buffer bytes whole (suc (to_go p s)) w [] (omega arith) (omega arith)) i (moments_shown s bytes m)

-- ---- the theorem

-- for every scenario of good form and every buffer
pub fills_are_shown : (s buffer : List ℕ) → Bytes s → length buffer ≡ room → form_of s ≡ Ok tt → Shown s started buffer (displayed s)
unfolding started displayed
fills_are_shown s buffer bytes whole g =
    rw g (moments_shown s bytes (suc (length (shown_of (moments s)))) buffer powered_on (before 0) (moments s) whole (walk_gives_moments s g) (omega arith))
