-- The bytes of all fills, one after the other until no field is left, are the lines of the fields, for every input. Assumes nothing.
use mathlib.Core.Path.{◌≡◌, refl, sym, ap, subst, ◌∙◌}
use mathlib.Core.Bool.{Bool, true, false, cond}
use mathlib.Core.List.{List, [], ◌++◌, append_assoc, append-nil}
use Prim.Native.Nat.{ℕ, zero, suc, ◌+◌, ◌-◌, ◌*◌, ◌≤◌, ◌<◌}
use native.Mathlib.Omega.{arith}
use borrow.Author.Tests.{le-ltb, ltb-true, ltb-false}
use lib.Dec.{ltb}
use lib.ListN.{length, length-append}
use Rattle.scenario.specs.Pen.{pen, penned, room}
use Rattle.scenario.proofs.Fills.{place_is, written_bytes, same_length}
use Rattle.scenario.proofs.Written.{penned_append}
use Rattle.sheet.specs.Field.{field_at, value_at}
use Rattle.sheet.specs.Fill.{line_room, Fill, filling, filled_from, filled, Prints, finished, after}
use Rattle.sheet.specs.Lines.{line_at}
use Rattle.sheet.specs.Output.{lines_from, lines_text}
use Rattle.sheet.proofs.Fields.{within}
use Rattle.sheet.proofs.Filling.{gets_on}
use Rattle.sheet.proofs.LinesFit.{entry_most}

-- ---- the lines from a place on

lines_over : (k : ℕ) (s : List ℕ) (at : ℕ) → length s ≤ at → lines_from k s at ≡ []
unfolding lines_from
lines_over zero s at h = refl
lines_over (suc k) s at h = simp (le-ltb at (length s) h)

-- they are the same however many turns are left, as long as there are enough
lines_enough : (k j : ℕ) (s : List ℕ) (at : ℕ) → length s - at ≤ k → length s - at ≤ j → lines_from k s at ≡ lines_from j s at
unfolding lines_from
lines_enough zero j s at h l = sym (lines_over j s at (omega arith))
lines_enough (suc k) zero s at h l = lines_over (suc k) s at (omega arith)
lines_enough (suc k) (suc j) s at h l = go (ltb at (length s)) refl (lines_enough k j s (field_at s at).next)
  where
    go : (t : Bool) → ltb at (length s) ≡ t
        → (length s - (field_at s at).next ≤ k → length s - (field_at s at).next ≤ j → lines_from k s (field_at s at).next ≡ lines_from j s (field_at s at).next)
        → cond t (line_at s (field_at s at) ++ lines_from k s (field_at s at).next) [] ≡ cond t (line_at s (field_at s at) ++ lines_from j s (field_at s at).next) []
    go true e ih =
        let past = (within s at (ltb-true at (length s) e)).past in
        ap (λ (v : List ℕ). line_at s (field_at s at) ++ v) (ih (omega arith) (omega arith))
    go false e ih = refl

-- ---- one fill

-- what a fill makes of the text that is still to come: all of it, or as much as leaves no room for a line
data Fills (s buffer : List ℕ) (f : Fill) : List ℕ → Type 0 where
  all : {at : ℕ} (t : List ℕ) → length t ≤ room → length s ≤ at → f ≡ filling at (penned (pen buffer 0) t) → Fills s buffer f t
  part : {at k : ℕ} (t : List ℕ) → length t ≤ room → room - line_room < length t → f ≡ filling at (penned (pen buffer 0) t)
      → length s - at ≤ k → Fills s buffer f (t ++ lines_from k s at)

line_most : (s : List ℕ) (at : ℕ) → length (line_at s (field_at s at)) ≤ line_room
line_most s at = entry_most (field_at s at).entry (value_at s (field_at s at))

module _ (s buffer : List ℕ) (whole : length buffer ≡ room) where
  fills_over : (k at : ℕ) (t : List ℕ) → length s ≤ at → length t ≤ room
      → Fills s buffer (filled_from k s at (penned (pen buffer 0) t)) (t ++ lines_from k s at)
  unfolding filled_from
  fills_over zero at t h r = rw (lines_over zero s at h, append-nil t) (all {at = at} t r h refl)
  fills_over (suc k) at t h r = rw (lines_over (suc k) s at h, append-nil t) (all {at = at} t r h (simp (le-ltb at (length s) h)))

  fills_from : (k at : ℕ) (t : List ℕ) → length s - at ≤ k → length t ≤ room
      → Fills s buffer (filled_from k s at (penned (pen buffer 0) t)) (t ++ lines_from k s at)
  unfolding filled_from lines_from
  fills_from zero at t h r = fills_over zero at t (omega arith) r
  fills_from (suc k) at t h r =
      go (ltb at (length s)) refl (ltb (room - line_room) (penned (pen buffer 0) t).at) refl (fills_from k (field_at s at).next (t ++ line_at s (field_at s at)))
    where
      x : List ℕ
      x = line_at s (field_at s at)

      next : ℕ
      next = (field_at s at).next

      place : (penned (pen buffer 0) t).at ≡ length t
      place = place_is buffer t whole r

      go : (b : Bool) → ltb at (length s) ≡ b → (u : Bool) → ltb (room - line_room) (penned (pen buffer 0) t).at ≡ u
          → (length s - next ≤ k → length (t ++ x) ≤ room → Fills s buffer (filled_from k s next (penned (pen buffer 0) (t ++ x))) ((t ++ x) ++ lines_from k s next))
          → Fills s buffer (filled_from (suc k) s at (penned (pen buffer 0) t)) (t ++ lines_from (suc k) s at)
      go false b u e ih = fills_over (suc k) at t (ltb-false at (length s) b) r
      go true b true e ih =
          let i = ltb-true (room - line_room) (penned (pen buffer 0) t).at e in
          part {at = at} {k = suc k} t r (omega (arith, place)) (simp (b, e)) h
      go true b false e ih =
          let i = ltb-false (room - line_room) (penned (pen buffer 0) t).at e in
          let past = (within s at (ltb-true at (length s) b)).past in
          simp (b, e, penned_append (pen buffer 0) t x)
          (rw append_assoc at (ih (omega arith) (omega (arith, length-append t x, place, line_most s at))))

-- ---- all fills

-- so many fills, of which each but the last leaves no room for a line, and what they print
pub record Printed (s : List ℕ) (at : ℕ) (buffer x : List ℕ) : Type 0 where
  pub fills : ℕ
  pub few : fills * 65362 ≤ length x + 65362
  pub prints : Prints s at buffer fills x

-- what is printed from a place on, into any buffer, as far as less than m is left
abbrev Prints-below : List ℕ → ℕ → Type 0
Prints-below s m = (buffer : List ℕ) (at k : ℕ) → length buffer ≡ room → length s - at ≤ k → length s - at < m → Printed s at buffer (lines_from k s at)

one_fill : (s buffer : List ℕ) (at m : ℕ) {f : Fill} {x : List ℕ} → length buffer ≡ room → at < length s → filled s at buffer ≡ f
    → Fills s buffer f x → length s - at < suc m → Prints-below s m → Printed s at buffer x
one_fill s buffer at m whole some e (all {at = to} t h over f) l ih =
    record {
      fills = 1;
      few = omega arith;
      prints = subst (λ (v : List ℕ). Prints s at buffer 1 v) (append-nil _ ∙ written_bytes buffer t whole h)
          (after {f = filling to (penned (pen buffer 0) t)} some (e ∙ f) (omega arith) (finished over));
    }
one_fill s buffer at m whole some e (part {at = to} {k = k} t h r f w) l ih =
    let on : at < to = subst (λ (g : Fill). at < g.next) (e ∙ f) (gets_on s at buffer some) in
    let more = ih (penned (pen buffer 0) t).page to k (same_length buffer t whole h) w (omega arith) in
    record {
      fills = suc more.fills;
      few = omega (arith, more.few, length-append t (lines_from k s to));
      prints = subst (λ (v : List ℕ). Prints s at buffer (suc more.fills) (v ++ lines_from k s to)) (written_bytes buffer t whole h)
          (after {f = filling to (penned (pen buffer 0) t)} some (e ∙ f) on more.prints);
    }

fields_print : (s : List ℕ) (m : ℕ) → Prints-below s m
unfolding filled penned
fields_print s zero buffer at k whole w i = absurd (omega arith)
fields_print s (suc m) buffer at k whole w i = go (ltb at (length s)) refl (fields_print s m)
  where
    go : (b : Bool) → ltb at (length s) ≡ b → Prints-below s m → Printed s at buffer (lines_from k s at)
    go true b ih =
        let enough = lines_enough (length s - at) k s at (omega arith) w in
        one_fill s buffer at m whole (ltb-true at (length s) b) refl
        (rw enough at (fills_from s buffer whole (length s - at) at [] (omega arith) (omega arith))) i ih
    go false b ih =
        let over = ltb-false at (length s) b in
        rw (lines_over k s at over) (record { fills = 0; few = omega arith; prints = finished over })

-- ---- the theorem

pub fills_are_lines : (s buffer : List ℕ) → length buffer ≡ room → Printed s 0 buffer (lines_text s)
unfolding lines_text
fills_are_lines s buffer whole = fields_print s (suc (length s)) buffer 0 (length s) whole (omega arith) (omega arith)
