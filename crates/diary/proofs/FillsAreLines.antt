-- The bytes of all fills, one after the other until no record is left, are the lines of the records. Assumes nothing.
use mathlib.Core.Path.{◌≡◌, refl, sym, ap, subst, ◌∙◌}
use mathlib.Core.Bool.{Bool, true, false}
use mathlib.Core.List.{List, [], ◌∷◌, ◌++◌, append_assoc, append-nil}
use Prim.Native.Nat.{ℕ, zero, suc, ◌+◌, ◌-◌, ◌*◌, ◌≤◌, ◌<◌}
use native.Mathlib.Omega.{arith}
use borrow.Author.Tests.{lt-ltb, le-ltb, ltb-true, ltb-false}
use lib.Dec.{ltb}
use lib.ListN.{length, take, drop, length-append, length-drop}
use lib.Seq.{drop-drop}
use Rattle.laws.proofs.FirstIs.{Every, next}
use Rattle.scenario.specs.declared.pen.Pen.{Pen}
use Rattle.scenario.specs.Pen.{pen, penned, room}
use Rattle.scenario.proofs.Fills.{place_is, written_bytes, same_length}
use Rattle.scenario.proofs.Written.{penned_append}
use Rattle.bus.specs.Events.{Line}
use Rattle.buslog.specs.Latest.{joined}
use Rattle.buslog.specs.Record.{record_of}
use Rattle.buslog.proofs.Formed.{Short28, length_record}
use Rattle.buslog.proofs.Longest.{length_first}
use Rattle.diary.specs.Fill.{line_room, Fill, filling, filled_from, filled, Prints, finished, after}
use Rattle.diary.specs.Lines.{record_line, size_of, lines_text}
use Rattle.diary.specs.Output.{lines_of}
use Rattle.diary.proofs.Filling.{gets_on}
use Rattle.diary.proofs.LinesOfRecords.{size_of_record, first_record, other_records, lines_of_records, line_length}

-- ---- one fill

-- what a fill makes of the text that is still to come: all of it, or as much as leaves no room for a line
data Fills (held buffer : List ℕ) (f : Fill) : List ℕ → Type 0 where
  all : {at : ℕ} (t : List ℕ) → length t ≤ room → length held ≤ at → f ≡ filling at (penned (pen buffer 0) t) → Fills held buffer f t
  part : {at : ℕ} {ls : List Line} (t : List ℕ) → length t ≤ room → room - line_room < length t
      → f ≡ filling at (penned (pen buffer 0) t) → drop at held ≡ joined ls → Every Short28 ls → Fills held buffer f (t ++ lines_of ls)

module _ (held : List ℕ) (at : ℕ) where
  none_left : drop at held ≡ joined [] → length held ≤ at
  unfolding joined
  none_left e = omega (arith, ap length e, length-drop at held)

  some_left : (l : Line) (ls : List Line) → drop at held ≡ joined (l ∷ ls) → at < length held
  some_left l ls e = omega (arith, ap length e, length-drop at held, length_first l ls, length_record l)

  -- the first record, its size, and those behind it
  record_there : (l : Line) (ls : List Line) → drop at held ≡ joined (l ∷ ls) → take (size_of (drop at held)) (drop at held) ≡ record_of l
  unfolding joined
  record_there l ls e = rw e (first_record l (joined ls))

  size_there : (l : Line) (ls : List Line) → drop at held ≡ joined (l ∷ ls) → size_of (drop at held) ≡ length (record_of l)
  unfolding joined
  size_there l ls e = rw e (size_of_record l (joined ls))

  rest_there : (l : Line) (ls : List Line) → drop at held ≡ joined (l ∷ ls) → drop (at + size_of (drop at held)) held ≡ joined ls
  unfolding joined
  rest_there l ls e = sym (drop-drop (size_of (drop at held)) at held) ∙ rw e (other_records l (joined ls))

line_most : (l : Line) → Short28 l → length (record_line (record_of l)) ≤ line_room
line_most l h = omega (arith, line_length (record_of l) (omega (arith, length_record l)))

filled_over : (k : ℕ) (held : List ℕ) (at : ℕ) (q : Pen) → length held ≤ at → filled_from k held at q ≡ filling at q
unfolding filled_from
filled_over zero held at q h = refl
filled_over (suc k) held at q h = simp (le-ltb at (length held) h)

module _ (held buffer : List ℕ) (whole : length buffer ≡ room) where
  fills_from : (k at : ℕ) (ls : List Line) (t : List ℕ) → drop at held ≡ joined ls → Every Short28 ls → length held - at ≤ k → length t ≤ room
      → Fills held buffer (filled_from k held at (penned (pen buffer 0) t)) (t ++ lines_of ls)
  unfolding filled_from lines_of
  fills_from k at [] t e fs h r =
      let over = none_left held at e in
      rw (append-nil t) (all {at = at} t r over (filled_over k held at (penned (pen buffer 0) t) over))
  fills_from zero at (l ∷ ls) t e fs h r = absurd (omega (arith, some_left held at l ls e))
  fills_from (suc k) at (l ∷ ls) t e (next f fs) h r =
      go (ltb (room - line_room) (penned (pen buffer 0) t).at) refl
      (fills_from k (at + size_of (drop at held)) ls (t ++ record_line (record_of l)) (rest_there held at l ls e) fs)
    where
      x : List ℕ
      x = record_line (record_of l)

      some : at < length held
      some = some_left held at l ls e

      place : (penned (pen buffer 0) t).at ≡ length t
      place = place_is buffer t whole r

      go : (u : Bool) → ltb (room - line_room) (penned (pen buffer 0) t).at ≡ u
          → (length held - (at + size_of (drop at held)) ≤ k → length (t ++ x) ≤ room
          → Fills held buffer (filled_from k held (at + size_of (drop at held)) (penned (pen buffer 0) (t ++ x))) ((t ++ x) ++ lines_of ls))
          → Fills held buffer (filled_from (suc k) held at (penned (pen buffer 0) t)) (t ++ (x ++ lines_of ls))
      go true u ih =
          let i = ltb-true (room - line_room) (penned (pen buffer 0) t).at u in
          part {at = at} {ls = l ∷ ls} t r (omega (arith, place)) (simp (lt-ltb at (length held) some, u)) e (next f fs)
      go false u ih =
          let i = ltb-false (room - line_room) (penned (pen buffer 0) t).at u in
          simp (lt-ltb at (length held) some, u, record_there held at l ls e, penned_append (pen buffer 0) t x)
          (rw append_assoc at (ih (omega (arith, size_there held at l ls e, length_record l)) (omega (arith, length-append t x, place, line_most l f))))

-- ---- all fills

-- so many fills, of which each but the last leaves no room for a line, and what they print
pub record Printed (held : List ℕ) (at : ℕ) (buffer x : List ℕ) : Type 0 where
  pub fills : ℕ
  pub few : fills * 65453 ≤ length x + 65453
  pub prints : Prints held at buffer fills x

-- what is printed from a place on, into any buffer, as far as the text is shorter than m
abbrev Prints-below : List ℕ → ℕ → Type 0
Prints-below held m = (buffer : List ℕ) (at : ℕ) (ls : List Line) → length buffer ≡ room → drop at held ≡ joined ls → Every Short28 ls
    → length (lines_of ls) < m → Printed held at buffer (lines_of ls)

one_fill : (held buffer : List ℕ) (at m : ℕ) {f : Fill} {x : List ℕ} → length buffer ≡ room → at < length held → filled held at buffer ≡ f
    → Fills held buffer f x → length x < suc m → Prints-below held m → Printed held at buffer x
one_fill held buffer at m whole some e (all {at = to} t h over f) l ih =
    record {
      fills = 1;
      few = omega arith;
      prints = subst (λ (v : List ℕ). Prints held at buffer 1 v) (append-nil _ ∙ written_bytes buffer t whole h)
          (after {f = filling to (penned (pen buffer 0) t)} some (e ∙ f) (omega arith) (finished over));
    }
one_fill held buffer at m whole some e (part {at = to} {ls = ls} t h r f w fs) l ih =
    let more = ih (penned (pen buffer 0) t).page to ls (same_length buffer t whole h) w fs (omega (arith, length-append t (lines_of ls))) in
    let on : at < to = subst (λ (g : Fill). at < g.next) (e ∙ f) (gets_on held at buffer some) in
    record {
      fills = suc more.fills;
      few = omega (arith, more.few, length-append t (lines_of ls));
      prints = subst (λ (v : List ℕ). Prints held at buffer (suc more.fills) (v ++ lines_of ls)) (written_bytes buffer t whole h)
          (after {f = filling to (penned (pen buffer 0) t)} some (e ∙ f) on more.prints);
    }

records_print : (held : List ℕ) (m : ℕ) → Prints-below held m
unfolding filled lines_of penned
records_print held zero buffer at ls whole w fs i = absurd (omega arith)
records_print held (suc m) buffer at [] whole w fs i =
    record { fills = 0; few = omega arith; prints = finished (none_left held at w) }
records_print held (suc m) buffer at (l ∷ ls) whole w fs i =
    one_fill held buffer at m whole (some_left held at l ls w) refl
    (fills_from held buffer whole (length held - at) at (l ∷ ls) [] w fs (omega arith) (omega arith)) i (records_print held m)

-- ---- the theorem

-- the records of any lines, none longer than 28 bytes: all fills together are the lines of what is held
pub fills_are_lines : (ls : List Line) (buffer : List ℕ) → length buffer ≡ room → Every Short28 ls
    → Printed (joined ls) 0 buffer (lines_text (joined ls))
fills_are_lines ls buffer whole fs =
    rw (lines_of_records ls)
    (records_print (joined ls) (suc (length (lines_of ls))) buffer 0 ls whole refl fs (omega arith))
