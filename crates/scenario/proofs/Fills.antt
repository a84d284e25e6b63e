-- The bytes of all fills, one after the other until it is done, are the output. Assumes nothing.
use mathlib.Core.Path.{◌≡◌, refl, sym, ap, subst, ◌∙◌}
use mathlib.Core.Bool.{Bool, true, false, cond, true≢false}
use mathlib.Core.List.{List, [], ◌∷◌, ◌++◌, append_assoc, append-nil}
use Prim.Native.Nat.{ℕ, zero, suc, ◌+◌, ◌-◌, ◌*◌, ◌≤◌, ◌<◌}
use native.Mathlib.Omega.{arith}
use borrow.Author.Tests.{leb-true, leb-false}
use lib.Dec.{leb}
use lib.ListN.{length, take, drop, length-append, length-drop}
use lib.Seq.{take-append_seam}
use Rattle.laws.proofs.FirstIs.{Every, none, next}
use Rattle.bus.specs.Bus.{powered_on}
use Rattle.bus.specs.declared.bus.Bus.{Bus}
use Rattle.walk.specs.Field.{Bytes}
use Rattle.walk.specs.Form.{form_of}
use Rattle.walk.specs.Moments.{Now, moments, is_passed, without_ends, Gives, last, one}
use Rattle.walk.specs.Walk.{before, to_go}
use Rattle.std.specs.Prelude.{Result, ⊤, Ok, Err}
use Rattle.walk.specs.declared.form.FormError.{FormError}
use Rattle.walk.specs.declared.form.FormError.TheVariants.{BadField, TooLong}
use Rattle.walk.specs.declared.walk.Place.{Place}
use Rattle.walk.proofs.Given.{walk_gives_others}
use Rattle.walk.proofs.Going.{walked_nearer}
use Rattle.scenario.specs.declared.fill.Stage.TheVariants.{Opening, Fields, Done}
use Rattle.scenario.specs.declared.fill.Printing.{Printing}
use Rattle.scenario.specs.Fill.{moment_text, moments_text, printed, started, is_done, Fill, filling, filled_from, filled, Prints, finished, after}
use Rattle.scenario.specs.Lines.{form_text}
use Rattle.scenario.specs.Output.{header, output}
use Rattle.scenario.specs.declared.pen.Pen.{Pen}
use Rattle.scenario.specs.Pen.{pen, penned, room, page_room}
use Rattle.scenario.proofs.Fits.{written_whole, opening_most}
use Rattle.scenario.proofs.OfMoments.{output_of_moments, without_text}
use Rattle.scenario.proofs.Written.{penned_append}

-- what is printed at a moment fits a page
abbrev pub OnPage : Now → Type 0
OnPage n = length (moment_text n.moment n.bus) ≤ page_room

-- ---- one fill

-- what a fill makes of the text that is still to come: all of it, or as much as leaves no room for a page
data Fills (s buffer : List ℕ) (f : Fill) : List ℕ → Type 0 where
  all : {p : Place} {b : Bus} (t : List ℕ) → length t ≤ room → f ≡ filling (printed Done p b) (penned (pen buffer 0) t) → Fills s buffer f t
  part : {p : Place} {b : Bus} {l : List Now} (t : List ℕ) → length t ≤ room → room - page_room < length t
      → f ≡ filling (printed Fields p b) (penned (pen buffer 0) t) → Gives false s b p l → Every OnPage l → Fills s buffer f (t ++ moments_text l)

pub place_is : (buffer t : List ℕ) → length buffer ≡ room → length t ≤ room → (penned (pen buffer 0) t).at ≡ length t
place_is buffer t e h = ap (λ (q : Pen). q.at) (written_whole buffer t e h)

module _ (s buffer : List ℕ) (bytes : Bytes s) (whole : length buffer ≡ room) where
  fills_from : (k : ℕ) {b : Bus} {p : Place} {l : List Now} → Gives false s b p l → (t : List ℕ) → Every OnPage l → to_go p s < k → length t ≤ room
      → Fills s buffer (filled_from k b p s (penned (pen buffer 0) t)) (t ++ moments_text l)
  unfolding filled_from moments_text
  fills_from zero w t f h r = absurd (omega arith)
  fills_from (suc k) {b} {p} (last {n = n} e g) t (next f fs) h r = go (leb (penned (pen buffer 0) t).at (room - page_room)) refl
    where
      x : List ℕ
      x = moment_text n.moment n.bus

      at : (penned (pen buffer 0) t).at ≡ length t
      at = place_is buffer t whole r

      go : (u : Bool) → leb (penned (pen buffer 0) t).at (room - page_room) ≡ u
          → Fills s buffer (filled_from (suc k) b p s (penned (pen buffer 0) t)) (t ++ (x ++ []))
      go true u =
          let i = leb-true (penned (pen buffer 0) t).at (room - page_room) u in
          rw (append-nil x)
          (all {p = n.place} {b = n.bus} (t ++ x) (omega (arith, length-append t x, at)) (simp (u, e, g) (ap (λ (q : Pen). filling (printed Done n.place n.bus) q) (penned_append (pen buffer 0) t x))))
      go false u =
          let i = leb-false (penned (pen buffer 0) t).at (room - page_room) u in
          part {p = p} {b = b} t r (omega (arith, at)) (simp u) (last e g) (next f fs)
  fills_from (suc k) {b} {p} (one {n = n} {l = l} e g w) t (next f fs) h r =
      go (leb (penned (pen buffer 0) t).at (room - page_room)) refl (fills_from k w (t ++ moment_text n.moment n.bus) fs)
    where
      x : List ℕ
      x = moment_text n.moment n.bus

      at : (penned (pen buffer 0) t).at ≡ length t
      at = place_is buffer t whole r

      near : to_go n.place s < to_go p s
      near = rw e at (walked_nearer b p s false bytes (rw e g))

      go : (u : Bool) → leb (penned (pen buffer 0) t).at (room - page_room) ≡ u
          → (to_go n.place s < k → length (t ++ x) ≤ room
          → Fills s buffer (filled_from k n.bus n.place s (penned (pen buffer 0) (t ++ x))) ((t ++ x) ++ moments_text l))
          → Fills s buffer (filled_from (suc k) b p s (penned (pen buffer 0) t)) (t ++ (x ++ moments_text l))
      go true u ih =
          let i = leb-true (penned (pen buffer 0) t).at (room - page_room) u in
          simp (u, e, g, penned_append (pen buffer 0) t x) (rw append_assoc at (ih (omega (arith, near)) (omega (arith, length-append t x, at))))
      go false u ih =
          let i = leb-false (penned (pen buffer 0) t).at (room - page_room) u in
          part {p = p} {b = b} t r (omega (arith, at)) (simp u) (one e g w) (next f fs)

-- ---- all fills

pub written_bytes : (buffer t : List ℕ) → length buffer ≡ room → length t ≤ room
    → take (penned (pen buffer 0) t).at (penned (pen buffer 0) t).page ≡ t
written_bytes buffer t e h = rw (written_whole buffer t e h) (take-append_seam t (drop (length t) buffer))

pub same_length : (buffer t : List ℕ) → length buffer ≡ room → length t ≤ room → length (penned (pen buffer 0) t).page ≡ room
same_length buffer t e h =
    rw (written_whole buffer t e h) (omega (arith, length-append t (drop (length t) buffer), length-drop (length t) buffer))

-- so many fills, of which each but the last leaves no room for a page, and what they print
pub record Printed (s : List ℕ) (g : Printing) (buffer x : List ℕ) : Type 0 where
  pub fills : ℕ
  pub few : fills * 62977 ≤ length x + 62977
  pub prints : Prints s g buffer fills x

-- what is printed from a place on, into any buffer, as far as the text is shorter than m
abbrev Prints-below : List ℕ → ℕ → Type 0
Prints-below s m = (buffer : List ℕ) (b : Bus) (p : Place) (l : List Now) → length buffer ≡ room → Gives false s b p l → Every OnPage l
    → length (moments_text l) < m → Printed s (printed Fields p b) buffer (moments_text l)

one_fill : (s buffer : List ℕ) (g : Printing) (m : ℕ) {f : Fill} {x : List ℕ} → length buffer ≡ room → is_done g.stage ≡ false
    → filled g s buffer ≡ f → Fills s buffer f x → length x < suc m → Prints-below s m → Printed s g buffer x
one_fill s buffer g m whole d e (all {p} {b} t h f) l ih =
    record {
      fills = 1;
      few = omega arith;
      prints = subst (λ (v : List ℕ). Prints s g buffer 1 v) (append-nil _ ∙ written_bytes buffer t whole h)
          (after {f = filling (printed Done p b) (penned (pen buffer 0) t)} d (e ∙ f) (λ n. absurd (true≢false n)) (finished refl));
    }
one_fill s buffer g m whole d e (part {p} {b} {l} t h r f w fs) i ih =
    let more = ih (penned (pen buffer 0) t).page b p l (same_length buffer t whole h) w fs (omega (arith, length-append t (moments_text l))) in
    record {
      fills = suc more.fills;
      few = omega (arith, more.few, length-append t (moments_text l));
      prints = subst (λ (v : List ℕ). Prints s g buffer (suc more.fills) (v ++ moments_text l)) (written_bytes buffer t whole h)
          (after {f = filling (printed Fields p b) (penned (pen buffer 0) t)} d (e ∙ f) (λ n. omega (arith, place_is buffer t whole h)) more.prints);
    }

fields_print : (s : List ℕ) → Bytes s → (m : ℕ) → Prints-below s m
unfolding filled
fields_print s bytes zero buffer b p l whole w fs i = absurd (omega arith)
fields_print s bytes (suc m) buffer b p l whole w fs i =
    one_fill s buffer (printed Fields p b) m whole refl refl
    (fills_from s buffer bytes whole (suc (to_go p s)) w [] fs (omega arith) (omega arith)) i (fields_print s bytes m)

-- ---- the theorem

without_on_page : {l : List Now} → Every OnPage l → Every OnPage (without_ends l)
unfolding without_ends
without_on_page none = none
without_on_page (next {a = n} {l = l} f fs) = go (is_passed n.moment) (without_on_page fs)
  where
    go : (t : Bool) → Every OnPage (without_ends l) → Every OnPage (cond t (without_ends l) (n ∷ without_ends l))
    go true ws = ws
    go false ws = next f ws

-- the first fill has the header, and of a bad form its line and nothing else
opens : (s buffer : List ℕ) → Bytes s → length buffer ≡ room → (f : Result ⊤ FormError) → (f ≡ Ok tt → Every OnPage (moments s)) → form_of s ≡ f
    → Printed s (printed (Opening f) (before 0) powered_on) buffer (output s)
unfolding filled output
opens s buffer bytes whole (Ok tt) fs e =
    let w = walk_gives_others s bytes e in
    let x : header ++ moments_text (without_ends (moments s)) ≡ output s =
    ap (λ (v : List ℕ). header ++ v) (without_text (moments s)) ∙ sym (output_of_moments s e) in
    subst (λ (v : List ℕ). Printed s (printed (Opening (Ok tt)) (before 0) powered_on) buffer v) x
    (one_fill s buffer (printed (Opening (Ok tt)) (before 0) powered_on) (length (header ++ moments_text (without_ends (moments s)))) whole refl refl
    (fills_from s buffer bytes whole (suc (to_go (before 0) s)) w header (without_on_page (fs refl)) (omega arith) (omega arith))
    (omega arith) (fields_print s bytes (length (header ++ moments_text (without_ends (moments s))))))
opens s buffer bytes whole (Err (BadField at)) fs e =
    rw e
    (one_fill s buffer (printed (Opening (Err (BadField at))) (before 0) powered_on) (length (header ++ form_text (Err (BadField at)))) whole refl refl
    (all {p = before 0} {b = powered_on} (header ++ form_text (Err (BadField at))) (omega (arith, opening_most (Err (BadField at)))) refl) (omega arith)
    (fields_print s bytes (length (header ++ form_text (Err (BadField at))))))
opens s buffer bytes whole (Err TooLong) fs e =
    rw e
    (one_fill s buffer (printed (Opening (Err TooLong)) (before 0) powered_on) (length (header ++ form_text (Err TooLong))) whole refl refl
    (all {p = before 0} {b = powered_on} (header ++ form_text (Err TooLong)) (omega (arith, opening_most (Err TooLong))) refl) (omega arith)
    (fields_print s bytes (length (header ++ form_text (Err TooLong)))))

-- for every input whose slots' lines each fit a page
pub fills_print : (s buffer : List ℕ) → Bytes s → length buffer ≡ room → (form_of s ≡ Ok tt → Every OnPage (moments s)) → Printed s (started s) buffer (output s)
unfolding started
fills_print s buffer bytes whole fs = opens s buffer bytes whole (form_of s) fs refl
