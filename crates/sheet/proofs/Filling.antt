-- A fill of the buffer, a field at a time. Assumes nothing.
use mathlib.Core.Path.{◌≡◌, refl, sym, ◌∙◌}
use mathlib.Core.Bool.{Bool, true, false, cond}
use mathlib.Core.List.{List}
use Prim.Native.Nat.{ℕ, zero, suc, ◌-◌, ◌≤◌, ◌<◌}
use native.Mathlib.Omega.{arith}
use borrow.Author.Tests.{lt-ltb, le-ltb, ltb-true}
use lib.Dec.{ltb}
use lib.ListN.{length}
use Rattle.scenario.specs.declared.pen.Pen.{Pen}
use Rattle.scenario.specs.Pen.{pen, penned, room}
use Rattle.sheet.specs.declared.field.Placed.{Placed}
use Rattle.sheet.specs.Field.{field_at}
use Rattle.sheet.specs.Fill.{line_room, Fill, filling, filled_from, filled}
use Rattle.sheet.specs.Lines.{line_at}
use Rattle.sheet.proofs.Fields.{within, past, ordered, ends}

-- enough turns for what is left from a place on, and where they come to
pub record FillsTo (s : List ℕ) (at : ℕ) (q : Pen) (r : Fill) : Type 0 where
  pub turns : ℕ
  pub enough : length s - at ≤ turns
  pub comes : filled_from turns s at q ≡ r

pub fills_first : (s : List ℕ) (at : ℕ) (buffer : List ℕ) → FillsTo s at (pen buffer 0) (filled s at buffer)
unfolding filled
fills_first s at buffer = record { turns = length s - at; enough = omega arith; comes = refl }

module _ {s : List ℕ} {at : ℕ} {q : Pen} {r : Fill} (f : FillsTo s at q r) where
  -- nothing is left
  pub fills_over : length s ≤ at → filling at q ≡ r
  unfolding filled_from
  fills_over h = go f.turns f.comes
    where
      go : (k : ℕ) → filled_from k s at q ≡ r → filling at q ≡ r
      go zero w = w
      go (suc k) w = sym (simp (le-ltb at (length s) h)) ∙ w

  -- no whole line fits
  pub fills_full : at < length s → room - line_room < q.at → filling at q ≡ r
  unfolding filled_from
  fills_full h l = go f.turns f.comes
    where
      go : (k : ℕ) → filled_from k s at q ≡ r → filling at q ≡ r
      go zero w = w
      go (suc k) w = sym (simp (lt-ltb at (length s) h, lt-ltb (room - line_room) q.at l)) ∙ w

  -- a field more
  pub fills_on : {p : Placed} {more : Pen} → at < length s → q.at ≤ room - line_room → p ≡ field_at s at → more ≡ penned q (line_at s p)
      → FillsTo s p.next more r
  unfolding filled_from
  fills_on {p} {more} h l e m = go f.turns f.enough f.comes
    where
      go : (k : ℕ) → length s - at ≤ k → filled_from k s at q ≡ r → FillsTo s p.next more r
      go zero i w = absurd (omega arith)
      go (suc k) i w =
          let past = (within s at h).past in
          record {
            turns = k;
            enough = rw e (omega arith);
            comes = rw (m, e) (sym (simp (lt-ltb at (length s) h, le-ltb (room - line_room) q.at l)) ∙ w);
          }

-- ---- a fill gets on

never_back : (k : ℕ) (s : List ℕ) (at : ℕ) (q : Pen) → at ≤ (filled_from k s at q).next
unfolding filled_from
never_back zero s at q = omega arith
never_back (suc k) s at q = go (ltb at (length s)) refl (ltb (room - line_room) q.at) (never_back k s (field_at s at).next more)
  where
    more : Pen
    more = penned q (line_at s (field_at s at))

    go : (t : Bool) → ltb at (length s) ≡ t → (u : Bool) → (field_at s at).next ≤ (filled_from k s (field_at s at).next more).next
        → at ≤ (cond t (cond u (filling at q) (filled_from k s (field_at s at).next more)) (filling at q)).next
    go true e true h = omega arith
    go true e false h = omega (arith, h, (within s at (ltb-true at (length s) e)).past)
    go false e u h = omega arith

-- where anything is left, a fill takes a field at least
pub gets_on : (s : List ℕ) (at : ℕ) (buffer : List ℕ) → at < length s → at < (filled s at buffer).next
unfolding filled filled_from
gets_on s at buffer l = go (length s - at) (omega arith)
  where
    go : (k : ℕ) → 0 < k → at < (filled_from k s at (pen buffer 0)).next
    go zero h = absurd (omega arith)
    go (suc k) h =
        simp (lt-ltb at (length s) l)
        (omega (arith, (within s at l).past, never_back k s (field_at s at).next (penned (pen buffer 0) (line_at s (field_at s at)))))

-- for the search
pub ruleset field_filled = (past, ordered, ends, fills_first, fills_on)
