-- A fill of the buffer, a record at a time. Assumes nothing.
use mathlib.Core.Path.{◌≡◌, refl, sym, ap, ◌∙◌}
use mathlib.Core.Bool.{Bool, true, false, cond}
use mathlib.Core.List.{List}
use Prim.Native.Nat.{ℕ, zero, suc, ◌+◌, ◌-◌, ◌≤◌, ◌<◌}
use native.Mathlib.Omega.{arith}
use borrow.Author.Tests.{lt-ltb, le-ltb}
use lib.Dec.{ltb}
use lib.ListN.{length, take, drop}
use Rattle.scenario.specs.declared.pen.Pen.{Pen}
use Rattle.scenario.specs.Pen.{pen, penned, room}
use Rattle.diary.specs.Fill.{line_room, Fill, filling, filled_from, filled}
use Rattle.diary.specs.Lines.{record_line, size_of}
use Rattle.diary.proofs.Sizes.{size_left, some_there, found_some, found_most}

-- enough turns for what is left from a place on, and where they come to
pub record FillsTo (held : List ℕ) (at : ℕ) (q : Pen) (r : Fill) : Type 0 where
  pub turns : ℕ
  pub enough : length held - at ≤ turns
  pub comes : filled_from turns held at q ≡ r

pub fills_first : (held : List ℕ) (at : ℕ) (buffer : List ℕ) → FillsTo held at (pen buffer 0) (filled held at buffer)
unfolding filled
fills_first held at buffer = record { turns = length held - at; enough = omega arith; comes = refl }

module _ {held : List ℕ} {at : ℕ} {q : Pen} {r : Fill} (f : FillsTo held at q r) where
  -- nothing is left
  pub fills_over : length held ≤ at → filling at q ≡ r
  unfolding filled_from
  fills_over h = go f.turns f.comes
    where
      go : (k : ℕ) → filled_from k held at q ≡ r → filling at q ≡ r
      go zero w = w
      go (suc k) w = sym (simp (le-ltb at (length held) h)) ∙ w

  -- no whole line fits
  pub fills_full : at < length held → room - line_room < q.at → filling at q ≡ r
  unfolding filled_from
  fills_full h l = go f.turns f.comes
    where
      go : (k : ℕ) → filled_from k held at q ≡ r → filling at q ≡ r
      go zero w = w
      go (suc k) w = sym (simp (lt-ltb at (length held) h, lt-ltb (room - line_room) q.at l)) ∙ w

  -- a record more
  pub fills_on : {size : ℕ} {more : Pen} → at < length held → q.at ≤ room - line_room → size ≡ size_of (drop at held)
      → more ≡ penned q (record_line (take size (drop at held))) → FillsTo held (at + size) more r
  unfolding filled_from
  fills_on {size} {more} h l s m = go f.turns f.enough f.comes
    where
      go : (k : ℕ) → length held - at ≤ k → filled_from k held at q ≡ r → FillsTo held (at + size) more r
      go zero i w = absurd (omega arith)
      go (suc k) i w =
          record {
            turns = k;
            enough = omega (arith, s, some_there held at h);
            comes = rw (m, s) (sym (simp (lt-ltb at (length held) h, le-ltb (room - line_room) q.at l)) ∙ w);
          }

  -- the same of what the code finds and cuts
  pub found_on : {size : ℕ} {more : Pen} → at < length held → q.at ≤ room - line_room → size ≡ size_of (take (length held - at) (drop at held))
      → more ≡ penned q (record_line (take (at + size - at) (drop at held))) → FillsTo held (at + size) more r
  found_on {size} h l s m =
      let same : at + size - at ≡ size = omega arith in
      fills_on h l (s ∙ size_left held at) (m ∙ ap (λ (n : ℕ). penned q (record_line (take n (drop at held)))) same)

-- ---- a fill gets on

never_back : (k : ℕ) (held : List ℕ) (at : ℕ) (q : Pen) → at ≤ (filled_from k held at q).next
unfolding filled_from
never_back zero held at q = omega arith
never_back (suc k) held at q =
    go (ltb at (length held)) (ltb (room - line_room) q.at) (never_back k held (at + size) more)
  where
    size : ℕ
    size = size_of (drop at held)

    more : Pen
    more = penned q (record_line (take size (drop at held)))

    go : (t u : Bool) → at + size ≤ (filled_from k held (at + size) more).next
        → at ≤ (cond t (cond u (filling at q) (filled_from k held (at + size) more)) (filling at q)).next
    go true true h = omega arith
    go true false h = omega (arith, h)
    go false u h = omega arith

-- where anything is left, a fill takes a record at least
pub gets_on : (held : List ℕ) (at : ℕ) (buffer : List ℕ) → at < length held → at < (filled held at buffer).next
unfolding filled filled_from
gets_on held at buffer l = go (length held - at) (omega arith)
  where
    size : ℕ
    size = size_of (drop at held)

    go : (k : ℕ) → 0 < k → at < (filled_from k held at (pen buffer 0)).next
    go zero h = absurd (omega arith)
    go (suc k) h =
        simp (lt-ltb at (length held) l)
        (omega (arith, some_there held at l, never_back k held (at + size) (penned (pen buffer 0) (record_line (take size (drop at held))))))

-- for the search
pub ruleset record_filled = (found_some, found_most, fills_first, found_on)
