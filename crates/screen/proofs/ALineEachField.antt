-- There are as many lines as fields, by a recount of the fields that knows nothing of a bus. A line at a field's call, in code and
-- definition alike, would leave runs without one. Assumes nothing.
use mathlib.Core.Path.{◌≡◌, refl, ap, ◌∙◌}
use mathlib.Core.Bool.{Bool, true, false, cond}
use mathlib.Core.List.{List, [], ◌++◌}
use Prim.Native.Nat.{ℕ, zero, suc, ◌+◌, ◌-◌}
use native.Mathlib.Omega.{arith}
use borrow.Author.Tests.{ltb-true}
use lib.Dec.{ltb}
use lib.ListN.{length}
use Rattle.bus.specs.Bus.{powered_on}
use Rattle.bus.specs.Waiting.{next_of}
use Rattle.bus.specs.declared.bus.Bus.{Bus}
use Rattle.walk.specs.Field.{byte_at, length_at, no_field, value_of, field_at, is_bad}
use Rattle.walk.specs.Form.{form_of}
use Rattle.std.specs.Prelude.{Option}
use Rattle.walk.specs.declared.field.Field.{Field}
use Rattle.std.specs.Prelude.{Ok}
use Rattle.walk.proofs.Fields.{Finds, not_bad, found_next, found_first}
use Rattle.screen.specs.ByFields.{after_field, field_lines, lines_by_fields}
use Rattle.screen.specs.Fields.{fields_from, fields_in, lines_in}
use Rattle.screen.specs.Lines.{line_text}
use Rattle.screen.specs.Output.{displayed}
use Rattle.screen.proofs.LineFeeds.{one_more}
use Rattle.screen.proofs.LinesByFields.{lines_by_fields_lem}

next_as : (a b c : Bool) (at n : ℕ) (f : Option Field)
    → is_bad (cond a (no_field at) (cond b (no_field at) (cond c (no_field at) (record { field = f; next = at + 3 + n })))).field ≡ false
    → (cond a (no_field at) (cond b (no_field at) (cond c (no_field at) (record { field = f; next = at + 3 + n })))).next ≡ at + 3 + n
next_as true b c at n f e = let z : ◌≡◌ {A = ℕ} 0 1 = cc in absurd (omega arith)
next_as false true c at n f e = let z : ◌≡◌ {A = ℕ} 0 1 = cc in absurd (omega arith)
next_as false false true at n f e = let z : ◌≡◌ {A = ℕ} 0 1 = cc in absurd (omega arith)
next_as false false false at n f e = refl

-- the next field begins behind tag, length and value
pub next_behind : (s : List ℕ) (at : ℕ) → is_bad (field_at s at).field ≡ false → (field_at s at).next ≡ at + 3 + length_at s at
unfolding field_at
next_behind s at e =
    next_as (ltb (length s) 3) (ltb (length s - 3) at) (ltb (length s - (at + 3)) (length_at s at)) at (length_at s at) (value_of s (byte_at s at) (at + 3) (length_at s at)) e

lines_from : (k : ℕ) (s : List ℕ) (at : ℕ) (b : Bus) → Finds s at (Ok tt) → lines_in (field_lines k s at b) ≡ fields_from k s at
unfolding field_lines fields_from lines_in
lines_from zero s at b g = refl
lines_from (suc k) s at b g = go (ltb at (length s)) refl (lines_from k s (field_at s at).next c)
  where
    c : Bus
    c = after_field s at b

    rest : List ℕ
    rest = field_lines k s (field_at s at).next c

    go : (t : Bool) → ltb at (length s) ≡ t → (Finds s (field_at s at).next (Ok tt) → lines_in rest ≡ fields_from k s (field_at s at).next)
        → lines_in (cond t (line_text c.slot (next_of c) ++ rest) []) ≡ cond t (suc (fields_from k s (at + 3 + length_at s at))) 0
    go true t ih =
        let l = ltb-true at (length s) t in
        let n = not_bad s at l g in
        one_more c.slot (next_of c) rest ∙ ap suc (ih (found_next s at (Ok tt) l n g) ∙ ap (λ (v : ℕ). fields_from k s v) (next_behind s at n))
    go false t ih = refl

pub a_line_each_field : (s : List ℕ) → form_of s ≡ Ok tt → lines_in (displayed s) ≡ fields_in s
unfolding lines_by_fields fields_in
a_line_each_field s g = ap (λ (t : List ℕ). lines_in t) (lines_by_fields_lem s g) ∙ lines_from (length s) s 0 powered_on (found_first s g)
