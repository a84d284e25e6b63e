-- The same for fields as whoever writes a scenario has them: as many lines as items, whatever they are. Assumes nothing.
use mathlib.Core.Path.{◌≡◌, refl, sym, ap, ◌∙◌}
use mathlib.Core.List.{List, [], ◌∷◌, ◌++◌, append_assoc}
use Prim.Native.Nat.{ℕ, zero, suc, ◌+◌, ◌≤◌, ◌<◌}
use native.Mathlib.Omega.{arith}
use borrow.Author.Tests.{lt-ltb, le-ltb}
use lib.ListN.{length, length-append}
use Rattle.walk.specs.Field.{length_at, is_bad}
use Rattle.walk.specs.Form.{most}
use Rattle.walk.specs.Tagged.{Item, item_bytes, scenario_of}
use Rattle.walk.specs.declared.field.Placed.{Placed}
use Rattle.walk.proofs.TaggedRead.{tagged_read, fields_good}
use Rattle.screen.specs.Fields.{fields_from, fields_in, lines_in}
use Rattle.screen.specs.Output.{displayed}
use Rattle.screen.proofs.ALineEachField.{next_behind, a_line_each_field}

-- the next item begins where the field's length says
item_next : (front : List ℕ) (i : Item) (l : List ℕ)
    → length front + 3 + length_at (front ++ (item_bytes i ++ l)) (length front) ≡ length (front ++ item_bytes i)
item_next front i l =
    let e = tagged_read i front l in
    sym (next_behind (front ++ (item_bytes i ++ l)) (length front) (ap (λ (p : Placed). is_bad p.field) e))
    ∙ ap (λ (p : Placed). p.next) e ∙ omega (arith, length-append front (item_bytes i))

items_counted : (k : ℕ) (front : List ℕ) (is : List Item) → length (scenario_of is) ≤ k
    → fields_from k (front ++ scenario_of is) (length front) ≡ length is
unfolding fields_from scenario_of
items_counted zero front [] h = refl
items_counted zero front (i ∷ is) h = absurd (omega (arith, length-append (item_bytes i) (scenario_of is)))
items_counted (suc k) front [] h =
    let n : length (front ++ []) ≤ length front = omega (arith, length-append front []) in
    simp (le-ltb (length front) (length (front ++ [])) n)
items_counted (suc k) front (i ∷ is) h =
    let l : List ℕ = item_bytes i ++ scenario_of is in
    let n = length-append (item_bytes i) (scenario_of is) in
    let some : length front < length (front ++ l) = omega (arith, length-append front l) in
    let rest : fields_from k (front ++ l) (length front + 3 + length_at (front ++ l) (length front)) ≡ length is =
    ap (λ (at : ℕ). fields_from k (front ++ l) at) (item_next front i (scenario_of is))
    ∙ ap (λ (s : List ℕ). fields_from k s (length (front ++ item_bytes i))) (sym (append_assoc front (item_bytes i) (scenario_of is)))
    ∙ items_counted k (front ++ item_bytes i) is (omega arith) in
    rw (lt-ltb (length front) (length (front ++ l)) some, rest)

pub a_line_each_item : (is : List Item) → length (scenario_of is) ≤ most → lines_in (displayed (scenario_of is)) ≡ length is
unfolding fields_in
a_line_each_item is h =
    a_line_each_field (scenario_of is) (fields_good is h) ∙ items_counted (length (scenario_of is)) [] is (omega arith)
