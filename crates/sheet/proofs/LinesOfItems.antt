-- The output of a list of fields is a line for each of them, in their order. Assumes nothing.
use mathlib.Core.Path.{◌≡◌, refl, ◌∙◌}
use mathlib.Core.List.{List, [], ◌∷◌, ◌++◌, append_assoc}
use Prim.Native.Nat.{ℕ, zero, suc, ◌+◌, ◌≤◌}
use native.Mathlib.Omega.{arith}
use borrow.Author.Tests.{lt-ltb, le-ltb}
use lib.ListN.{length, length-append}
use Rattle.walk.specs.Form.{most}
use Rattle.sheet.specs.Output.{lines_from, lines_text, values_output}
use Rattle.sheet.specs.Tagged.{Item, item_bytes, sheet_of, item_lines}
use Rattle.sheet.proofs.GoodForm.{item_length, fields_good}
use Rattle.sheet.proofs.TaggedRead.{placed_at, value_bytes, tagged_read, line_behind}

on_behind : (k : ℕ) (front : List ℕ) (i : Item) (l : List ℕ)
    → lines_from k (front ++ (item_bytes i ++ l)) (placed_at i (length front)).next ≡ lines_from k ((front ++ item_bytes i) ++ l) (length (front ++ item_bytes i))
on_behind k front i l =
    let n : length (front ++ item_bytes i) ≡ length front + 3 + length (value_bytes i) = omega (arith, length-append front (item_bytes i), item_length i) in
    rw (n, append_assoc)

lines_behind : (k : ℕ) (front : List ℕ) (is : List Item) → length (sheet_of is) ≤ k → lines_from k (front ++ sheet_of is) (length front) ≡ item_lines is
unfolding lines_from sheet_of item_lines
lines_behind zero front [] h = refl
lines_behind zero front (i ∷ is) h = absurd (omega (arith, length-append (item_bytes i) (sheet_of is), item_length i))
lines_behind (suc k) front [] h =
    let n : length (front ++ []) ≤ length front = omega (arith, length-append front []) in
    simp (le-ltb (length front) (length (front ++ [])) n)
lines_behind (suc k) front (i ∷ is) h =
    let s : List ℕ = front ++ (item_bytes i ++ sheet_of is) in
    let own = length-append (item_bytes i) (sheet_of is) in
    let three = item_length i in
    let further : lines_from k s (placed_at i (length front)).next ≡ item_lines is =
    on_behind k front i (sheet_of is) ∙ lines_behind k (front ++ item_bytes i) is (omega arith) in
    simp (
      tagged_read i front (sheet_of is),
      lt-ltb (length front) (length s) (omega (arith, length-append front (item_bytes i ++ sheet_of is))),
      line_behind i front (sheet_of is),
      further,
    )

-- any list of fields, of at most 65,536 bytes
pub lines_of_items : (is : List Item) → length (sheet_of is) ≤ most → values_output (sheet_of is) ≡ item_lines is
unfolding values_output lines_text
lines_of_items is h = rw (fields_good is h) (lines_behind (length (sheet_of is)) [] is (omega arith))
