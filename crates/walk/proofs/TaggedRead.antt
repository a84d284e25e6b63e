-- Every field written in the tagged form is read as that field, whatever stands before and behind it; and a scenario of fields one
-- after the other has good form. Assumes nothing.
use mathlib.Core.Path.{◌≡◌, refl, ap, ◌∙◌}
use mathlib.Core.Bool.{Bool, true, false, cond}
use mathlib.Core.List.{List, [], ◌∷◌, ◌++◌, append_assoc}
use Prim.Native.Nat.{ℕ, zero, suc, ◌+◌, ◌-◌, ◌*◌, ◌/◌, ◌%◌, ◌≤◌, ◌<◌}
use native.Mathlib.Omega.{arith}
use borrow.Author.Tests.{le-ltb, le-leb}
use lib.Dec.{ltb}
use lib.ListN.{length, get_or, drop, length-append}
use lib.Seq.{get_or-append-add, drop-append-add, drop-append_seam, take-append_seam}
use Rattle.std.specs.Prelude.{Result, ⊤, Ok}
use Rattle.walk.specs.declared.form.FormError.{FormError}
use Rattle.walk.specs.Apply.{bytes_from}
use Rattle.walk.specs.Field.{byte_at, pair_at, length_at, value_of, field_at}
use Rattle.walk.specs.Form.{most, form_from, form_of}
use Rattle.walk.specs.Tagged.{Item, master, slave, reply, queue, run, heard, quiet, value_bytes, tagged, item_bytes, scenario_of, placed_at}

-- a byte behind the front
byte_behind : (front l : List ℕ) (i j : ℕ) → j ≡ length front + i → byte_at (front ++ l) j ≡ get_or l i 0
unfolding byte_at
byte_behind front l i j e = ap (λ (k : ℕ). get_or (front ++ l) k 0) e ∙ get_or-append-add front l i 0

module _ (front v rest : List ℕ) (tag : ℕ) where
  whole : List ℕ
  whole = front ++ (tagged tag v ++ rest)

  abbrev at : ℕ
  at = length front

  whole_length : length whole ≡ at + (3 + (length v + length rest))
  unfolding whole
  whole_length = omega (arith, length-append front (tagged tag v ++ rest), length-append v rest)

  length_read : length_at whole at ≡ length v
  unfolding whole pair_at
  length_read =
      ap (λ (h : ℕ). h * 256 + byte_at whole (at + 2)) (byte_behind front (tagged tag v ++ rest) 1 (at + 1) refl)
      ∙ ap (λ (l : ℕ). length v / 256 * 256 + l) (byte_behind front (tagged tag v ++ rest) 2 (at + 2) refl)
      ∙ omega arith

  tag_read : byte_at whole at ≡ tag
  unfolding whole
  tag_read = byte_behind front (tagged tag v ++ rest) 0 at (omega arith)

  placed_read : field_at whole at ≡ record { field = value_of whole tag (at + 3) (length v); next = at + 3 + length v }
  unfolding field_at
  placed_read =
      let n = whole_length in
      simp (
        length_read,
        tag_read,
        le-ltb (length whole) 3 (omega arith),
        le-ltb (length whole - 3) at (omega arith),
        le-ltb (length whole - (at + 3)) (length v) (omega arith),
      )

  -- a byte of the value
  value_read : (i j : ℕ) → j ≡ at + 3 + i → i < length v → byte_at whole j ≡ get_or (v ++ rest) i 0
  unfolding whole
  value_read i j e h = byte_behind front (tagged tag v ++ rest) (3 + i) j (omega arith) ∙ behind i
    where
      behind : (i : ℕ) → get_or (tagged tag v ++ rest) (3 + i) 0 ≡ get_or (v ++ rest) i 0
      behind i = get_or-append-add (tag ∷ length v / 256 ∷ length v % 256 ∷ []) (v ++ rest) i 0

-- the field is read as it was written
pub tagged_read : (i : Item) (front rest : List ℕ) → field_at (front ++ (item_bytes i ++ rest)) (length front) ≡ placed_at i (length front)
unfolding whole value_of pair_at
tagged_read (master a) front rest =
    let v = a ∷ [] in
    placed_read front v rest 0x01 ∙ simp (value_read front v rest 0x01 0 (length front + 3) (omega arith) (omega arith))
tagged_read (slave a) front rest =
    let v = a ∷ [] in
    placed_read front v rest 0x02 ∙ simp (value_read front v rest 0x02 0 (length front + 3) (omega arith) (omega arith))
tagged_read (reply a p q ds) front rest =
    let v = a ∷ p ∷ q ∷ ds in
    placed_read front v rest 0x03
    ∙ simp (
      le-ltb (length v) 3 (omega arith),
      value_read front v rest 0x03 0 (length front + 3) (omega arith) (omega arith),
      value_read front v rest 0x03 1 (length front + 3 + 1) (omega arith) (omega arith),
      value_read front v rest 0x03 2 (length front + 3 + 2) (omega arith) (omega arith),
    )
tagged_read (queue q z p r ds) front rest =
    let v = q ∷ z ∷ p ∷ r ∷ ds in
    placed_read front v rest 0x04
    ∙ simp (
      le-ltb (length v) 4 (omega arith),
      value_read front v rest 0x04 0 (length front + 3) (omega arith) (omega arith),
      value_read front v rest 0x04 1 (length front + 3 + 1) (omega arith) (omega arith),
      value_read front v rest 0x04 2 (length front + 3 + 2) (omega arith) (omega arith),
      value_read front v rest 0x04 3 (length front + 3 + 3) (omega arith) (omega arith),
    )
tagged_read (run n) front rest =
    let v = n / 256 ∷ n % 256 ∷ [] in
    let e : n / 256 * 256 + n % 256 ≡ n = omega arith in
    placed_read front v rest 0x05
    ∙ simp (
      value_read front v rest 0x05 0 (length front + 3) (omega arith) (omega arith),
      value_read front v rest 0x05 1 (length front + 3 + 1) (omega arith) (omega arith),
      e,
    )
tagged_read (heard x) front rest =
    let v = x ∷ [] in
    placed_read front v rest 0x06 ∙ simp (value_read front v rest 0x06 0 (length front + 3) (omega arith) (omega arith))
tagged_read quiet front rest = placed_read front [] rest 0x07

-- and so are the data of a reply and of a telegram
data_behind : (front head ds rest : List ℕ) (from to : ℕ) → from ≡ length front + length head → to ≡ from + length ds
    → bytes_from (front ++ (head ++ (ds ++ rest))) from to ≡ ds
unfolding bytes_from
data_behind front head ds rest from to e f =
    let s : List ℕ = front ++ (head ++ (ds ++ rest)) in
    let n : length s ≡ length front + (length head + (length ds + length rest)) =
    omega (arith, length-append front (head ++ (ds ++ rest)), length-append head (ds ++ rest), length-append ds rest) in
    let d : drop from s ≡ ds ++ rest =
    ap (λ (k : ℕ). drop k s) e ∙ drop-append-add front (head ++ (ds ++ rest)) (length head) ∙ drop-append_seam head (ds ++ rest) in
    let k : to - from ≡ length ds = omega arith in
    simp (le-leb to (length s) (omega arith), le-leb from to (omega arith), d, k, take-append_seam ds rest)

pub reply_data_read : (a p q : ℕ) (ds front rest : List ℕ)
    → bytes_from (front ++ (item_bytes (reply a p q ds) ++ rest)) (length front + 3 + 3) (placed_at (reply a p q ds) (length front)).next ≡ ds
reply_data_read a p q ds front rest =
    let v = a ∷ p ∷ q ∷ ds in
    data_behind front (0x03 ∷ length v / 256 ∷ length v % 256 ∷ a ∷ p ∷ q ∷ []) ds rest _ _ (omega arith) (omega arith)

pub queue_data_read : (q z p r : ℕ) (ds front rest : List ℕ)
    → bytes_from (front ++ (item_bytes (queue q z p r ds) ++ rest)) (length front + 3 + 4) (placed_at (queue q z p r ds) (length front)).next ≡ ds
queue_data_read q z p r ds front rest =
    let v = q ∷ z ∷ p ∷ r ∷ ds in
    data_behind front (0x04 ∷ length v / 256 ∷ length v % 256 ∷ q ∷ z ∷ p ∷ r ∷ []) ds rest _ _ (omega arith) (omega arith)

-- ---- fields one after the other are read in order, and none of them is bad

either : (t : Bool) (f : Result ⊤ FormError) → f ≡ Ok tt → cond t f (Ok tt) ≡ Ok tt
either true f e = e
either false f e = refl

on_behind : (k : ℕ) (front : List ℕ) (i : Item) (l : List ℕ) → form_from k ((front ++ item_bytes i) ++ l) (length (front ++ item_bytes i)) ≡ Ok tt
    → form_from k (front ++ (item_bytes i ++ l)) (length front + 3 + length (value_bytes i)) ≡ Ok tt
on_behind k front i l e =
    let n : length (front ++ item_bytes i) ≡ length front + 3 + length (value_bytes i) = omega (arith, length-append front (item_bytes i)) in
    rw n at (rw append_assoc at e)

in_order : (k : ℕ) (front : List ℕ) (is : List Item) → form_from k (front ++ scenario_of is) (length front) ≡ Ok tt
unfolding form_from scenario_of
in_order zero front is = refl
in_order (suc k) front [] =
    let n : length (front ++ []) ≤ length front = omega (arith, length-append front []) in
    simp (le-ltb (length front) (length (front ++ [])) n)
in_order (suc k) front (i ∷ is) =
    either (ltb (length front) (length (front ++ (item_bytes i ++ scenario_of is)))) _
    (simp (tagged_read i front (scenario_of is)) (on_behind k front i (scenario_of is) (in_order k (front ++ item_bytes i) is)))

-- so a scenario of fields, of at most 65,536 bytes, has good form
pub fields_good : (is : List Item) → length (scenario_of is) ≤ most → form_of (scenario_of is) ≡ Ok tt
unfolding form_of
fields_good is h = simp (le-ltb most (length (scenario_of is)) h) (in_order (length (scenario_of is)) [] is)
