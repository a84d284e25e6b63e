-- A scenario has good form exactly when it is a list of fields in the tagged form, of at most 65,536 bytes. Assumes nothing.
use mathlib.Core.Path.{◌≡◌, refl, sym, ap, subst, ◌∙◌}
use mathlib.Core.Bool.{Bool, true, false, cond, true≢false}
use mathlib.Core.List.{List, [], ◌∷◌, ◌++◌}
use mathlib.Core.Logic.{◌↔◌}
use Prim.Native.Nat.{ℕ, zero, suc, ◌+◌, ◌-◌, ◌*◌, ◌/◌, ◌%◌, ◌≤◌, ◌<◌}
use native.Mathlib.Numerals.{add-one}
use native.Mathlib.Omega.{arith}
use borrow.Author.Tests.{ltb-true, ltb-false, eqb-true}
use lib.Dec.{eqb, ltb}
use lib.ListN.{length, get_or, take, drop, length-drop, take-append-drop, drop_of_length-le}
use lib.Seq.{drop-cons, drop-drop, length-take-le}
use Rattle.std.specs.Prelude.{Option, Ok, Err}
use Rattle.walk.specs.declared.field.Field.{Field}
use Rattle.walk.specs.declared.field.Placed.{Placed}
use Rattle.walk.specs.declared.form.FormError.TheVariants.{TooLong}
use Rattle.walk.specs.Field.{Bytes, byte_at, pair_at, length_at, no_field, value_of, field_at, is_bad}
use Rattle.walk.specs.Form.{most, form_from, form_of}
use Rattle.walk.specs.Tagged.{Item, master, slave, reply, queue, run, heard, quiet, tag_of, value_bytes, item_bytes, scenario_of}
use Rattle.walk.proofs.Fields.{Finds, next_past, found_next, found_first, not_bad}
use Rattle.walk.proofs.TaggedRead.{fields_good}

-- ---- a value that is none of the bad ones is some item's

pub record ItemOf (tag : ℕ) (v : List ℕ) : Type 0 where
  pub item : Item
  pub tag_is : tag_of item ≡ tag
  pub value_is : value_bytes item ≡ v

one_byte : (v : List ℕ) → length v ≡ 1 → (x : ℕ) × (v ≡ x ∷ [])
one_byte [] e = absurd (omega arith)
one_byte (x ∷ []) e = (x, refl)
one_byte (x ∷ y ∷ v) e = absurd (omega arith)

three_bytes : (v : List ℕ) → 3 ≤ length v → (a : ℕ) × (b : ℕ) × (c : ℕ) × (w : List ℕ) × (v ≡ a ∷ b ∷ c ∷ w)
three_bytes [] e = absurd (omega arith)
three_bytes (a ∷ []) e = absurd (omega arith)
three_bytes (a ∷ b ∷ []) e = absurd (omega arith)
three_bytes (a ∷ b ∷ c ∷ w) e = (a, b, c, w, refl)

four_bytes : (v : List ℕ) → 4 ≤ length v → (a : ℕ) × (b : ℕ) × (c : ℕ) × (d : ℕ) × (w : List ℕ) × (v ≡ a ∷ b ∷ c ∷ d ∷ w)
four_bytes [] e = absurd (omega arith)
four_bytes (a ∷ []) e = absurd (omega arith)
four_bytes (a ∷ b ∷ []) e = absurd (omega arith)
four_bytes (a ∷ b ∷ c ∷ []) e = absurd (omega arith)
four_bytes (a ∷ b ∷ c ∷ d ∷ w) e = (a, b, c, d, w, refl)

two_bytes : (v : List ℕ) → length v ≡ 2 → (a : ℕ) × (b : ℕ) × (v ≡ a ∷ b ∷ [])
two_bytes [] e = absurd (omega arith)
two_bytes (a ∷ []) e = absurd (omega arith)
two_bytes (a ∷ b ∷ []) e = (a, b, refl)
two_bytes (a ∷ b ∷ c ∷ v) e = absurd (omega arith)

no_byte : (v : List ℕ) → length v ≡ 0 → v ≡ []
no_byte [] e = refl
no_byte (a ∷ v) e = absurd (omega arith)

clash : {A : Type 0} → true ≡ false → A
clash e = absurd (true≢false e)

-- the field where a test is passed, or where it is not
by_test : {A : Type 0} (t : Bool) (x y : Option Field) → (t ≡ true → is_bad x ≡ false → A) → (t ≡ false → is_bad y ≡ false → A) → is_bad (cond t x y) ≡ false → A
by_test true x y f g e = f refl e
by_test false x y f g e = g refl e

value_item : (s : List ℕ) (tag at : ℕ) (v : List ℕ) → Bytes v → is_bad (value_of s tag at (length v)) ≡ false → ItemOf tag v
unfolding value_of
value_item s tag at v small e =
    by_test (eqb tag 0x01) _ _ (λ f e. by_test (eqb (length v) 1) _ _ (λ g e. master_item f g) (λ g e. clash e) e)
    (λ n e. by_test (eqb tag 0x02) _ _ (λ f e. by_test (eqb (length v) 1) _ _ (λ g e. slave_item f g) (λ g e. clash e) e)
    (λ n e. by_test (eqb tag 0x03) _ _ (λ f e. by_test (ltb (length v) 3) _ _ (λ g e. clash e) (λ g e. reply_item f g) e)
    (λ n e. by_test (eqb tag 0x04) _ _ (λ f e. by_test (ltb (length v) 4) _ _ (λ g e. clash e) (λ g e. queue_item f g) e)
    (λ n e. by_test (eqb tag 0x05) _ _ (λ f e. by_test (eqb (length v) 2) _ _ (λ g e. run_item f g) (λ g e. clash e) e)
    (λ n e. by_test (eqb tag 0x06) _ _ (λ f e. by_test (eqb (length v) 1) _ _ (λ g e. heard_item f g) (λ g e. clash e) e)
    (λ n e. by_test (eqb tag 0x07) _ _ (λ f e. by_test (eqb (length v) 0) _ _ (λ g e. quiet_item f g) (λ g e. clash e) e)
    (λ n e. clash e) e) e) e) e) e) e) e
  where
    master_item : eqb tag 0x01 ≡ true → eqb (length v) 1 ≡ true → ItemOf tag v
    master_item f g =
        let w = one_byte v (eqb-true (length v) 1 g) in
        record { item = master w.0; tag_is = sym (eqb-true tag 0x01 f); value_is = sym w.1 }

    slave_item : eqb tag 0x02 ≡ true → eqb (length v) 1 ≡ true → ItemOf tag v
    slave_item f g =
        let w = one_byte v (eqb-true (length v) 1 g) in
        record { item = slave w.0; tag_is = sym (eqb-true tag 0x02 f); value_is = sym w.1 }

    reply_item : eqb tag 0x03 ≡ true → ltb (length v) 3 ≡ false → ItemOf tag v
    reply_item f g =
        let w = three_bytes v (ltb-false (length v) 3 g) in
        record { item = reply w.0 w.1 w.2 w.3; tag_is = sym (eqb-true tag 0x03 f); value_is = sym w.4 }

    queue_item : eqb tag 0x04 ≡ true → ltb (length v) 4 ≡ false → ItemOf tag v
    queue_item f g =
        let w = four_bytes v (ltb-false (length v) 4 g) in
        record { item = queue w.0 w.1 w.2 w.3 w.4; tag_is = sym (eqb-true tag 0x04 f); value_is = sym w.5 }

    run_item : eqb tag 0x05 ≡ true → eqb (length v) 2 ≡ true → ItemOf tag v
    run_item f g =
        let w = two_bytes v (eqb-true (length v) 2 g) in
        let h : w.1 < 256 = subst (λ (l : List ℕ). get_or l 1 0 < 256) w.2 (small 1) in
        let high : (w.0 * 256 + w.1) / 256 ≡ w.0 = omega arith in
        let low : (w.0 * 256 + w.1) % 256 ≡ w.1 = omega arith in
        record { item = run (w.0 * 256 + w.1); tag_is = sym (eqb-true tag 0x05 f); value_is = rw (high, low) (sym w.2) }

    heard_item : eqb tag 0x06 ≡ true → eqb (length v) 1 ≡ true → ItemOf tag v
    heard_item f g =
        let w = one_byte v (eqb-true (length v) 1 g) in
        record { item = heard w.0; tag_is = sym (eqb-true tag 0x06 f); value_is = sym w.1 }

    quiet_item : eqb tag 0x07 ≡ true → eqb (length v) 0 ≡ true → ItemOf tag v
    quiet_item f g = record { item = quiet; tag_is = sym (eqb-true tag 0x07 f); value_is = sym (no_byte v (eqb-true (length v) 0 g)) }

-- ---- a field that is not bad is that item's bytes

taken_bytes : (k : ℕ) (l : List ℕ) → Bytes l → Bytes (take k l)
taken_bytes zero l b i = omega arith
taken_bytes (suc k) [] b i = b i
taken_bytes (suc k) (x ∷ l) b zero = b 0
taken_bytes (suc k) (x ∷ l) b (suc i) = taken_bytes k l (λ j. b (suc j)) i

pub dropped_bytes : (k : ℕ) (l : List ℕ) → Bytes l → Bytes (drop k l)
dropped_bytes zero l b = b
dropped_bytes (suc k) [] b = b
dropped_bytes (suc k) (x ∷ l) b = dropped_bytes k l (λ i. b (suc i))

first_of : (s : List ℕ) (i j : ℕ) → j ≡ i + 1 → i < length s → drop i s ≡ byte_at s i ∷ drop j s
unfolding byte_at
first_of s i j e h = rw (e, add-one) (drop-cons s i 0 h)

pub record FieldItem (s : List ℕ) (at : ℕ) : Type 0 where
  pub item : Item
  pub starts : drop at s ≡ item_bytes item ++ drop (field_at s at).next s
  pub ends : (field_at s at).next ≤ length s

module _ (s : List ℕ) (at : ℕ) (bytes : Bytes s) where
  abbrev n : ℕ
  n = length_at s at

  whole_item : at + 3 ≤ length s → n ≤ length s - (at + 3) → is_bad (value_of s (byte_at s at) (at + 3) n) ≡ false
      → (i : Item) × (drop at s ≡ item_bytes i ++ drop (at + 3 + n) s)
  unfolding pair_at byte_at
  whole_item h l e =
      let v = take n (drop (at + 3) s) in
      let long : n ≤ length (drop (at + 3) s) = simp length-drop (omega arith) in
      let m : length v ≡ n = length-take-le n (drop (at + 3) s) long in
      let small : Bytes v = taken_bytes n (drop (at + 3) s) (dropped_bytes (at + 3) s bytes) in
      let w = value_item s (byte_at s at) (at + 3) v small (rw m e) in
      let d : drop at s ≡ byte_at s at ∷ byte_at s (at + 1) ∷ byte_at s (at + 2) ∷ drop (at + 3) s =
      first_of s at (at + 1) refl (omega arith)
      ∙ ap (λ (r : List ℕ). byte_at s at ∷ r) (first_of s (at + 1) (at + 2) (omega arith) (omega arith)
      ∙ ap (λ (r : List ℕ). byte_at s (at + 1) ∷ r) (first_of s (at + 2) (at + 3) (omega arith) (omega arith))) in
      let r : drop (at + 3) s ≡ v ++ drop (at + 3 + n) s =
      sym (take-append-drop n (drop (at + 3) s)) ∙ ap (λ (q : List ℕ). v ++ q) (drop-drop n (at + 3) s) in
      let high : length v / 256 ≡ byte_at s (at + 1) = omega (arith, m, bytes (at + 1), bytes (at + 2)) in
      let low : length v % 256 ≡ byte_at s (at + 2) = omega (arith, m, bytes (at + 1), bytes (at + 2)) in
      (w.item, rw (w.tag_is, w.value_is, high, low) (d ∙ ap (λ (q : List ℕ). byte_at s at ∷ byte_at s (at + 1) ∷ byte_at s (at + 2) ∷ q) r))

  field_item : is_bad (field_at s at).field ≡ false → FieldItem s at
  unfolding field_at
  field_item e = go (ltb (length s) 3) refl (ltb (length s - 3) at) refl (ltb (length s - (at + 3)) n) refl e
    where
      go : (a : Bool) → ltb (length s) 3 ≡ a → (b : Bool) → ltb (length s - 3) at ≡ b → (c : Bool) → ltb (length s - (at + 3)) n ≡ c
          → is_bad (cond {A = Placed} a (no_field at) (cond b (no_field at) (cond c (no_field at)
          (record { field = value_of s (byte_at s at) (at + 3) n; next = at + 3 + n })))).field ≡ false → FieldItem s at
      go true a b f c g e = clash e
      go false a true f c g e = clash e
      go false a false f true g e = clash e
      go false a false f false g e =
          let l3 = ltb-false (length s) 3 a in
          let la = ltb-false (length s - 3) at f in
          let ln = ltb-false (length s - (at + 3)) n g in
          let w = whole_item (omega arith) ln e in
          record { item = w.0; starts = simp (a, f, g) w.1; ends = simp (a, f, g) (omega arith) }

-- ---- all of them

items_from : (k : ℕ) (s : List ℕ) (at : ℕ) → Bytes s → length s - at ≤ k → Finds s at (Ok tt) → (is : List Item) × (drop at s ≡ scenario_of is)
unfolding scenario_of
items_from zero s at bytes h f = let l : length s ≤ at = omega arith in ([], drop_of_length-le s l)
items_from (suc k) s at bytes h f = go (ltb at (length s)) refl (λ j g. items_from k s (field_at s at).next bytes j g)
  where
    go : (t : Bool) → ltb at (length s) ≡ t
        → (length s - (field_at s at).next ≤ k → Finds s (field_at s at).next (Ok tt) → (is : List Item) × (drop (field_at s at).next s ≡ scenario_of is))
        → (is : List Item) × (drop at s ≡ scenario_of is)
    go true t ih =
        let l : at < length s = ltb-true at (length s) t in
        let b = not_bad s at l f in
        let i = field_item s at bytes b in
        let r = ih (omega (arith, next_past s at b)) (found_next s at (Ok tt) l b f) in
        (i.item ∷ r.0, i.starts ∙ ap (λ (q : List ℕ). item_bytes i.item ++ q) r.1)
    go false t ih = ([], drop_of_length-le s (ltb-false at (length s) t))

short : (s : List ℕ) → form_of s ≡ Ok tt → length s ≤ most
unfolding form_of
short s e = go (ltb most (length s)) refl e
  where
    go : (t : Bool) → ltb most (length s) ≡ t → cond t (Err TooLong) (form_from (length s) s 0) ≡ Ok tt → length s ≤ most
    go true t e = let z : ◌≡◌ {A = ℕ} 0 1 = cc in absurd (omega arith)
    go false t e = ltb-false most (length s) t

-- a list of fields in the tagged form, not too long
pub record Fields (s : List ℕ) : Type 0 where
  pub items : List Item
  pub is_theirs : s ≡ scenario_of items
  pub not_too_long : length s ≤ most

pub good_exactly_when : (s : List ℕ) → Bytes s → (form_of s ≡ Ok tt) ↔ Fields s
good_exactly_when s bytes = (
  λ e. let w = items_from (length s) s 0 bytes (omega arith) (found_first s e) in record { items = w.0; is_theirs = w.1; not_too_long = short s e },
  λ f. subst (λ (l : List ℕ). form_of l ≡ Ok tt) (sym f.is_theirs) (fields_good f.items (subst (λ (l : List ℕ). length l ≤ most) f.is_theirs f.not_too_long)),
)
