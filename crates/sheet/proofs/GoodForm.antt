-- A sheet has good form exactly when it is a list of fields in the tagged form, of at most 65,536 bytes. Assumes nothing.
use Rattle.std.specs.Prelude.{Option}
use mathlib.Core.Path.{◌≡◌, refl, sym, ap, subst, ◌∙◌}
use mathlib.Core.Bool.{Bool, true, false, cond, true≢false}
use mathlib.Core.List.{List, [], ◌∷◌, ◌++◌, append_assoc}
use mathlib.Core.Logic.{◌↔◌}
use Prim.Native.Nat.{ℕ, zero, suc, ◌+◌, ◌-◌, ◌/◌, ◌%◌, ◌≤◌, ◌<◌}
use native.Mathlib.Numerals.{add-one}
use native.Mathlib.Omega.{arith}
use borrow.Author.Tests.{le-ltb, ltb-true, ltb-false, eqb-true}
use lib.Dec.{eqb, ltb}
use lib.ListN.{length, take, drop, length-append, length-drop, take-append-drop, drop_of_length-le}
use lib.Seq.{drop-cons, drop-drop, length-take-le}
use Rattle.walk.specs.Field.{Bytes, byte_at, pair_at, length_at}
use Rattle.walk.specs.Form.{most}
use Rattle.walk.specs.Tagged.{tagged}
use Rattle.std.specs.Prelude.{Result, ⊤, Ok, Err}
use Rattle.walk.specs.declared.form.FormError.{FormError}
use Rattle.walk.specs.declared.form.FormError.TheVariants.{TooLong}
use Rattle.value.specs.declared.value.DataType.{DataType}
use Rattle.value.specs.declared.value.DataType.TheVariants.{Bcd, Data1c, Data2b, Data2c}
use Rattle.sheet.specs.declared.field.Entry.{Entry}
use Rattle.sheet.specs.declared.field.Placed.{Placed}
use Rattle.sheet.specs.Field.{to_write, entry_of, no_field, field_at, is_bad}
use Rattle.sheet.specs.Form.{form_from, form_of}
use Rattle.sheet.specs.Tagged.{Item, code, block, value, code_tag, value_tag, item_bytes, sheet_of}
use Rattle.sheet.proofs.Fields.{Finds, within, found_next, found_bad}
use Rattle.sheet.proofs.TaggedRead.{entry_for, value_bytes, tagged_read}

-- ---- a tag and a value that are none of the bad ones are some item's

record ItemOf (tag : ℕ) (v : List ℕ) : Type 0 where
  item : Item
  theirs : item_bytes item ≡ tagged tag v

clash : {A : Type 0} → true ≡ false → A
clash e = absurd (true≢false e)

-- the entry where a test is passed, or where it is not
by_test : {A : Type 0} (t : Bool) (x y : Option Entry) → (t ≡ true → is_bad x ≡ false → A) → (t ≡ false → is_bad y ≡ false → A) → is_bad (cond t x y) ≡ false → A
by_test true x y f g e = f refl e
by_test false x y f g e = g refl e

code_item : (t : DataType) (tag : ℕ) (v : List ℕ) → eqb tag (code_tag t) ≡ true → ItemOf tag v
code_item t tag v f = record { item = code t v; theirs = ap (λ (k : ℕ). tagged k v) (sym (eqb-true tag (code_tag t) f)) }

value_item : (t : DataType) (tag : ℕ) (v : List ℕ) → eqb tag (value_tag t) ≡ true → is_bad (to_write t (length v)) ≡ false → ItemOf tag v
value_item t tag v f e = by_test (eqb (length v) 5) _ _ (λ g e. five v (eqb-true (length v) 5 g)) (λ g e. clash e) e
  where
    five : (v : List ℕ) → length v ≡ 5 → ItemOf tag v
    five [] e = absurd (omega arith)
    five (k ∷ []) e = absurd (omega arith)
    five (k ∷ a ∷ []) e = absurd (omega arith)
    five (k ∷ a ∷ b ∷ []) e = absurd (omega arith)
    five (k ∷ a ∷ b ∷ c ∷ []) e = absurd (omega arith)
    five (k ∷ a ∷ b ∷ c ∷ d ∷ []) e =
        record { item = value t k a b c d; theirs = ap (λ (n : ℕ). tagged n (k ∷ a ∷ b ∷ c ∷ d ∷ [])) (sym (eqb-true tag (value_tag t) f)) }
    five (k ∷ a ∷ b ∷ c ∷ d ∷ x ∷ v) e = absurd (omega arith)

entry_item : (tag : ℕ) (v : List ℕ) → is_bad (entry_of tag (length v)) ≡ false → ItemOf tag v
unfolding entry_of
entry_item tag v e =
    by_test (eqb tag 0x01) _ _ (λ f e. code_item Bcd tag v f)
    (λ n e. by_test (eqb tag 0x02) _ _ (λ f e. code_item Data1c tag v f)
    (λ n e. by_test (eqb tag 0x03) _ _ (λ f e. code_item Data2b tag v f)
    (λ n e. by_test (eqb tag 0x04) _ _ (λ f e. code_item Data2c tag v f)
    (λ n e. by_test (eqb tag 0x05) _ _ (λ f e. record { item = block v; theirs = ap (λ (k : ℕ). tagged k v) (sym (eqb-true tag 0x05 f)) })
    (λ n e. by_test (eqb tag 0x11) _ _ (λ f e. value_item Bcd tag v f e)
    (λ n e. by_test (eqb tag 0x12) _ _ (λ f e. value_item Data1c tag v f e)
    (λ n e. by_test (eqb tag 0x13) _ _ (λ f e. value_item Data2b tag v f e)
    (λ n e. by_test (eqb tag 0x14) _ _ (λ f e. value_item Data2c tag v f e)
    (λ n e. clash e) e) e) e) e) e) e) e) e) e

-- ---- a field that is not bad is that item's bytes

first_of : (s : List ℕ) (i j : ℕ) → j ≡ i + 1 → i < length s → drop i s ≡ byte_at s i ∷ drop j s
unfolding byte_at
first_of s i j e h = rw (e, add-one) (drop-cons s i 0 h)

pub record FieldItem (s : List ℕ) (at : ℕ) (p : Placed) : Type 0 where
  pub item : Item
  pub starts : drop at s ≡ item_bytes item ++ drop p.next s

module _ (s : List ℕ) (at : ℕ) (bytes : Bytes s) where
  abbrev n : ℕ
  n = length_at s at

  abbrev whole : Placed
  whole = record { entry = entry_of (byte_at s at) n; from = at + 3; next = at + 3 + n }

  whole_item : at + 3 ≤ length s → n ≤ length s - (at + 3) → is_bad (entry_of (byte_at s at) n) ≡ false → FieldItem s at whole
  unfolding pair_at byte_at
  whole_item h l e =
      let v = take n (drop (at + 3) s) in
      let long : n ≤ length (drop (at + 3) s) = simp length-drop (omega arith) in
      let m : length v ≡ n = length-take-le n (drop (at + 3) s) long in
      let w = entry_item (byte_at s at) v (rw m e) in
      let d : drop at s ≡ byte_at s at ∷ byte_at s (at + 1) ∷ byte_at s (at + 2) ∷ drop (at + 3) s =
      first_of s at (at + 1) refl (omega arith)
      ∙ ap (λ (r : List ℕ). byte_at s at ∷ r) (first_of s (at + 1) (at + 2) (omega arith) (omega arith)
      ∙ ap (λ (r : List ℕ). byte_at s (at + 1) ∷ r) (first_of s (at + 2) (at + 3) (omega arith) (omega arith))) in
      let r : drop (at + 3) s ≡ v ++ drop (at + 3 + n) s =
      sym (take-append-drop n (drop (at + 3) s)) ∙ ap (λ (q : List ℕ). v ++ q) (drop-drop n (at + 3) s) in
      let high : length v / 256 ≡ byte_at s (at + 1) = omega (arith, m, bytes (at + 1), bytes (at + 2)) in
      let low : length v % 256 ≡ byte_at s (at + 2) = omega (arith, m, bytes (at + 1), bytes (at + 2)) in
      record {
        item = w.item;
        starts = rw (w.theirs, high, low) (d ∙ ap (λ (q : List ℕ). byte_at s at ∷ byte_at s (at + 1) ∷ byte_at s (at + 2) ∷ q) r);
      }

  pub field_item : is_bad (field_at s at).entry ≡ false → FieldItem s at (field_at s at)
  unfolding field_at
  field_item e = go (ltb (length s) 3) refl (ltb (length s - 3) at) refl (ltb (length s - (at + 3)) n) refl e
    where
      go : (a : Bool) → ltb (length s) 3 ≡ a → (b : Bool) → ltb (length s - 3) at ≡ b → (c : Bool) → ltb (length s - (at + 3)) n ≡ c
          → is_bad (cond {A = Placed} a (no_field (length s)) (cond b (no_field (length s)) (cond c (no_field (length s)) whole))).entry ≡ false
          → FieldItem s at (cond a (no_field (length s)) (cond b (no_field (length s)) (cond c (no_field (length s)) whole)))
      go true a b f c g e = clash e
      go false a true f c g e = clash e
      go false a false f true g e = clash e
      go false a false f false g e =
          let l3 = ltb-false (length s) 3 a in
          let la = ltb-false (length s - 3) at f in
          whole_item (omega arith) (ltb-false (length s - (at + 3)) n g) e

-- ---- all of them

not_bad : (s : List ℕ) (at : ℕ) → at < length s → Finds s at (Ok tt) → is_bad (field_at s at).entry ≡ false
not_bad s at h w = go (is_bad (field_at s at).entry) refl
  where
    go : (b : Bool) → is_bad (field_at s at).entry ≡ b → b ≡ false
    go true e = let z : ◌≡◌ {A = ℕ} 0 1 = cc (found_bad s at (Ok tt) h e w) in absurd (omega arith)
    go false e = refl

items_from : (k : ℕ) (s : List ℕ) (at : ℕ) → Bytes s → length s - at ≤ k → Finds s at (Ok tt) → (is : List Item) × (drop at s ≡ sheet_of is)
unfolding sheet_of
items_from zero s at bytes h f = let l : length s ≤ at = omega arith in ([], drop_of_length-le s l)
items_from (suc k) s at bytes h f = go (ltb at (length s)) refl (λ j g. items_from k s (field_at s at).next bytes j g)
  where
    go : (t : Bool) → ltb at (length s) ≡ t
        → (length s - (field_at s at).next ≤ k → Finds s (field_at s at).next (Ok tt) → (is : List Item) × (drop (field_at s at).next s ≡ sheet_of is))
        → (is : List Item) × (drop at s ≡ sheet_of is)
    go true t ih =
        let l : at < length s = ltb-true at (length s) t in
        let b = not_bad s at l f in
        let i = field_item s at bytes b in
        let past = (within s at l).past in
        let r = ih (omega arith) (found_next s at (Ok tt) l b f) in
        (i.item ∷ r.0, i.starts ∙ ap (λ (q : List ℕ). item_bytes i.item ++ q) r.1)
    go false t ih = ([], drop_of_length-le s (ltb-false at (length s) t))

-- a good form is not too long, and good from its first field on
record GoodFrom (s : List ℕ) : Type 0 where
  short : length s ≤ most
  finds : Finds s 0 (Ok tt)

good_from : (s : List ℕ) → form_of s ≡ Ok tt → GoodFrom s
unfolding form_of
good_from s e = go (ltb most (length s)) refl e
  where
    go : (t : Bool) → ltb most (length s) ≡ t → cond t (Err TooLong) (form_from (length s) s 0) ≡ Ok tt → GoodFrom s
    go true t e = let z : ◌≡◌ {A = ℕ} 0 1 = cc in absurd (omega arith)
    go false t e = record { short = ltb-false most (length s) t; finds = (length s, omega arith, e) }

-- ---- fields one after the other are read in order, and none of them is bad

pub never_bad : (i : Item) → is_bad (entry_for i) ≡ false
never_bad (code t v) = refl
never_bad (block v) = refl
never_bad (value t kind a b c d) = refl

pub item_length : (i : Item) → length (item_bytes i) ≡ 3 + length (value_bytes i)
item_length (code t v) = omega arith
item_length (block v) = omega arith
item_length (value t kind a b c d) = omega arith

either : (t : Bool) (f : Result ⊤ FormError) → f ≡ Ok tt → cond t f (Ok tt) ≡ Ok tt
either true f e = e
either false f e = refl

on_behind : (k : ℕ) (front : List ℕ) (i : Item) (l : List ℕ) → form_from k ((front ++ item_bytes i) ++ l) (length (front ++ item_bytes i)) ≡ Ok tt
    → form_from k (front ++ (item_bytes i ++ l)) (length front + 3 + length (value_bytes i)) ≡ Ok tt
on_behind k front i l e =
    let n : length (front ++ item_bytes i) ≡ length front + 3 + length (value_bytes i) = omega (arith, length-append front (item_bytes i), item_length i) in
    rw n at (rw append_assoc at e)

in_order : (k : ℕ) (front : List ℕ) (is : List Item) → form_from k (front ++ sheet_of is) (length front) ≡ Ok tt
unfolding form_from sheet_of
in_order zero front is = refl
in_order (suc k) front [] =
    let n : length (front ++ []) ≤ length front = omega (arith, length-append front []) in
    simp (le-ltb (length front) (length (front ++ [])) n)
in_order (suc k) front (i ∷ is) =
    either (ltb (length front) (length (front ++ (item_bytes i ++ sheet_of is)))) _
    (simp (tagged_read i front (sheet_of is), never_bad i) (on_behind k front i (sheet_of is) (in_order k (front ++ item_bytes i) is)))

pub fields_good : (is : List Item) → length (sheet_of is) ≤ most → form_of (sheet_of is) ≡ Ok tt
unfolding form_of
fields_good is h = simp (le-ltb most (length (sheet_of is)) h) (in_order (length (sheet_of is)) [] is)

-- ---- the theorem

-- a list of fields in the tagged form, not too long
pub record Fields (s : List ℕ) : Type 0 where
  pub items : List Item
  pub theirs : s ≡ sheet_of items
  pub not_too_long : length s ≤ most

pub good_exactly_when : (s : List ℕ) → Bytes s → (form_of s ≡ Ok tt) ↔ Fields s
good_exactly_when s bytes = (
  λ e.
      let g = good_from s e in
      let w = items_from (length s) s 0 bytes (omega arith) g.finds in
      record { items = w.0; theirs = w.1; not_too_long = g.short },
  λ f. subst (λ (l : List ℕ). form_of l ≡ Ok tt) (sym f.theirs) (fields_good f.items (subst (λ (l : List ℕ). length l ≤ most) f.theirs f.not_too_long)),
)
