-- 14 names an offset exactly when fields in the tagged form lead up to it and none begins there. Assumes nothing.
use mathlib.Core.Path.{◌≡◌, refl, sym, ap, subst, ◌∙◌}
use mathlib.Core.Bool.{Bool, true, false, cond, true≢false}
use mathlib.Core.List.{List, [], ◌∷◌, ◌++◌, append_assoc, append-nil}
use mathlib.Core.Logic.{◌↔◌}
use Prim.Native.Nat.{ℕ, zero, suc, ◌+◌, ◌≤◌, ◌<◌}
use native.Mathlib.Omega.{arith}
use borrow.Author.Tests.{lt-ltb, le-ltb, ltb-false}
use lib.Dec.{ltb}
use lib.ListN.{length, drop, length-append, length-drop}
use lib.Seq.{drop-append_seam}
use Rattle.walk.specs.Field.{Bytes}
use Rattle.walk.specs.Form.{most}
use Rattle.std.specs.Prelude.{Err}
use Rattle.walk.specs.declared.form.FormError.TheVariants.{BadField, TooLong}
use Rattle.sheet.specs.Field.{field_at, is_bad}
use Rattle.sheet.specs.Form.{form_from, form_of}
use Rattle.sheet.specs.Tagged.{Item, item_bytes, sheet_of}
use Rattle.sheet.proofs.Fields.{within}
use Rattle.sheet.proofs.FirstBad.{Led, first, following, first_bad}
use Rattle.sheet.proofs.GoodForm.{field_item, item_length, never_bad}
use Rattle.sheet.proofs.TaggedRead.{value_bytes, placed_at, tagged_read}

-- some fields, and behind them bytes that begin with no field
pub record LeadsTo (s : List ℕ) (n : ℕ) : Type 0 where
  pub items : List Item
  pub rest : List ℕ
  pub theirs : s ≡ sheet_of items ++ rest
  pub offset : n ≡ length (sheet_of items)
  pub some : 0 < length rest
  pub no_field : (i : Item) (l : List ℕ) → rest ≡ item_bytes i ++ l → ⊥
  pub not_too_long : length s ≤ most

-- ---- what 14 names

sheet_more : (is : List Item) (i : Item) → sheet_of (is ++ (i ∷ [])) ≡ sheet_of is ++ item_bytes i
unfolding sheet_of
sheet_more [] i = append-nil (item_bytes i)
sheet_more (j ∷ is) i = ap (λ (v : List ℕ). item_bytes j ++ v) (sheet_more is i) ∙ sym (append_assoc (item_bytes j) (sheet_of is) (item_bytes i))

-- the fields that lead to a place
record Passed (s : List ℕ) (at : ℕ) : Type 0 where
  items : List Item
  theirs : s ≡ sheet_of items ++ drop at s
  offset : at ≡ length (sheet_of items)

passed : {s : List ℕ} {at : ℕ} → Bytes s → Led s at → Passed s at
unfolding sheet_of
passed bytes first = record { items = []; theirs = refl; offset = refl }
passed {s} bytes (following {at} l h g) =
    let p = passed bytes l in
    let f = field_item s at bytes g in
    let w = within s at h in
    let next = (field_at s at).next in
    let size : length (item_bytes f.item) + at ≡ next =
    omega (arith, ap length f.starts, length-append (item_bytes f.item) (drop next s), length-drop at s, length-drop next s, w.past, w.ends) in
    record {
      items = p.items ++ (f.item ∷ []);
      theirs = rw (sheet_more p.items f.item, append_assoc (sheet_of p.items) (item_bytes f.item) (drop next s), ← f.starts) p.theirs;
      offset = rw (sheet_more p.items f.item) (omega (arith, p.offset, length-append (sheet_of p.items) (item_bytes f.item)));
    }

not_good : (s : List ℕ) (is : List Item) (rest : List ℕ) (i : Item) (l : List ℕ) → s ≡ sheet_of is ++ rest → rest ≡ item_bytes i ++ l
    → is_bad (field_at s (length (sheet_of is))).entry ≡ true → ⊥
not_good s is rest i l e f b =
    true≢false (sym b ∙ rw (e, f, tagged_read i (sheet_of is) l) (never_bad i))

short : (s : List ℕ) (n : ℕ) → form_of s ≡ Err (BadField n) → length s ≤ most
unfolding form_of
short s n e = go (ltb most (length s)) refl e
  where
    go : (t : Bool) → ltb most (length s) ≡ t → cond t (Err TooLong) (form_from (length s) s 0) ≡ Err (BadField n) → length s ≤ most
    go true t e = let z : ◌≡◌ {A = ℕ} 0 1 = cc in absurd (omega arith)
    go false t e = ltb-false most (length s) t

leads : (s : List ℕ) (n : ℕ) → Bytes s → form_of s ≡ Err (BadField n) → LeadsTo s n
leads s n bytes e =
    let f = first_bad s n e in
    let p = passed bytes f.led in
    record {
      items = p.items;
      rest = drop n s;
      theirs = p.theirs;
      offset = p.offset;
      some = omega (arith, length-drop n s, f.within);
      no_field = λ i l r. not_good s p.items (drop n s) i l p.theirs r (rw p.offset at f.bad);
      not_too_long = short s n e;
    }

-- ---- and where it is named

on_behind : (k : ℕ) (front : List ℕ) (i : Item) (l : List ℕ)
    → form_from k (front ++ (item_bytes i ++ l)) (placed_at i (length front)).next ≡ form_from k ((front ++ item_bytes i) ++ l) (length (front ++ item_bytes i))
on_behind k front i l =
    let n : length (front ++ item_bytes i) ≡ length front + 3 + length (value_bytes i) = omega (arith, length-append front (item_bytes i), item_length i) in
    rw (n, append_assoc)

bad_there : (s front rest : List ℕ) → Bytes s → s ≡ front ++ rest → ((i : Item) (l : List ℕ) → rest ≡ item_bytes i ++ l → ⊥)
    → is_bad (field_at s (length front)).entry ≡ true
bad_there s front rest bytes e none = go (is_bad (field_at s (length front)).entry) refl
  where
    go : (b : Bool) → is_bad (field_at s (length front)).entry ≡ b → b ≡ true
    go true g = refl
    go false g =
        let f = field_item s (length front) bytes g in
        let d : drop (length front) s ≡ rest = rw e (drop-append_seam front rest) in
        absurd (none f.item _ (sym d ∙ f.starts))

bad_behind : (k : ℕ) (front : List ℕ) (is : List Item) (rest : List ℕ) → Bytes (front ++ (sheet_of is ++ rest)) → length (sheet_of is) < k → 0 < length rest
    → ((i : Item) (l : List ℕ) → rest ≡ item_bytes i ++ l → ⊥) → form_from k (front ++ (sheet_of is ++ rest)) (length front) ≡ Err (BadField (length front + length (sheet_of is)))
unfolding form_from sheet_of
bad_behind zero front is rest bytes h some none = absurd (omega arith)
bad_behind (suc k) front [] rest bytes h some none =
    let n : length front + 0 ≡ length front = omega arith in
    simp (
      lt-ltb (length front) (length (front ++ rest)) (omega (arith, length-append front rest)),
      bad_there (front ++ rest) front rest bytes refl none,
      n,
    )
bad_behind (suc k) front (i ∷ is) rest bytes h some none =
    let l : List ℕ = sheet_of is ++ rest in
    let s : List ℕ = front ++ (item_bytes i ++ l) in
    let own = length-append (item_bytes i) (sheet_of is) in
    let three = item_length i in
    let same : front ++ ((item_bytes i ++ sheet_of is) ++ rest) ≡ s = ap (λ (v : List ℕ). front ++ v) (append_assoc (item_bytes i) (sheet_of is) rest) in
    let moved : s ≡ (front ++ item_bytes i) ++ l = sym (append_assoc front (item_bytes i) l) in
    let further = bad_behind k (front ++ item_bytes i) is rest (subst Bytes (same ∙ moved) bytes) (omega arith) some none in
    let sum : length (front ++ item_bytes i) + length (sheet_of is) ≡ length front + length (item_bytes i ++ sheet_of is) =
    omega (arith, length-append front (item_bytes i)) in
    rw same
    (simp (
      lt-ltb (length front) (length s) (omega (arith, length-append front (item_bytes i ++ l), length-append (item_bytes i) l)),
      tagged_read i front l,
      never_bad i,
    )
    (on_behind k front i l ∙ further ∙ ap (λ n. Err (BadField n)) sum))

names : (s : List ℕ) (n : ℕ) → Bytes s → LeadsTo s n → form_of s ≡ Err (BadField n)
unfolding form_of
names s n bytes d =
    let long : length (sheet_of d.items) < length s =
    omega (arith, ap length d.theirs, length-append (sheet_of d.items) d.rest, d.some) in
    let found : form_from (length s) s 0 ≡ Err (BadField (0 + length (sheet_of d.items))) =
    subst (λ (v : List ℕ). form_from (length s) v 0 ≡ Err (BadField (0 + length (sheet_of d.items)))) (sym d.theirs)
    (bad_behind (length s) [] d.items d.rest (subst Bytes d.theirs bytes) long d.some d.no_field) in
    let place : 0 + length (sheet_of d.items) ≡ n = omega (arith, d.offset) in
    simp (le-ltb most (length s) d.not_too_long) (found ∙ ap (λ n. Err (BadField n)) place)

pub bad_exactly_when : (s : List ℕ) (n : ℕ) → Bytes s → (form_of s ≡ Err (BadField n)) ↔ LeadsTo s n
bad_exactly_when s n bytes = (leads s n bytes, names s n bytes)
