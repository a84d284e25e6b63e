-- Field after field: where the next one begins, and that a scenario has no more fields than bytes. Assumes nothing.
use mathlib.Core.Path.{◌≡◌, refl, sym, ◌∙◌}
use mathlib.Core.Bool.{Bool, true, false, cond}
use mathlib.Core.List.{List}
use Prim.Native.Nat.{ℕ, zero, suc, ◌+◌, ◌-◌, ◌≤◌, ◌<◌}
use native.Mathlib.Omega.{arith}
use borrow.Author.Tests.{lt-ltb, le-ltb}
use lib.Dec.{ltb}
use lib.ListN.{length}
use Rattle.std.specs.Prelude.{Option}
use Rattle.walk.specs.declared.field.Field.{Field}
use Rattle.std.specs.Prelude.{Result, ⊤, Ok, Err}
use Rattle.walk.specs.declared.form.FormError.{FormError}
use Rattle.walk.specs.declared.form.FormError.TheVariants.{BadField, TooLong}
use Rattle.walk.specs.Field.{no_field, byte_at, length_at, value_of, field_at, is_bad}
use Rattle.walk.specs.Form.{most, form_from, form_of}

-- a field that is not bad has its tag and its length, three bytes, behind its place
past_as : (a b c : Bool) (at n : ℕ) (f : Option Field)
    → is_bad (cond a (no_field at) (cond b (no_field at) (cond c (no_field at) (record { field = f; next = at + 3 + n })))).field ≡ false
    → at < (cond a (no_field at) (cond b (no_field at) (cond c (no_field at) (record { field = f; next = at + 3 + n })))).next
past_as true b c at n f e = let z : ◌≡◌ {A = ℕ} 0 1 = cc in absurd (omega arith)
past_as false true c at n f e = let z : ◌≡◌ {A = ℕ} 0 1 = cc in absurd (omega arith)
past_as false false true at n f e = let z : ◌≡◌ {A = ℕ} 0 1 = cc in absurd (omega arith)
past_as false false false at n f e = omega arith

-- the next field begins past this one's tag
pub next_past : (s : List ℕ) (at : ℕ) → is_bad (field_at s at).field ≡ false → at < (field_at s at).next
unfolding field_at
next_past s at e =
    past_as (ltb (length s) 3) (ltb (length s - 3) at) (ltb (length s - (at + 3)) (length_at s at)) at (length_at s at) (value_of s (byte_at s at) (at + 3) (length_at s at)) e

-- enough turns for what is left from a place on, and what they find
abbrev pub Finds : List ℕ → ℕ → Result ⊤ FormError → Type 0
Finds s at f = (k : ℕ) × (length s - at ≤ k) × (form_from k s at ≡ f)

pub found_next : (s : List ℕ) (at : ℕ) (f : Result ⊤ FormError) → at < length s → is_bad (field_at s at).field ≡ false → Finds s at f → Finds s (field_at s at).next f
unfolding form_from
found_next s at f h e (zero, l, w) = absurd (omega arith)
found_next s at f h e (suc k, l, w) = (k, omega (arith, next_past s at e), sym (simp (e, lt-ltb at (length s) h)) ∙ w)

pub found_bad : (s : List ℕ) (at : ℕ) (f : Result ⊤ FormError) → at < length s → is_bad (field_at s at).field ≡ true → Finds s at f → Err (BadField at) ≡ f
unfolding form_from
found_bad s at f h e (zero, l, w) = absurd (omega arith)
found_bad s at f h e (suc k, l, w) = sym (simp (e, lt-ltb at (length s) h)) ∙ w

pub found_end : (s : List ℕ) (at : ℕ) (f : Result ⊤ FormError) → length s ≤ at → Finds s at f → (Ok tt) ≡ f
unfolding form_from
found_end s at f h (zero, l, w) = w
found_end s at f h (suc k, l, w) = sym (simp (le-ltb at (length s) h)) ∙ w

-- ---- a scenario of good form

-- the places where a scenario's fields begin
pub data Met : List ℕ → ℕ → Type 0 where
  first : {s : List ℕ} → Met s 0
  following : {s : List ℕ} {at next : ℕ} → Met s at → at < length s → next ≡ (field_at s at).next → Met s next

-- no bad field stands where the rest is good
pub not_bad : (s : List ℕ) (at : ℕ) → at < length s → Finds s at (Ok tt) → is_bad (field_at s at).field ≡ false
not_bad s at h w = go (is_bad (field_at s at).field) refl
  where
    go : (b : Bool) → is_bad (field_at s at).field ≡ b → b ≡ false
    go true e = let z : ◌≡◌ {A = ℕ} 0 1 = cc (found_bad s at (Ok tt) h e w) in absurd (omega arith)
    go false e = refl

pub found_first : (s : List ℕ) → form_of s ≡ Ok tt → Finds s 0 (Ok tt)
unfolding form_of
found_first s e = (length s, omega arith, go (ltb most (length s)) e)
  where
    go : (b : Bool) → cond b (Err TooLong) (form_from (length s) s 0) ≡ Ok tt → form_from (length s) s 0 ≡ Ok tt
    go true e = let z : ◌≡◌ {A = ℕ} 0 1 = cc in absurd (omega arith)
    go false e = e

found_met : {s : List ℕ} {at : ℕ} → form_of s ≡ Ok tt → Met s at → Finds s at (Ok tt)
found_met {s} e first = found_first s e
found_met {s} e (following {at = at} m h f) =
    let w = found_met e m in
    rw f (found_next s at (Ok tt) h (not_bad s at h w) w)

-- in a scenario whose form is good no field is bad
pub good_fields : {s : List ℕ} {at : ℕ} → form_of s ≡ Ok tt → Met s at → at < length s → is_bad (field_at s at).field ≡ false
good_fields {s} {at} e m h = not_bad s at h (found_met e m)
