-- Field after field: where the next one begins, and that a sheet has no more fields than bytes. Assumes nothing.
use mathlib.Core.Path.{◌≡◌, refl, sym, ◌∙◌}
use mathlib.Core.Bool.{Bool, true, false, cond}
use mathlib.Core.List.{List}
use Prim.Native.Nat.{ℕ, zero, suc, ◌+◌, ◌-◌, ◌≤◌, ◌<◌}
use native.Mathlib.Omega.{arith}
use borrow.Author.Tests.{lt-ltb, le-ltb, ltb-false}
use lib.Dec.{ltb}
use lib.ListN.{length}
use Rattle.walk.specs.Field.{byte_at, length_at}
use Rattle.std.specs.Prelude.{Result, ⊤, Ok, Err}
use Rattle.walk.specs.declared.form.FormError.{FormError}
use Rattle.walk.specs.declared.form.FormError.TheVariants.{BadField}
use Rattle.sheet.specs.declared.field.Placed.{Placed}
use Rattle.sheet.specs.Field.{entry_of, no_field, field_at, is_bad}
use Rattle.sheet.specs.Form.{form_from}

-- a field lies behind its place, its value before the next field, and all of it within the sheet
pub record Within (s : List ℕ) (at : ℕ) (p : Placed) : Type 0 where
  pub past : at < p.next
  pub ordered : p.from ≤ p.next
  pub ends : p.next ≤ length s

pub within : (s : List ℕ) (at : ℕ) → at < length s → Within s at (field_at s at)
unfolding field_at
within s at h = go (ltb (length s) 3) refl (ltb (length s - 3) at) refl (ltb (length s - (at + 3)) (length_at s at)) refl
  where
    none : Within s at (no_field (length s))
    none = record { past = h; ordered = omega arith; ends = omega arith }

    go : (a : Bool) → ltb (length s) 3 ≡ a → (b : Bool) → ltb (length s - 3) at ≡ b → (c : Bool) → ltb (length s - (at + 3)) (length_at s at) ≡ c
        → Within s at (cond a (no_field (length s)) (cond b (no_field (length s)) (cond c (no_field (length s))
        (record { entry = entry_of (byte_at s at) (length_at s at); from = at + 3; next = at + 3 + length_at s at }))))
    go true a b f c g = none
    go false a true f c g = none
    go false a false f true g = none
    go false a false f false g =
        let l3 = ltb-false (length s) 3 a in
        let la = ltb-false (length s - 3) at f in
        let ln = ltb-false (length s - (at + 3)) (length_at s at) g in
        record { past = omega arith; ordered = omega arith; ends = omega arith }

-- the same of a field that was found there
pub past : (s : List ℕ) (at : ℕ) {p : Placed} → p ≡ field_at s at → at < length s → at < p.next
past s at e h = rw e (within s at h).past

pub ordered : (s : List ℕ) (at : ℕ) {p : Placed} → p ≡ field_at s at → at < length s → p.from ≤ p.next
ordered s at e h = rw e (within s at h).ordered

pub ends : (s : List ℕ) (at : ℕ) {p : Placed} → p ≡ field_at s at → at < length s → p.next ≤ length s
ends s at e h = rw e (within s at h).ends

-- enough turns for what is left from a place on, and what they find
abbrev pub Finds : List ℕ → ℕ → Result ⊤ FormError → Type 0
Finds s at f = (k : ℕ) × (length s - at ≤ k) × (form_from k s at ≡ f)

module _ (s : List ℕ) (at : ℕ) (f : Result ⊤ FormError) where
  pub found_next : at < length s → is_bad (field_at s at).entry ≡ false → Finds s at f → Finds s (field_at s at).next f
  unfolding form_from
  found_next h e (zero, l, w) = absurd (omega arith)
  found_next h e (suc k, l, w) =
      let p = within s at h in
      (k, omega (arith, p.past), sym (simp (e, lt-ltb at (length s) h)) ∙ w)

  pub found_bad : at < length s → is_bad (field_at s at).entry ≡ true → Finds s at f → Err (BadField at) ≡ f
  unfolding form_from
  found_bad h e (zero, l, w) = absurd (omega arith)
  found_bad h e (suc k, l, w) = sym (simp (e, lt-ltb at (length s) h)) ∙ w

  pub found_end : length s ≤ at → Finds s at f → (Ok tt) ≡ f
  unfolding form_from
  found_end h (zero, l, w) = w
  found_end h (suc k, l, w) = sym (simp (le-ltb at (length s) h)) ∙ w
