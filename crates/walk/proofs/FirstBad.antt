-- 14 names the offset of the first field that is none: good fields lead up to it, and it is bad. Assumes nothing.
use mathlib.Core.Path.{◌≡◌, refl, subst}
use mathlib.Core.Bool.{Bool, true, false, cond}
use mathlib.Core.List.{List}
use Prim.Native.Nat.{ℕ, zero, suc, ◌<◌}
use native.Mathlib.Omega.{arith}
use borrow.Author.Tests.{ltb-true}
use lib.Dec.{ltb}
use lib.ListN.{length}
use Rattle.std.specs.Prelude.{Ok, Err}
use Rattle.walk.specs.declared.form.FormError.TheVariants.{BadField, TooLong}
use Rattle.walk.specs.Field.{field_at, is_bad}
use Rattle.walk.specs.Form.{most, form_from, form_of}

-- the places that good fields lead to, one after the other from the first
pub data Led (s : List ℕ) : ℕ → Type 0 where
  first : Led s 0
  following : {at : ℕ} → Led s at → at < length s → is_bad (field_at s at).field ≡ false → Led s (field_at s at).next

pub record FirstBad (s : List ℕ) (n : ℕ) : Type 0 where
  pub led : Led s n
  pub within : n < length s
  pub bad : is_bad (field_at s n).field ≡ true

bad_from : (k : ℕ) (s : List ℕ) (at n : ℕ) → Led s at → form_from k s at ≡ Err (BadField n) → FirstBad s n
unfolding form_from
bad_from zero s at n l e = let z : ◌≡◌ {A = ℕ} 0 1 = cc in absurd (omega arith)
bad_from (suc k) s at n l e = go (ltb at (length s)) (is_bad (field_at s at).field) refl refl e (λ d e. bad_from k s (field_at s at).next n d e)
  where
    go : (t u : Bool) → ltb at (length s) ≡ t → is_bad (field_at s at).field ≡ u
        → cond t (cond u (Err (BadField at)) (form_from k s (field_at s at).next)) (Ok tt) ≡ Err (BadField n)
        → (Led s (field_at s at).next → form_from k s (field_at s at).next ≡ Err (BadField n) → FirstBad s n) → FirstBad s n
    go true true f g e ih =
        let i : at ≡ n = cc in
        let w : FirstBad s at = record { led = l; within = ltb-true at (length s) f; bad = g } in
        subst (λ (m : ℕ). FirstBad s m) i w
    go true false f g e ih = ih (following l (ltb-true at (length s) f) g) e
    go false u f g e ih = let z : ◌≡◌ {A = ℕ} 0 1 = cc in absurd (omega arith)

pub first_bad : (s : List ℕ) (n : ℕ) → form_of s ≡ Err (BadField n) → FirstBad s n
unfolding form_of
first_bad s n e = go (ltb most (length s)) e
  where
    go : (t : Bool) → cond t (Err TooLong) (form_from (length s) s 0) ≡ Err (BadField n) → FirstBad s n
    go true e = let z : ◌≡◌ {A = ℕ} 0 1 = cc in absurd (omega arith)
    go false e = bad_from (length s) s 0 n first e
