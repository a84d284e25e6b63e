-- Facts on lists that the kit's library lacks. Assumes nothing.
use mathlib.Core.Path.{◌≡◌, refl, sym, ap, ◌∙◌}
use mathlib.Core.List.{List, [], ◌∷◌, map}
use Prim.Native.Nat.{ℕ, zero, suc, ◌+◌, ◌≤◌, ◌<◌}
use native.Mathlib.Nat.{le_of_suc-le-suc, not-suc-le-zero}
use native.Mathlib.Numerals.{add-one}
use native.Mathlib.Omega.{arith}
use lib.ListN.{length, get_or, take, drop, length-map, length-take}
use lib.Seq.{drop-cons, get_or-take}

-- what owning an array of structs tells is the length of a mapped list
pub length_mapped : (X Y : Type 0) (f : X → Y) (l : List X) (n : ℕ) → length (map f l) ≡ n → length l ≡ n
length_mapped X Y f l n h = sym (length-map l f) ∙ h

-- within the list it does not matter what stands past its end
pub get_d_within : {A : Type 0} (l : List A) (i : ℕ) (d e : A) → i < length l → get_or l i d ≡ get_or l i e
get_d_within [] i d e h = absurd (not-suc-le-zero h)
get_d_within (a ∷ l) zero d e h = refl
get_d_within (a ∷ l) (suc i) d e h = get_d_within l i d e (le_of_suc-le-suc h)

-- what is left of a list, and of the first n of a list
pub left_of : {A : Type 0} (l : List A) (i : ℕ) (d : A) → i < length l → drop i l ≡ get_or l i d ∷ drop (i + 1) l
left_of l i d h = rw add-one (drop-cons l i d h)

pub left_of_first : {A : Type 0} (l : List A) (n i : ℕ) (d : A) → n ≤ length l → i < n
    → drop i (take n l) ≡ get_or l i d ∷ drop (i + 1) (take n l)
left_of_first {A} l n i d f h =
    let e : i < length (take n l) = simp length-take (omega arith) in
    left_of (take n l) i d e ∙ ap (λ (a : A). a ∷ drop (i + 1) (take n l)) (get_or-take n l i d h)
