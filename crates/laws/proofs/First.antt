-- A search through a list, one element at a time. Assumes nothing.
use mathlib.Core.Path.{◌≡◌, refl, ap, ◌∙◌}
use mathlib.Core.Bool.{Bool, true, false}
use mathlib.Core.List.{List, [], ◌∷◌}
use Prim.Native.Nat.{ℕ, suc, ◌+◌, ◌≤◌, ◌<◌}
use native.Mathlib.Numerals.{add-one}
use native.Mathlib.Omega.{arith}
use lib.ListN.{length, get_or, take, drop, length-take, drop_of_length-le}
use lib.Seq.{drop-cons, get_or-take}
use Rattle.std.specs.Prelude.{Option, Some, None, cond}
use Rattle.std.specs.List.{position, position_from}
use Rattle.std.proofs.lemmas.Iterator.Adapters.{position_from-zero}
use Rattle.laws.specs.First.{first_from}

-- of the first n elements of l; d stands past the end
module _ {A : Type 0} (test : A → Bool) (l : List A) (n : ℕ) (fits : n ≤ length l) (d : A) (i : ℕ) where
  -- one element is looked at
  looked : i < n → drop i (take n l) ≡ get_or l i d ∷ drop (suc i) (take n l)
  looked h =
      let e : i < length (take n l) = simp length-take (omega arith) in
      drop-cons (take n l) i d e ∙ ap (λ (a : A). a ∷ drop (suc i) (take n l)) (get_or-take n l i d h)

  pub found_here : i < n → test (get_or l i d) ≡ true → first_from test i (drop i (take n l)) ≡ Some i
  unfolding first_from
  found_here h e = rw (looked h, e)

  pub not_here : i < n → test (get_or l i d) ≡ false
      → first_from test i (drop i (take n l)) ≡ first_from test (i + 1) (drop (i + 1) (take n l))
  unfolding first_from
  not_here h e = rw (looked h, e, add-one i)

  pub found_nowhere : n ≤ i → first_from test i (drop i (take n l)) ≡ None
  unfolding first_from
  found_nowhere h =
      let e : length (take n l) ≤ i = simp length-take (omega arith) in
      rw (drop_of_length-le (take n l) e)

-- ---- the library's search is this one

found_position : {A : Type 0} (test : A → Bool) (i : ℕ) (l : List A) → position_from test i l ≡ first_from test i l
unfolding first_from
found_position test i [] = refl
found_position test i (a ∷ l) = ap (λ (f : Option ℕ). cond (test a) (Some i) f) (rw add-one (found_position test (suc i) l))

pub first_position : {A : Type 0} (test : A → Bool) (l : List A) → position test l ≡ first_from test 0 l
first_position test l = position_from-zero test l ∙ found_position test 0 l
