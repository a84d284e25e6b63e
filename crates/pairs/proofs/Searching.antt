-- A search through records, in any table: nothing behind the place that it comes to matters. Assumes nothing.
use mathlib.Core.Path.{◌≡◌}
use mathlib.Core.Bool.{Bool, true, false, cond}
use mathlib.Core.List.{List, [], ◌∷◌, ◌++◌}
use Prim.Native.Nat.{ℕ, zero, suc, ◌≤◌, ◌<◌}
use native.Mathlib.Omega.{arith}
use lib.ListN.{length, take}
use Rattle.pairs.specs.declared.Pair.{Pair}
use Rattle.pairs.specs.Table.{is_of, find}

module _ (qq zz : ℕ) where
  module _ (p : Pair) (its : is_of p qq zz ≡ true) where
    -- it does not pass the pair's record
    pub stops_within : (front : List Pair) → find (front ++ (p ∷ [])) qq zz ≤ length front
    unfolding find
    stops_within [] = rw its (omega arith)
    stops_within (q ∷ front) = go (is_of q qq zz) (stops_within front)
      where
        go : (t : Bool) → find (front ++ (p ∷ [])) qq zz ≤ length front
            → cond t zero (suc (find (front ++ (p ∷ [])) qq zz)) ≤ suc (length front)
        go true h = omega arith
        go false h = omega arith

    pub stops_there : (n : ℕ) (front rest : List Pair) → length front < n
        → find (take n (front ++ (p ∷ rest))) qq zz ≡ find (front ++ (p ∷ [])) qq zz
    unfolding find
    stops_there zero front rest h = absurd (omega arith)
    stops_there (suc n) [] rest h = rw its
    stops_there (suc n) (q ∷ front) rest h = rw (stops_there n front rest (omega arith))
