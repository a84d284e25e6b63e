-- The tally of one transfer more. Assumes nothing.
use mathlib.Core.Path.{◌≡◌, refl, sym, ap, ◌∙◌}
use mathlib.Core.Bool.{Bool, true, false, cond}
use mathlib.Core.List.{List, ◌∷◌}
use Prim.Native.Nat.{ℕ, ◌+◌, ◌≤◌}
use native.Mathlib.Omega.{arith}
use Rattle.laws.specs.AtMost.{at_most}
use Rattle.laws.proofs.AtMost.{at_most_test}
use Rattle.laws.proofs.FirstIs.{Every, none, next}
use Rattle.pairs.specs.declared.Transfer.{Transfer}
use Rattle.pairs.specs.Counts.{tally, greatest, up, raise}
use Rattle.pairs.specs.Recount.{Ends, ends_of, alike, how_many, tally_of}

-- a count that stopped stays where it is
at_most_more : (n room : ℕ) → at_most (n + 1) room ≡ at_most (at_most n room + 1) room
at_most_more n room =
    at_most_test n room (λ (k : ℕ). at_most (n + 1) room ≡ at_most (k + 1) room) (λ h. refl)
    (λ h. full (n + 1) (omega arith) ∙ sym (full (room + 1) (omega arith)))
  where
    full : (m : ℕ) → room ≤ m → at_most m room ≡ room
    full m h = at_most_test m room (λ (k : ℕ). k ≡ room) (λ g. omega arith) (λ g. refl)

up_one : (n : ℕ) → at_most (n + 1) greatest ≡ up (at_most n greatest)
unfolding up
up_one n = at_most_more n greatest

raised_one : (n m : ℕ) (got : Bool)
    → tally (at_most (cond (alike true got) (n + 1) n) greatest) (at_most (cond (alike false got) (m + 1) m) greatest)
    ≡ raise (tally (at_most n greatest) (at_most m greatest)) got
unfolding raise
raised_one n m true = ap (λ (k : ℕ). tally k (at_most m greatest)) (up_one n)
raised_one n m false = ap (λ (k : ℕ). tally (at_most n greatest) k) (up_one m)

module _ (such : Ends → Bool) where
  pub tally_raised : (x : Transfer) (xs : List Transfer) → such (ends_of x) ≡ true
      → tally_of such (x ∷ xs) ≡ raise (tally_of such xs) x.taken
  unfolding tally_of how_many
  tally_raised x xs h = rw h (raised_one (how_many such true xs) (how_many such false xs) x.taken)

  pub tally_kept : (x : Transfer) (xs : List Transfer) → such (ends_of x) ≡ false → tally_of such (x ∷ xs) ≡ tally_of such xs
  unfolding tally_of how_many
  tally_kept x xs h = rw h

  -- it holds of none
  pub tally_none : {xs : List Transfer} → Every (λ y. such (ends_of y) ≡ false) xs → tally_of such xs ≡ tally 0 0
  unfolding tally_of how_many
  tally_none none = refl
  tally_none (next {a = x} {l = xs} h hs) = tally_kept x xs h ∙ tally_none hs
