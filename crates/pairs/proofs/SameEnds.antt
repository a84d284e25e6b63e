-- Pairs that are the same, and pairs among others. Assumes nothing.
use mathlib.Core.Path.{◌≡◌, refl}
use mathlib.Core.Bool.{Bool, true, false, cond, false≢true}
use mathlib.Core.List.{List, [], ◌∷◌, ◌++◌}
use Prim.Native.Nat.{ℕ, zero, suc}
use borrow.Author.Tests.{eq-eqb, eqb-true}
use lib.Dec.{eqb}
use lib.ListN.{take}
use Rattle.pairs.specs.Recount.{Ends, ends, same, among}

pub same_self : (p : Ends) → same p p ≡ true
unfolding same
same_self p = rw (eq-eqb p.source p.source refl, eq-eqb p.destination p.destination refl)

ends_same : (a b c d : ℕ) → a ≡ c → b ≡ d → ends a b ≡ ends c d
ends_same a b c d e f = cc

pub same_is : (p q : Ends) → same p q ≡ true → p ≡ q
unfolding same
same_is p q h = go (eqb p.source q.source) (eqb p.destination q.destination) refl refl h
  where
    go : (s d : Bool) → eqb p.source q.source ≡ s → eqb p.destination q.destination ≡ d → cond s d false ≡ true → p ≡ q
    go true true e f h =
        ends_same p.source p.destination q.source q.destination
        (eqb-true p.source q.source e)
        (eqb-true p.destination q.destination f)
    go true false e f h = absurd (false≢true h)
    go false d e f h = absurd (false≢true h)

-- one pair more
pub among_more : (p q : Ends) (ps : List Ends) → among p (ps ++ (q ∷ [])) ≡ cond (among p ps) true (same q p)
unfolding among
among_more p q [] = go (same q p)
  where
    go : (t : Bool) → cond t true false ≡ t
    go true = refl
    go false = refl
among_more p q (r ∷ ps) = go (same r p) (among_more p q ps)
  where
    go : (t : Bool) → among p (ps ++ (q ∷ [])) ≡ cond (among p ps) true (same q p)
        → cond t true (among p (ps ++ (q ∷ []))) ≡ cond (cond t true (among p ps)) true (same q p)
    go true e = refl
    go false e = e

-- what is among the first of them is among them
pub among_first : (p : Ends) (n : ℕ) (ps : List Ends) → among p (take n ps) ≡ true → among p ps ≡ true
unfolding among
among_first p zero ps h = absurd (false≢true h)
among_first p (suc n) [] h = h
among_first p (suc n) (q ∷ ps) h = go (same q p) (among_first p n ps) h
  where
    go : (t : Bool) → (among p (take n ps) ≡ true → among p ps ≡ true) → cond t true (among p (take n ps)) ≡ true
        → cond t true (among p ps) ≡ true
    go true on h = refl
    go false on h = on h
