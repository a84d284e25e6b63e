-- The pairs of a recount are different, and every transfer's pair is one of them. Assumes nothing.
use mathlib.Core.Path.{◌≡◌, refl, sym, ◌∙◌}
use mathlib.Core.Bool.{Bool, true, false, cond, true≢false}
use mathlib.Core.List.{List, [], ◌∷◌, ◌++◌}
use Prim.Native.Nat.{ℕ, zero, suc}
use lib.ListN.{take}
use Rattle.laws.proofs.FirstIs.{Every, none, next, every_map}
use Rattle.pairs.specs.declared.Transfer.{Transfer}
use Rattle.pairs.specs.Counts.{records}
use Rattle.pairs.specs.Recount.{Ends, ends_of, same, among, pairs_of, recorded}
use Rattle.pairs.proofs.SameEnds.{same_self, same_is, among_more, among_first}

-- no pair stands there twice
pub data Different : List Ends → Type 0 where
  nobody : Different []
  other : {p : Ends} {ps : List Ends} → among p ps ≡ false → Different ps → Different (p ∷ ps)

-- where it is not among all it is not among the first
among_not_first : (p : Ends) (n : ℕ) (ps : List Ends) → among p ps ≡ false → among p (take n ps) ≡ false
among_not_first p n ps h = go (among p (take n ps)) (among_first p n ps)
  where
    go : (t : Bool) → (t ≡ true → among p ps ≡ true) → t ≡ false
    go true on = sym (on refl) ∙ h
    go false on = refl

different_first : (n : ℕ) (ps : List Ends) → Different ps → Different (take n ps)
different_first zero ps d = nobody
different_first (suc n) [] d = nobody
different_first (suc n) (p ∷ ps) (other h d) = other (among_not_first p n ps h) (different_first n ps d)

different_more : (p : Ends) {ps : List Ends} → among p ps ≡ false → Different ps → Different (ps ++ (p ∷ []))
unfolding among
different_more p h nobody = other refl nobody
different_more p h (other {p = q} {ps = ps} g d) = other (new (same q p) refl h) (different_more p (behind (same q p) h) d)
  where
    behind : (t : Bool) → cond t true (among p ps) ≡ false → among p ps ≡ false
    behind true h = absurd (true≢false h)
    behind false h = h

    new : (t : Bool) → same q p ≡ t → cond t true (among p ps) ≡ false → among q (ps ++ (p ∷ [])) ≡ false
    new true e h = absurd (true≢false h)
    new false e h = among_more q p ps ∙ rw g (apart (same p q) refl)
      where
        apart : (u : Bool) → same p q ≡ u → u ≡ false
        apart true i = rw (same_is p q i, same_self q) at e
        apart false i = refl

pairs_different : (xs : List Transfer) → Different (pairs_of xs)
unfolding pairs_of
pairs_different [] = nobody
pairs_different (x ∷ back) = go (among (ends_of x) (pairs_of back)) refl (pairs_different back)
  where
    go : (t : Bool) → among (ends_of x) (pairs_of back) ≡ t → Different (pairs_of back)
        → Different (cond t (pairs_of back) (pairs_of back ++ (ends_of x ∷ [])))
    go true e d = d
    go false e d = different_more (ends_of x) e d

pub recorded_different : (xs : List Transfer) → Different (recorded xs)
unfolding recorded
recorded_different xs = different_first records (pairs_of xs) (pairs_different xs)

abbrev pub Has : List Ends → Transfer → Type 0
Has ps x = among (ends_of x) ps ≡ true

has_more : (q : Ends) (ps : List Ends) (x : Transfer) → Has ps x → Has (ps ++ (q ∷ [])) x
has_more q ps x h = among_more (ends_of x) q ps ∙ rw h

-- every transfer's pair is among them
pub has_each : (xs : List Transfer) → Every (Has (pairs_of xs)) xs
unfolding pairs_of
has_each [] = none
has_each (x ∷ back) = go (among (ends_of x) (pairs_of back)) refl (has_each back)
  where
    go : (t : Bool) → among (ends_of x) (pairs_of back) ≡ t → Every (Has (pairs_of back)) back
        → Every (Has (cond t (pairs_of back) (pairs_of back ++ (ends_of x ∷ [])))) (x ∷ back)
    go true e h = next e h
    go false e h =
        next
        (among_more (ends_of x) (ends_of x) (pairs_of back) ∙ rw (e, same_self (ends_of x)))
        (every_map (has_more (ends_of x) (pairs_of back)) h)
