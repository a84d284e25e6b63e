-- The records of a recount with one transfer more: that of its pair is raised, or opened, the others are as they were. Assumes nothing.
use mathlib.Core.Path.{◌≡◌, refl, sym, ap, ◌∙◌}
use mathlib.Core.Bool.{Bool, true, false, cond, true≢false, false≢true}
use mathlib.Core.List.{List, [], ◌∷◌, map}
use Prim.Native.Nat.{ℕ, zero, suc}
use lib.ListN.{get_or, set}
use Rattle.laws.proofs.FirstIs.{every_map}
use Rattle.pairs.specs.declared.Pair.{Pair}
use Rattle.pairs.specs.declared.Tally.{Tally}
use Rattle.pairs.specs.declared.Transfer.{Transfer}
use Rattle.pairs.specs.Counts.{raise}
use Rattle.pairs.specs.Recount.{Ends, ends_of, same, among, pairs_of, record_of}
use Rattle.pairs.specs.Table.{pair, blank, is_of, find, raised, opened}
use Rattle.pairs.proofs.DifferentPairs.{Different, nobody, other, Has, has_each}
use Rattle.pairs.proofs.FoundRecord.{place_of}
use Rattle.pairs.proofs.SameEnds.{same_self, same_is}
use Rattle.pairs.proofs.Tallying.{tally_raised, tally_kept, tally_none}

module _ (x : Transfer) (xs : List Transfer) where
  record_raised : (p : Ends) → same p (ends_of x) ≡ true → record_of (x ∷ xs) p ≡ raised (record_of xs p) x.taken
  unfolding record_of raised
  record_raised p h = ap (λ (n : Tally). pair p.source p.destination n) (tally_raised (same p) x xs h)

  record_kept : (p : Ends) → same p (ends_of x) ≡ false → record_of (x ∷ xs) p ≡ record_of xs p
  unfolding record_of
  record_kept p h = ap (λ (n : Tally). pair p.source p.destination n) (tally_kept (same p) x xs h)

  pub records_kept : (ps : List Ends) → among (ends_of x) ps ≡ false → map (record_of (x ∷ xs)) ps ≡ map (record_of xs) ps
  unfolding among
  records_kept [] h = refl
  records_kept (p ∷ ps) h = go (same p (ends_of x)) refl (records_kept ps) h
    where
      go : (t : Bool) → same p (ends_of x) ≡ t
          → (among (ends_of x) ps ≡ false → map (record_of (x ∷ xs)) ps ≡ map (record_of xs) ps)
          → cond t true (among (ends_of x) ps) ≡ false
          → map (record_of (x ∷ xs)) (p ∷ ps) ≡ map (record_of xs) (p ∷ ps)
      go true e on h = absurd (true≢false h)
      go false e on h = rw (record_kept p e, on h)

  abbrev raised_at : List Pair → ℕ → List Pair
  raised_at t at = set t at (raised (get_or t at blank) x.taken)

  pub records_raised : {ps : List Ends} → Different ps → among (ends_of x) ps ≡ true
      → raised_at (map (record_of xs) ps) (place_of xs (ends_of x) ps) ≡ map (record_of (x ∷ xs)) ps
  unfolding among find is_of same record_of
  records_raised nobody h = absurd (false≢true h)
  records_raised (other {p = p} {ps = ps} n d) h = go (same p (ends_of x)) refl (records_raised d) h
    where
      here : same p (ends_of x) ≡ true
          → raised (record_of xs p) x.taken ∷ map (record_of xs) ps ≡ map (record_of (x ∷ xs)) (p ∷ ps)
      here e = rw (record_raised p e, records_kept ps (ap (λ (q : Ends). among q ps) (sym (same_is p (ends_of x) e)) ∙ n))

      go : (t : Bool) → same p (ends_of x) ≡ t
          → (among (ends_of x) ps ≡ true → raised_at (map (record_of xs) ps) (place_of xs (ends_of x) ps) ≡ map (record_of (x ∷ xs)) ps)
          → cond t true (among (ends_of x) ps) ≡ true
          → raised_at (map (record_of xs) (p ∷ ps)) (cond t zero (suc (place_of xs (ends_of x) ps))) ≡ map (record_of (x ∷ xs)) (p ∷ ps)
      go true e on h = here e
      go false e on h = rw (record_kept p e, ← on h)

  -- a pair that is new has no transfer before
  pub record_opened : among (ends_of x) (pairs_of xs) ≡ false → record_of (x ∷ xs) (ends_of x) ≡ opened x
  unfolding record_of opened
  record_opened h =
      ap (λ (n : Tally). pair x.qq x.zz n)
      (tally_raised (same (ends_of x)) x xs (same_self (ends_of x))
      ∙ ap (λ (n : Tally). raise n x.taken) (tally_none (same (ends_of x)) (every_map unlike (has_each xs))))
    where
      unlike : (y : Transfer) → Has (pairs_of xs) y → same (ends_of x) (ends_of y) ≡ false
      unlike y g = go (same (ends_of x) (ends_of y)) refl
        where
          go : (t : Bool) → same (ends_of x) (ends_of y) ≡ t → t ≡ false
          go true e = sym g ∙ ap (λ (q : Ends). among q (pairs_of xs)) (sym (same_is (ends_of x) (ends_of y) e)) ∙ h
          go false e = refl
