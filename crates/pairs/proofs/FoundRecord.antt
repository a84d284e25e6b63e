-- Where a pair's record is found among the records of a recount. Assumes nothing.
use mathlib.Core.Path.{◌≡◌, refl, ap}
use mathlib.Core.Bool.{Bool, true, false, cond, true≢false, false≢true}
use mathlib.Core.List.{List, [], ◌∷◌, map}
use Prim.Native.Nat.{ℕ, zero, suc, ◌<◌}
use native.Mathlib.Omega.{arith}
use lib.ListN.{length, get_or}
use Rattle.pairs.specs.declared.Transfer.{Transfer}
use Rattle.pairs.specs.Recount.{Ends, same, among, record_of}
use Rattle.pairs.specs.Table.{is_of, find, blank}
use Rattle.pairs.proofs.SameEnds.{same_is}

module _ (xs : List Transfer) (p : Ends) where
  abbrev pub place_of : List Ends → ℕ
  place_of ps = find (map (record_of xs) ps) p.source p.destination

  pub found_within : (ps : List Ends) → among p ps ≡ true → place_of ps < length ps
  unfolding among find is_of same record_of
  found_within [] h = absurd (false≢true h)
  found_within (q ∷ ps) h = go (same q p) (found_within ps) h
    where
      go : (t : Bool) → (among p ps ≡ true → place_of ps < length ps) → cond t true (among p ps) ≡ true
          → cond t zero (suc (place_of ps)) < suc (length ps)
      go true on h = omega arith
      go false on h = omega (arith, on h)

  pub found_nowhere : (ps : List Ends) → among p ps ≡ false → place_of ps ≡ length ps
  unfolding among find is_of same record_of
  found_nowhere [] h = refl
  found_nowhere (q ∷ ps) h = go (same q p) (found_nowhere ps) h
    where
      go : (t : Bool) → (among p ps ≡ false → place_of ps ≡ length ps) → cond t true (among p ps) ≡ false
          → cond t zero (suc (place_of ps)) ≡ suc (length ps)
      go true on h = absurd (true≢false h)
      go false on h = ap suc (on h)

  pub found_record : (ps : List Ends) → among p ps ≡ true → get_or (map (record_of xs) ps) (place_of ps) blank ≡ record_of xs p
  unfolding among find is_of same record_of
  found_record [] h = absurd (false≢true h)
  found_record (q ∷ ps) h = go (same q p) refl (found_record ps) h
    where
      go : (t : Bool) → same q p ≡ t → (among p ps ≡ true → get_or (map (record_of xs) ps) (place_of ps) blank ≡ record_of xs p)
          → cond t true (among p ps) ≡ true
          → get_or (record_of xs q ∷ map (record_of xs) ps) (cond t zero (suc (place_of ps))) blank ≡ record_of xs p
      go true e on h = ap (record_of xs) (same_is q p e)
      go false e on h = on h
