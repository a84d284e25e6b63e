-- Where a table is a recount, its records in use are those of the recount, and no more than 64. Assumes nothing.
use mathlib.Core.Path.{◌≡◌, sym, ◌∙◌}
use mathlib.Core.Bool.{true, false}
use mathlib.Core.List.{List}
use Prim.Native.Nat.{ℕ, ◌≤◌, ◌<◌}
use native.Mathlib.Omega.{arith}
use lib.ListN.{length, length-take}
use Rattle.laws.proofs.AtMost.{at_most_room, at_most_same}
use Rattle.pairs.specs.declared.Counts.{Counts}
use Rattle.pairs.specs.declared.Pair.{Pair}
use Rattle.pairs.specs.declared.Transfer.{Transfer}
use Rattle.pairs.specs.Counts.{records, in_use}
use Rattle.pairs.specs.Recount.{Ends, among, recorded, records_of}
use Rattle.pairs.specs.Table.{find, place_in}
use Rattle.pairs.specs.Tallied.{Tallied}
use Rattle.pairs.proofs.FoundRecord.{place_of, found_within, found_nowhere}

pub in_use_fits : (c : Counts) → in_use c ≤ records
unfolding in_use
in_use_fits c = at_most_room c.used records

recorded_most : (xs : List Transfer) → length (recorded xs) ≤ records
unfolding recorded
recorded_most xs = simp length-take (omega arith)

module _ (t : List Pair) (c : Counts) (xs : List Transfer) (h : Tallied t c xs) where
  pub all_in_use : in_use c ≡ c.used
  unfolding in_use
  all_in_use = at_most_same c.used records (omega (arith, h.used, recorded_most xs))

  pub place_found : (qq zz : ℕ) → place_in t (in_use c) qq zz ≡ find (records_of xs) qq zz
  unfolding place_in
  place_found qq zz = rw (all_in_use, h.recs)

  -- a pair's record is one of those in use, or there is none
  pub found_in_use : (p : Ends) → among p (recorded xs) ≡ true → place_of xs p (recorded xs) < c.used
  found_in_use p e = omega (arith, found_within xs p (recorded xs) e, h.used)

  pub found_past_use : (p : Ends) → among p (recorded xs) ≡ false → place_of xs p (recorded xs) ≡ c.used
  found_past_use p e = found_nowhere xs p (recorded xs) e ∙ sym h.used
