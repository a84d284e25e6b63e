-- The pairs of a recount with one transfer more: a pair is known, or new, or comes too late for a record. Assumes nothing.
use mathlib.Core.Path.{◌≡◌, refl, sym, ap, ◌∙◌}
use mathlib.Core.Bool.{Bool, true, false}
use mathlib.Core.List.{List, [], ◌∷◌, ◌++◌}
use Prim.Native.Nat.{◌≤◌, ◌<◌}
use native.Mathlib.Omega.{arith}
use lib.ListN.{length, take, length-append, length-take}
use lib.Seq.{take_all, take-append-le}
use Rattle.laws.proofs.FirstIs.{every_map}
use Rattle.pairs.specs.declared.Transfer.{Transfer}
use Rattle.pairs.specs.Counts.{tally, records}
use Rattle.pairs.specs.Recount.{ends_of, among, pairs_of, recorded, has_none, others_of}
use Rattle.pairs.proofs.DifferentPairs.{Has, has_each}
use Rattle.pairs.proofs.SameEnds.{among_first}
use Rattle.pairs.proofs.Tallying.{tally_none}

-- as long as there is room every pair has a record
all_recorded : (xs : List Transfer) → length (recorded xs) < records → recorded xs ≡ pairs_of xs
unfolding recorded
all_recorded xs l = take_all records (pairs_of xs) (omega (arith, length-take records (pairs_of xs)))

module _ (x : Transfer) (xs : List Transfer) where
  pairs_known : among (ends_of x) (pairs_of xs) ≡ true → pairs_of (x ∷ xs) ≡ pairs_of xs
  unfolding pairs_of
  pairs_known h = rw h

  pairs_new : among (ends_of x) (pairs_of xs) ≡ false → pairs_of (x ∷ xs) ≡ pairs_of xs ++ (ends_of x ∷ [])
  unfolding pairs_of
  pairs_new h = rw h

  -- it has a record
  pub recorded_known : among (ends_of x) (recorded xs) ≡ true → recorded (x ∷ xs) ≡ recorded xs
  unfolding recorded
  recorded_known h = rw (pairs_known (among_first (ends_of x) records (pairs_of xs) h))

  -- there is room for one
  module _ (new : among (ends_of x) (recorded xs) ≡ false) (room : length (recorded xs) < records) where
    pub is_new : among (ends_of x) (pairs_of xs) ≡ false
    is_new = rw (all_recorded xs room) at new

    pub recorded_still : recorded (x ∷ xs) ≡ pairs_of (x ∷ xs)
    unfolding recorded
    recorded_still =
        let few : length (pairs_of xs) < records = omega (arith, ap length (all_recorded xs room)) in
        take_all records (pairs_of (x ∷ xs)) (rw (pairs_new is_new) (simp length-append (omega arith)))

    pub recorded_new : recorded (x ∷ xs) ≡ recorded xs ++ (ends_of x ∷ [])
    recorded_new = rw (recorded_still, all_recorded xs room) (pairs_new is_new)

  -- there are 64 before it
  pub recorded_full : records ≤ length (recorded xs) → recorded (x ∷ xs) ≡ recorded xs
  unfolding recorded
  recorded_full l = go (among (ends_of x) (pairs_of xs)) refl
    where
      go : (t : Bool) → among (ends_of x) (pairs_of xs) ≡ t → take records (pairs_of (x ∷ xs)) ≡ take records (pairs_of xs)
      go true e = rw (pairs_known e)
      go false e =
          rw (pairs_new e)
          (take-append-le records (pairs_of xs) (ends_of x ∷ []) (omega (arith, length-take records (pairs_of xs))))

-- where every pair has a record there are no others
no_others : (xs : List Transfer) → recorded xs ≡ pairs_of xs → others_of xs ≡ tally 0 0
unfolding others_of
no_others xs h = tally_none (has_none (recorded xs)) (every_map has (has_each xs))
  where
    has : (y : Transfer) → Has (pairs_of xs) y → has_none (recorded xs) (ends_of y) ≡ false
    has y g = rw (h, g)

pub others_still : (x : Transfer) (xs : List Transfer) → among (ends_of x) (recorded xs) ≡ false → length (recorded xs) < records
    → others_of xs ≡ others_of (x ∷ xs)
others_still x xs new room = no_others xs (all_recorded xs room) ∙ sym (no_others (x ∷ xs) (recorded_still x xs new room))
