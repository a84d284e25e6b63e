-- A table that is a recount stays one, slot by slot. Assumes nothing.
use mathlib.Core.Path.{◌≡◌, refl}
use mathlib.Core.Bool.{Bool, true, false, cond}
use mathlib.Core.List.{List, [], ◌∷◌}
use Prim.Native.Nat.{ℕ, ◌+◌}
use borrow.Author.Tests.{eq-eqb}
use lib.Dec.{ltb}
use lib.ListN.{length}
use Rattle.pairs.specs.declared.Counts.{Counts}
use Rattle.std.specs.Prelude.{Option, Some, None, is_ok}
use Rattle.pairs.specs.declared.Pair.{Pair}
use Rattle.pairs.specs.declared.Tally.{Tally}
use Rattle.pairs.specs.declared.Transfer.{Transfer}
use Rattle.pairs.specs.declared.UnderWay.{UnderWay}
use Rattle.pairs.specs.Counts.{counts, records, raise, in_use, uncounted}
use Rattle.pairs.specs.Hear.{heard}
use Rattle.pairs.specs.Recount.{pairs_of, recorded, records_of, how_many, tally_of, others_of}
use Rattle.pairs.specs.Table.{settled, counts_after, counted_one, counted_as, count_in}
use Rattle.pairs.specs.Tallied.{Tallied}
use Rattle.pairs.proofs.AllInUse.{place_found}
use Rattle.pairs.proofs.OneMore.{counted_one_lem}

-- a table just cleared: of no transfer
pub fresh_tallied : (t : List Pair) (u : UnderWay) → length t ≡ records → Tallied t (uncounted u) []
unfolding uncounted recorded pairs_of records_of others_of tally_of how_many
fresh_tallied t u h = record { whole = h; used = refl; recs = refl; others = refl }

module _ (t : List Pair) (c : Counts) (u : UnderWay) (whole : length t ≡ records) where
  as_counted : (f : Option Transfer) → count_in t (heard c u f) ≡ counted_as f t (heard c u f)
  unfolding count_in
  as_counted f = rw (eq-eqb (length t) records whole)

  -- a table of 64 is counted in
  pub counted_done : (f : Option Transfer) → is_ok (count_in t (heard c u f)).kept ≡ true
  unfolding counted_one
  counted_done None = rw (as_counted None)
  counted_done (Some x) = rw (as_counted (Some x))

  settled_current : (n : ℕ) (x : Transfer) → (settled c u n x).current ≡ u
  unfolding settled
  settled_current n x = go (ltb n (in_use c)) (ltb n records) c.used (n + 1) c.others (raise c.others x.taken)
    where
      go : (k r : Bool) (used more : ℕ) (others raised : Tally)
          → (cond k (counts used others u) (cond r (counts more others u) (counts used raised u))).current ≡ u
      go true r used more others raised = refl
      go false true used more others raised = refl
      go false false used more others raised = refl

  -- and the transfer under way is as it was heard
  pub counted_current : (f : Option Transfer) → (counts_after (count_in t (heard c u f)).kept).current ≡ u
  unfolding counted_one
  counted_current None = rw (as_counted None)
  counted_current (Some x) = rw (as_counted (Some x)) (settled_current _ x)

module _ (t : List Pair) (c : Counts) (u : UnderWay) (xs : List Transfer) where
  -- a transfer has ended
  pub one_more : (x : Transfer) → Tallied t c xs
      → Tallied (count_in t (heard c u (Some x))).table (counts_after (count_in t (heard c u (Some x))).kept) (x ∷ xs)
  unfolding counted_one records_of
  one_more x h =
      rw (as_counted t c u h.whole (Some x), place_found t c xs h x.qq x.zz) (counted_one_lem t c u xs x h)

  -- none has
  pub none_more : Tallied t c xs → Tallied (count_in t (heard c u None)).table (counts_after (count_in t (heard c u None)).kept) xs
  none_more h =
      let still : Tallied t (counts c.used c.others u) xs =
      record { whole = h.whole; used = h.used; recs = h.recs; others = h.others } in
      rw (as_counted t c u h.whole None) still
