-- One transfer more, at its pair's record, at a new one, or among the others: the table is a recount again. Assumes nothing.
use mathlib.Core.Path.{◌≡◌, refl, sym, ◌∙◌}
use mathlib.Core.Bool.{Bool, true, false, cond}
use mathlib.Core.List.{List, [], ◌∷◌, ◌++◌, map, map-append}
use Prim.Native.Nat.{ℕ, suc, ◌+◌, ◌≤◌, ◌<◌}
use native.Mathlib.Numerals.{add-one}
use native.Mathlib.Omega.{arith}
use borrow.Author.Tests.{lt-ltb, le-ltb, ltb-true, ltb-false}
use lib.Dec.{ltb}
use lib.ListN.{length, take, get_or, set, length-append, length-set}
use lib.Seq.{take-set-lt, take-suc-set, get_or-take, set_out}
use Rattle.pairs.specs.declared.Counts.{Counts}
use Rattle.pairs.specs.declared.Pair.{Pair}
use Rattle.pairs.specs.declared.Transfer.{Transfer}
use Rattle.pairs.specs.declared.UnderWay.{UnderWay}
use Rattle.pairs.specs.Counts.{counts, records, raise}
use Rattle.pairs.specs.Recount.{ends_of, among, recorded, record_of, records_of, has_none, others_of}
use Rattle.pairs.specs.Table.{blank, raised, opened, noted, settled}
use Rattle.pairs.specs.Tallied.{Tallied}
use Rattle.pairs.proofs.AllInUse.{all_in_use, found_in_use, found_past_use}
use Rattle.pairs.proofs.DifferentPairs.{recorded_different}
use Rattle.pairs.proofs.FoundRecord.{place_of}
use Rattle.pairs.proofs.PairsMore.{recorded_known, recorded_new, recorded_full, is_new, others_still}
use Rattle.pairs.proofs.RecordsKept.{records_kept, records_raised, record_opened}
use Rattle.pairs.proofs.Tallying.{tally_raised, tally_kept}

module _ (t : List Pair) (c : Counts) (u : UnderWay) (xs : List Transfer) (x : Transfer) (h : Tallied t c xs) where
  -- the place at which it is counted
  abbrev place : ℕ
  place = place_of xs (ends_of x) (recorded xs)

  abbrev Next : List Pair → Counts → Type 0
  Next t c = Tallied t c (x ∷ xs)

  -- at its pair's record
  at_its_own : among (ends_of x) (recorded xs) ≡ true
      → Next (set t place (raised (get_or t place blank) x.taken)) (counts c.used c.others u)
  unfolding records_of others_of
  at_its_own e = record {
    whole = simp length-set h.whole;
    used = rw pairs_same h.used;
    recs = rw pairs_same raised_there;
    others = rw pairs_same (h.others ∙ sym (tally_kept (has_none (recorded xs)) x xs (rw e)));
  }
    where
      pairs_same : recorded (x ∷ xs) ≡ recorded xs
      pairs_same = recorded_known x xs e

      l : place < c.used
      l = found_in_use t c xs h (ends_of x) e

      raised_there : take c.used (set t place (raised (get_or t place blank) x.taken)) ≡ map (record_of (x ∷ xs)) (recorded xs)
      raised_there =
          take-set-lt c.used t place (raised (get_or t place blank) x.taken) l
          ∙ rw (← get_or-take c.used t place blank l, h.recs) (records_raised x xs (recorded_different xs) e)

  -- a pair that has no record stands past those in use
  past : among (ends_of x) (recorded xs) ≡ false → place ≡ c.used
  past = found_past_use t c xs h (ends_of x)

  -- at a new record
  at_a_new_one : among (ends_of x) (recorded xs) ≡ false → length (recorded xs) < records
      → Next (set t place (opened x)) (counts (place + 1) c.others u)
  unfolding records_of
  at_a_new_one e l = record {
    whole = simp length-set h.whole;
    used = rw pairs_more (simp length-append (omega (arith, past e)));
    recs = rw (pairs_more, add-one) opened_there;
    others = h.others ∙ others_still x xs e l;
  }
    where
      pairs_more : recorded (x ∷ xs) ≡ recorded xs ++ (ends_of x ∷ [])
      pairs_more = recorded_new x xs e l

      opened_there : take (suc place) (set t place (opened x)) ≡ map (record_of (x ∷ xs)) (recorded xs ++ (ends_of x ∷ []))
      opened_there =
          take-suc-set t place (opened x) (omega (arith, past e, h.whole))
          ∙ rw (past e, h.recs, map-append (record_of (x ∷ xs)), records_kept x xs (recorded xs) e, record_opened x xs (is_new x xs e l))

  -- among the others
  among_others : among (ends_of x) (recorded xs) ≡ false → records ≤ length (recorded xs)
      → Next (set t place (opened x)) (counts c.used (raise c.others x.taken) u)
  unfolding records_of others_of
  among_others e l = record {
    whole = simp length-set h.whole;
    used = rw pairs_same h.used;
    recs = rw (pairs_same, records_kept x xs (recorded xs) e, set_out t place (opened x) past_end) h.recs;
    others = rw (pairs_same, tally_raised (has_none (recorded xs)) x xs (rw e), h.others);
  }
    where
      pairs_same : recorded (x ∷ xs) ≡ recorded xs
      pairs_same = recorded_full x xs l

      past_end : length t ≤ place
      past_end = omega (arith, past e, h.whole)

  -- as it is counted
  pub counted_one_lem : Next (set t place (noted (get_or t place blank) place c x)) (settled c u place x)
  unfolding noted settled
  counted_one_lem = rw (all_in_use t c xs h) (go (among (ends_of x) (recorded xs)) refl)
    where
      by_room : among (ends_of x) (recorded xs) ≡ false → (r : Bool) → ltb place records ≡ r
          → Next (set t place (opened x)) (cond r (counts (place + 1) c.others u) (counts c.used (raise c.others x.taken) u))
      by_room e true r = at_a_new_one e (omega (arith, past e, h.used, ltb-true place records r))
      by_room e false r = among_others e (omega (arith, past e, h.used, ltb-false place records r))

      go : (k : Bool) → among (ends_of x) (recorded xs) ≡ k
          → Next (set t place (cond (ltb place c.used) (raised (get_or t place blank) x.taken) (opened x)))
          (cond (ltb place c.used)
          (counts c.used c.others u)
          (cond (ltb place records) (counts (place + 1) c.others u) (counts c.used (raise c.others x.taken) u)))
      go true e = rw (lt-ltb place c.used (found_in_use t c xs h (ends_of x) e)) (at_its_own e)
      go false e = rw (le-ltb place c.used (omega (arith, past e))) (by_room e (ltb place records) refl)
