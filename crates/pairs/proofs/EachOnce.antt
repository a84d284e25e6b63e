-- Each transfer is counted once: at its pair's record, or among the others. Assumes nothing.
use mathlib.Core.Path.{◌≡◌, refl, sym, ap, ◌∙◌}
use mathlib.Core.Bool.{Bool, true, false, cond, true≢false, false≢true}
use mathlib.Core.List.{List, [], ◌∷◌, ◌++◌, map}
use Prim.Native.Nat.{ℕ, suc, ◌+◌, ◌<◌}
use native.Mathlib.Omega.{arith}
use lib.ListN.{length, get_or}
use lib.Seq.{get_or-take}
use Rattle.laws.specs.AtMost.{at_most}
use Rattle.laws.proofs.AtMost.{at_most_test}
use Rattle.station.specs.Events.{Event}
use Rattle.pairs.specs.declared.Counts.{Counts}
use Rattle.pairs.specs.declared.Pair.{Pair}
use Rattle.pairs.specs.declared.Transfer.{Transfer}
use Rattle.pairs.specs.Counts.{greatest}
use Rattle.pairs.specs.Ended.{is_free, ended_at, ended_in, free_lines}
use Rattle.pairs.specs.Recount.{Ends, ends_of, same, among, alike, recorded, how_many, tally_of, record_of, records_of, has_none, others_of}
use Rattle.pairs.specs.Table.{blank}
use Rattle.pairs.specs.Tallied.{Tallied}
use Rattle.pairs.specs.Total.{both, sum_of, total, CountsOn, NoneStopped}
use Rattle.pairs.proofs.DifferentPairs.{Different, nobody, other, recorded_different}
use Rattle.pairs.proofs.SameEnds.{same_is}

-- taken and failed
abbrev of_both : (Ends → Bool) → List Transfer → ℕ
of_both such xs = how_many such true xs + how_many such false xs

module _ (such : Ends → Bool) where
  both_none : of_both such [] ≡ 0
  unfolding how_many
  both_none = refl

  both_more : (x : Transfer) (xs : List Transfer) → such (ends_of x) ≡ true → of_both such (x ∷ xs) ≡ suc (of_both such xs)
  unfolding how_many
  both_more x xs h = rw h (go x.taken (how_many such true xs) (how_many such false xs))
    where
      go : (got : Bool) (n m : ℕ) → cond (alike true got) (n + 1) n + cond (alike false got) (m + 1) m ≡ suc (n + m)
      go true n m = omega arith
      go false n m = omega arith

  both_kept : (x : Transfer) (xs : List Transfer) → such (ends_of x) ≡ false → of_both such (x ∷ xs) ≡ of_both such xs
  unfolding how_many
  both_kept x xs h = rw h

  -- where the tally has not stopped it is the number itself
  both_exact : (xs : List Transfer) → CountsOn (tally_of such xs) → both (tally_of such xs) ≡ of_both such xs
  unfolding tally_of
  both_exact xs h = rw (exact (how_many such true xs) h.0, exact (how_many such false xs) h.1)
    where
      exact : (n : ℕ) → at_most n greatest < greatest → at_most n greatest ≡ n
      exact n = at_most_test n greatest (λ (k : ℕ). k < greatest → k ≡ n) (λ h l. refl) (λ h l. absurd (omega arith))

-- pair by pair
unfoldable summed : List Ends → List Transfer → ℕ
summed [] xs = 0
summed (p ∷ ps) xs = of_both (same p) xs + summed ps xs

summed_none : (ps : List Ends) → summed ps [] ≡ 0
unfolding summed
summed_none [] = refl
summed_none (p ∷ ps) = rw (summed_none ps, both_none (same p))

module _ (x : Transfer) (xs : List Transfer) where
  summed_kept : (ps : List Ends) → among (ends_of x) ps ≡ false → summed ps (x ∷ xs) ≡ summed ps xs
  unfolding summed among
  summed_kept [] h = refl
  summed_kept (p ∷ ps) h = go (same p (ends_of x)) refl (summed_kept ps) h
    where
      go : (t : Bool) → same p (ends_of x) ≡ t → (among (ends_of x) ps ≡ false → summed ps (x ∷ xs) ≡ summed ps xs)
          → cond t true (among (ends_of x) ps) ≡ false → summed (p ∷ ps) (x ∷ xs) ≡ summed (p ∷ ps) xs
      go true e on h = absurd (true≢false h)
      go false e on h = rw (both_kept (same p) x xs e, on h)

  summed_more : {ps : List Ends} → Different ps → among (ends_of x) ps ≡ true → summed ps (x ∷ xs) ≡ suc (summed ps xs)
  unfolding summed among
  summed_more nobody h = absurd (false≢true h)
  summed_more (other {p = p} {ps = ps} n d) h = go (same p (ends_of x)) refl (summed_more d) h
    where
      go : (t : Bool) → same p (ends_of x) ≡ t → (among (ends_of x) ps ≡ true → summed ps (x ∷ xs) ≡ suc (summed ps xs))
          → cond t true (among (ends_of x) ps) ≡ true → summed (p ∷ ps) (x ∷ xs) ≡ suc (summed (p ∷ ps) xs)
      go true e on h =
          let gone : among (ends_of x) ps ≡ false = ap (λ (q : Ends). among q ps) (sym (same_is p (ends_of x) e)) ∙ n in
          omega (arith, both_more (same p) x xs e, summed_kept ps gone)
      go false e on h = omega (arith, both_kept (same p) x xs e, on h)

-- every transfer is of one of these pairs, or of none
once : (ps : List Ends) → Different ps → (xs : List Transfer) → summed ps xs + of_both (has_none ps) xs ≡ length xs
once ps d [] = omega (arith, summed_none ps, both_none (has_none ps))
once ps d (x ∷ xs) = go (among (ends_of x) ps) refl (once ps d xs)
  where
    go : (t : Bool) → among (ends_of x) ps ≡ t → summed ps xs + of_both (has_none ps) xs ≡ length xs
        → summed ps (x ∷ xs) + of_both (has_none ps) (x ∷ xs) ≡ suc (length xs)
    go true e h = omega (arith, summed_more x xs d e, both_kept (has_none ps) x xs (rw e))
    go false e h = omega (arith, summed_kept x xs ps e, both_more (has_none ps) x xs (rw e))

-- the records in use
summed_records : (xs : List Transfer) (ps : List Ends)
    → ((i : ℕ) → i < length ps → CountsOn (get_or (map (record_of xs) ps) i blank).tally) → sum_of (map (record_of xs) ps) ≡ summed ps xs
unfolding sum_of summed record_of
summed_records xs [] h = refl
summed_records xs (p ∷ ps) h =
    rw (both_exact (same p) xs (h 0 (omega arith)), summed_records xs ps (λ i l. h (suc i) (omega arith)))

-- the sum of all counts is the number of transfers, where none has stopped
pub each_transfer_once : (t : List Pair) (c : Counts) (xs : List Transfer) → Tallied t c xs → NoneStopped t c → total t c ≡ length xs
unfolding total records_of others_of
each_transfer_once t c xs h on =
    let others-on : CountsOn (others_of xs) = rw h.others at on.of_others in
    rw (h.recs, h.others, summed_records xs (recorded xs) records_on, both_exact (has_none (recorded xs)) xs others-on)
    (once (recorded xs) (recorded_different xs) xs)
  where
    records_on : (i : ℕ) → i < length (recorded xs) → CountsOn (get_or (map (record_of xs) (recorded xs)) i blank).tally
    records_on i l =
        let k : i < c.used = omega (arith, h.used) in
        rw (← h.recs, get_or-take c.used t i blank k) (on.of_records i k)

-- and there is one to each free line
pub ended_count : (es earlier : List Event) → length (ended_in es earlier) ≡ free_lines es
unfolding ended_in free_lines
ended_count [] earlier = refl
ended_count (e ∷ back) earlier = go (is_free e.word) (ended_count back earlier)
  where
    go : (t : Bool) → length (ended_in back earlier) ≡ free_lines back
        → length (cond t (ended_at e (back ++ earlier) ∷ ended_in back earlier) (ended_in back earlier))
        ≡ cond t (free_lines back + 1) (free_lines back)
    go true h = omega arith
    go false h = h
