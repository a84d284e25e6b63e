-- What is answered of a pair: a recount's counts, number 20 exactly where the pair has no record, and nothing behind its record matters.
-- Assumes nothing.
use mathlib.Core.Path.{◌≡◌, refl, sym, ◌∙◌}
use mathlib.Core.Bool.{Bool, true, false, cond}
use mathlib.Core.List.{List, [], ◌∷◌, ◌++◌}
use mathlib.Core.Logic.{◌↔◌}
use Prim.Native.Nat.{ℕ, ◌≤◌, ◌<◌}
use native.Mathlib.Omega.{arith}
use borrow.Author.Tests.{eq-eqb, lt-ltb, le-ltb, ltb-false}
use lib.Dec.{ltb}
use lib.ListN.{length, take, get_or, length-append, get_or-append}
use lib.Seq.{length-take-le, get_or-take, append_snoc}
use Rattle.std.specs.Prelude.{Result, Ok, Err}
use Rattle.pairs.specs.declared.AskError.{AskError}
use Rattle.pairs.specs.declared.AskError.TheVariants.{NoRecord}
use Rattle.pairs.specs.declared.Counts.{Counts}
use Rattle.pairs.specs.declared.Pair.{Pair}
use Rattle.pairs.specs.declared.Tally.{Tally}
use Rattle.pairs.specs.declared.Transfer.{Transfer}
use Rattle.pairs.specs.Counts.{records, in_use}
use Rattle.pairs.specs.Recount.{ends, same, among, recorded, tally_of, record_of, records_of, answer_of}
use Rattle.pairs.specs.Table.{blank, is_of, find, place_in, counts_of, ask_in, ask_of}
use Rattle.pairs.specs.Tallied.{Tallied}
use Rattle.pairs.proofs.AllInUse.{in_use_fits, all_in_use, place_found, found_in_use, found_past_use}
use Rattle.pairs.proofs.FoundRecord.{place_of, found_record}
use Rattle.pairs.proofs.Placed.{its, same_place}
use Rattle.pairs.proofs.Searching.{stops_within, stops_there}
use Rattle.std.proofs.lemmas.List.Sums.{fails_before_first, position_or_len_is}

abbrev no_such : Result Tally AskError
no_such = Err NoRecord

-- counts are no refusal
no_record : (found : Bool) (n : Tally) → cond found (Ok n) no_such ≡ no_such → found ≡ false
no_record true n e = let z : ◌≡◌ {A = ℕ} 0 1 = cc in absurd (omega arith)
no_record false n e = refl

module _ (t : List Pair) (c : Counts) (qq zz : ℕ) where
  as_asked : length t ≡ records → ask_of t c qq zz ≡ ask_in t c qq zz
  unfolding ask_of
  as_asked h = rw (eq-eqb (length t) records h)

  module _ (xs : List Transfer) (h : Tallied t c xs) where
    abbrev place : ℕ
    place = place_of xs (ends qq zz) (recorded xs)

    read_there : among (ends qq zz) (recorded xs) ≡ true → get_or t place blank ≡ record_of xs (ends qq zz)
    unfolding records_of
    read_there e =
        sym (get_or-take c.used t place blank (found_in_use t c xs h (ends qq zz) e))
        ∙ rw h.recs (found_record xs (ends qq zz) (recorded xs) e)

    -- what is answered is what a recount gives
    pub asked_is_recounted : ask_of t c qq zz ≡ answer_of xs qq zz
    unfolding ask_in answer_of counts_of records_of record_of
    asked_is_recounted =
        as_asked h.whole
        ∙ rw (place_found t c xs h qq zz, all_in_use t c xs h) (go (among (ends qq zz) (recorded xs)) refl)
      where
        go : (k : Bool) → among (ends qq zz) (recorded xs) ≡ k
            → cond (ltb place c.used) (Ok (get_or t place blank).tally) (Err NoRecord)
            ≡ cond k (Ok (tally_of (same (ends qq zz)) xs)) (Err NoRecord)
        go true e = rw (lt-ltb place c.used (found_in_use t c xs h (ends qq zz) e), read_there e)
        go false e = rw (le-ltb place c.used (omega (arith, found_past_use t c xs h (ends qq zz) e)))

    -- 20 exactly where a recount has no record of the pair
    pub refused_20 : (ask_of t c qq zz ≡ (Err NoRecord)) ↔ (among (ends qq zz) (recorded xs) ≡ false)
    unfolding answer_of
    refused_20 = (
      λ e. no_record (among (ends qq zz) (recorded xs)) (tally_of (same (ends qq zz)) xs) (sym asked_is_recounted ∙ e),
      λ e. asked_is_recounted ∙ rw e,
    )

  -- of any table, 20 exactly where none of the records in use is the pair's
  pub refused_20_exactly : length t ≡ records
      → (ask_of t c qq zz ≡ (Err NoRecord)) ↔ ((i : ℕ) → i < in_use c → is_of (get_or t i blank) qq zz ≡ false)
  unfolding ask_in place_in counts_of
  refused_20_exactly h = (
    λ e i l. rw (← get_or-take (in_use c) t i blank l) (fails_before_first (its qq zz) inside i blank (rw (← same_place qq zz inside) (past e i l))),
    λ none. as_asked h ∙ rw (le-ltb at (in_use c) (all none)),
  )
    where
      inside : List Pair
      inside = take (in_use c) t

      at : ℕ
      at = find inside qq zz

      past : ask_of t c qq zz ≡ (Err NoRecord) → (i : ℕ) → i < in_use c → i < at
      past e i l =
          omega (arith, ltb-false at (in_use c) (no_record (ltb at (in_use c)) (get_or t at blank).tally (sym (as_asked h) ∙ e)))

      all : ((i : ℕ) → i < in_use c → is_of (get_or t i blank) qq zz ≡ false) → in_use c ≤ at
      all none =
          let size : length inside ≡ in_use c = length-take-le (in_use c) t (omega (arith, in_use_fits c)) in
          omega (
            arith,
            same_place qq zz inside,
            position_or_len_is (its qq zz) inside (length inside) blank (omega arith)
                (λ i l. rw (get_or-take (in_use c) t i blank (omega arith)) (none i (omega arith))) (λ l. absurd (omega arith)),
          )

module _ (c : Counts) (qq zz : ℕ) (front : List Pair) (p : Pair) (its : is_of p qq zz ≡ true) (near : length front < in_use c) where
  -- all that is read
  abbrev up_to : List Pair
  up_to = front ++ (p ∷ [])

  read_up_to : (rest : List Pair) → length (front ++ (p ∷ rest)) ≡ records
      → ask_of (front ++ (p ∷ rest)) c qq zz
      ≡ cond (ltb (find up_to qq zz) (in_use c)) (counts_of (get_or up_to (find up_to qq zz) blank)) (Err NoRecord)
  unfolding ask_in place_in
  read_up_to rest h =
      let l : find up_to qq zz < length up_to = simp length-append (omega (arith, stops_within qq zz p its front)) in
      as_asked (front ++ (p ∷ rest)) c qq zz h
      ∙ rw (stops_there qq zz p its (in_use c) front rest near, ← append_snoc front p rest, get_or-append up_to rest blank _ l)

  -- what lies behind the pair's record does not matter
  pub asking_stops : (rest other : List Pair) → length (front ++ (p ∷ rest)) ≡ records → length (front ++ (p ∷ other)) ≡ records
      → ask_of (front ++ (p ∷ rest)) c qq zz ≡ ask_of (front ++ (p ∷ other)) c qq zz
  asking_stops rest other h g = read_up_to rest h ∙ sym (read_up_to other g)
