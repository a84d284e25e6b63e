-- The code's search, by the library's word, is the definition's; a transfer counted where it comes to. Assumes nothing.
use mathlib.Core.Path.{◌≡◌, refl, sym, ◌∙◌}
use mathlib.Core.Bool.{Bool, true, false, cond}
use mathlib.Core.List.{List}
use mathlib.Core.Logic.{◌≢◌}
use Prim.Native.Nat.{ℕ, ◌+◌, ◌≤◌, ◌<◌}
use native.Mathlib.Numerals.{one-add}
use native.Mathlib.Omega.{arith}
use borrow.Author.Tests.{eq-eqb, ne_eqb, lt-ltb, le-ltb, ltb-true, ltb-false}
use lib.Dec.{ltb}
use lib.ListN.{length, take, get_or, set}
use lib.Seq.{length-take-le, set_out}
use Rattle.std.specs.Prelude.{Some, None, Ok, Err, position, not}
use Rattle.std.specs.List.{position_or_len}
use Rattle.std.proofs.lemmas.List.Recursion.{is_position_or_len}
use Rattle.std.proofs.lemmas.List.Sums.{prefix_len-le-length}
use Rattle.std.proofs.lemmas.Option.{cond_some}
use Rattle.pairs.specs.declared.AskError.TheVariants as ask_error
use Rattle.pairs.specs.declared.Counts.{Counts}
use Rattle.pairs.specs.declared.Heard.{Heard}
use Rattle.pairs.specs.declared.Pair.{Pair}
use Rattle.pairs.specs.declared.Tally.{Tally}
use Rattle.pairs.specs.declared.Transfer.{Transfer}
use Rattle.pairs.specs.Counts.{counts, records, raise, in_use}
use Rattle.pairs.specs.Table.{pair, blank, is_of, find, place_in, raised, opened, noted, settled, counting, other_length, counted_one, count_in, counts_of, ask_in, ask_of}
use Rattle.pairs.proofs.AllInUse.{in_use_fits}

module _ (qq zz : ℕ) where
  abbrev pub its : Pair → Bool
  its p = is_of p qq zz

  pub same_place : (l : List Pair) → find l qq zz ≡ position_or_len its l
  unfolding find
  same_place l = is_position_or_len (λ (m : List Pair). find m qq zz) its refl (λ x xs. rw one-add) l

  placed : (l : List Pair) {at : ℕ} → Some at ≡ position its l → (at < length l) × (find l qq zz ≡ at)
  placed l e =
      let h = cond_some (ltb (position_or_len its l) (length l)) _ _ (sym e) in
      (omega (arith, ltb-true (position_or_len its l) (length l) h.0, h.1), same_place l ∙ h.1)

  not_placed : (l : List Pair) → None ≡ position its l → find l qq zz ≡ length l
  not_placed l = go (ltb (position_or_len its l) (length l)) refl
    where
      go : (t : Bool) → ltb (position_or_len its l) (length l) ≡ t → None ≡ cond t (Some (position_or_len its l)) None → find l qq zz ≡ length l
      go true e f = absurd (cc)
      go false e f = omega (arith, prefix_len-le-length (λ (p : Pair). not (its p)) l, same_place l, ltb-false (position_or_len its l) (length l) e)

module _ (t : List Pair) (c : Counts) (qq zz : ℕ) where
  -- the place, among the records in use of a table of 64
  in_front : {n at : ℕ} → length t ≡ records → n ≡ in_use c → Some at ≡ position (its qq zz) (take n t) → (at < in_use c) × (place_in t (in_use c) qq zz ≡ at)
  unfolding place_in
  in_front {n} w e f =
      let p = placed qq zz (take n t) f in
      (omega (arith, p.0, length-take-le n t (omega (arith, in_use_fits c))), rw (← e) p.1)

  behind : {n : ℕ} → length t ≡ records → n ≡ in_use c → None ≡ position (its qq zz) (take n t) → place_in t (in_use c) qq zz ≡ in_use c
  unfolding place_in
  behind {n} w e f = rw (← e) (not_placed qq zz (take n t) f ∙ length-take-le n t (omega (arith, in_use_fits c)))

  -- ---- asked

  pub refused_ask : length t ≢ records → Err ask_error.OtherLength ≡ ask_of t c qq zz
  unfolding ask_of
  refused_ask h = rw (ne_eqb (length t) records h)

  module _ {n : ℕ} (w : length t ≡ records) (e : n ≡ in_use c) where
    pub asked_at : {at : ℕ} → Some at ≡ position (its qq zz) (take n t) → Ok (get_or t at blank).tally ≡ ask_of t c qq zz
    unfolding ask_of ask_in counts_of
    asked_at {at} f = let p = in_front w e f in rw (eq-eqb (length t) records w, p.1, lt-ltb at (in_use c) p.0)

    pub asked_nowhere : None ≡ position (its qq zz) (take n t) → Err ask_error.NoRecord ≡ ask_of t c qq zz
    unfolding ask_of ask_in
    asked_nowhere f = rw (eq-eqb (length t) records w, behind w e f, le-ltb (in_use c) (in_use c) (omega arith))

-- ---- counted

module _ (t : List Pair) (h : Heard) where
  pub refused : length t ≢ records → counting t (Err (other_length h.before)) ≡ count_in t h
  unfolding count_in
  refused g = rw (ne_eqb (length t) records g)

  module _ (w : length t ≡ records) where
    -- no transfer has ended
    pub went_on : h.freed ≡ None → counting t (Ok (counts h.before.used h.before.others h.current)) ≡ count_in t h
    unfolding count_in
    went_on e = rw (eq-eqb (length t) records w, e)

    module _ (x : Transfer) (freed : h.freed ≡ Some x) {n : ℕ} (e : n ≡ in_use h.before) where
      -- at its pair's record
      pub counted_at : {at : ℕ} {m : Tally} → Some at ≡ position (its x.qq x.zz) (take n t) → m ≡ raise (get_or t at blank).tally x.taken
          → counting (set t at (pair (get_or t at blank).qq (get_or t at blank).zz m)) (Ok (counts h.before.used h.before.others h.current)) ≡ count_in t h
      unfolding count_in counted_one noted settled raised
      counted_at {at} f g =
          let p = in_front t h.before x.qq x.zz w e f in
          rw (eq-eqb (length t) records w, freed, p.1, lt-ltb at (in_use h.before) p.0, g)

      -- at a new one
      pub counted_new : {p : Pair} → None ≡ position (its x.qq x.zz) (take n t) → n < records → p ≡ opened x
          → counting (set t n p) (Ok (counts (n + 1) h.before.others h.current)) ≡ count_in t h
      unfolding count_in counted_one noted settled
      counted_new f l g =
          rw (e, eq-eqb (length t) records w, freed, behind t h.before x.qq x.zz w e f, le-ltb (in_use h.before) (in_use h.before) (omega arith), lt-ltb (in_use h.before) records (omega arith), g)

      -- among the others
      pub counted_among : {m : Tally} → None ≡ position (its x.qq x.zz) (take n t) → records ≤ n → m ≡ raise h.before.others x.taken
          → counting t (Ok (counts h.before.used m h.current)) ≡ count_in t h
      unfolding count_in counted_one noted settled
      counted_among f l g =
          rw (eq-eqb (length t) records w, freed, behind t h.before x.qq x.zz w e f, le-ltb (in_use h.before) (in_use h.before) (omega arith), le-ltb (in_use h.before) records (omega arith), set_out t (in_use h.before) (opened x) (omega arith), g)
