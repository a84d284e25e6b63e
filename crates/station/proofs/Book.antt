-- The reply book: at most 8 entries, by PB and SB (01, "Answer", the table's line 12). Assumes nothing.
use mathlib.Core.Path.{◌≡◌, refl, sym, ap, ◌∙◌}
use mathlib.Core.Bool.{Bool, true, false, cond, false≢true}
use mathlib.Core.Logic.{◌↔◌}
use mathlib.Core.List.{List, [], ◌∷◌, ◌++◌}
use Prim.Native.Nat.{ℕ, zero, suc, ◌+◌, ◌≤◌, ◌<◌}
use native.Mathlib.Numerals.{add-one}
use native.Mathlib.Omega.{arith}
use borrow.Author.Tests.{ltb-true, ltb-false, eqb-true, eq-eqb}
use lib.Dec.{eqb, ltb}
use lib.ListN.{length, get_or, take, set, length-set}
use lib.Seq.{length-take-le, take-suc-set, take-set-lt, get_or-take}
use Rattle.wire.specs.Form.{bytes_of}
use Rattle.wire.specs.declared.part.Load.{Load}
use Rattle.station.specs.declared.replies.Reply.{Reply}
use Rattle.station.specs.declared.replies.ReplyBook.{ReplyBook}
use Rattle.station.specs.Replies.{Written}
use Rattle.laws.specs.First.{first_from}
use Rattle.laws.proofs.AtMost.{at_most_same}
use Rattle.std.specs.Prelude.{Option, Some, None}
use Rattle.station.specs.Replies.{reply_entries, no_reply, no_entries, is_for, count_in, entry_of, entry_at, with_entry, added, written_at, written, load_at, answer_for}

-- an array of 8, and at most 8 entries
pub record Filed (b : ReplyBook) : Type 0 where
  pub array : length b.entries ≡ reply_entries
  pub room : b.held ≤ reply_entries

-- the entries that there are
abbrev pub entered : ReplyBook → List Reply
entered b = take b.held b.entries

-- the first of these for PB and SB
module _ (pb sb : ℕ) where
  data First : List Reply → ℕ → Type 0 where
    here : {e : Reply} {es : List Reply} → is_for e pb sb ≡ true → First (e ∷ es) zero
    later : {e : Reply} {es : List Reply} {j : ℕ} → is_for e pb sb ≡ false → First es j → First (e ∷ es) (suc j)

  data NoneSuch : List Reply → Type 0 where
    none : NoneSuch []
    past : {e : Reply} {es : List Reply} → is_for e pb sb ≡ false → NoneSuch es → NoneSuch (e ∷ es)

  data Searched (k : ℕ) (es : List Reply) : Option ℕ → Type 0 where
    found : {i j : ℕ} → i ≡ k + j → First es j → Searched k es (Some i)
    missed : NoneSuch es → Searched k es None

  load_in : List Reply → Load
  load_in [] = no_reply.load
  load_in (e ∷ es) = cond (is_for e pb sb) e.load (load_in es)

  passing : (k : ℕ) (e : Reply) (es : List Reply) (n : Option ℕ) → is_for e pb sb ≡ false → Searched (suc k) es n → Searched k (e ∷ es) n
  passing k e es n f (found {j = j} i w) = found {j = suc j} (i ∙ omega arith) (later f w)
  passing k e es n f (missed w) = missed (past f w)

  search_in : (k : ℕ) (es : List Reply) → Searched k es (first_from (λ e. is_for e pb sb) k es)
  unfolding first_from
  search_in k [] = missed none
  search_in k (e ∷ es) = by_test (is_for e pb sb) refl (search_in (suc k) es)
    where
      by_test : (t : Bool) → is_for e pb sb ≡ t → Searched (suc k) es (first_from (λ e. is_for e pb sb) (suc k) es)
          → Searched k (e ∷ es) (cond t (Some k) (first_from (λ e. is_for e pb sb) (suc k) es))
      by_test true f w = found {i = k} {j = zero} (omega arith) (here f)
      by_test false f w = passing k e es (first_from (λ e. is_for e pb sb) (suc k) es) f w

  first_within : {es : List Reply} {j : ℕ} → First es j → j < length es
  first_within (here f) = omega arith
  first_within (later f w) = let h = first_within w in omega arith

  first_load : {es : List Reply} {j : ℕ} → First es j → load_in es ≡ (get_or es j no_reply).load
  unfolding load_in
  first_load (here f) = rw f
  first_load (later f w) = rw f (first_load w)

  none_load : {es : List Reply} → NoneSuch es → load_in es ≡ no_reply.load
  unfolding load_in
  none_load none = refl
  none_load (past f w) = rw f (none_load w)

  module _ (r : Reply) where
    set_same : {es : List Reply} {j : ℕ} → is_for r pb sb ≡ true → First es j → load_in (set es j r) ≡ r.load
    unfolding load_in
    set_same t (here f) = rw t
    set_same t (later f w) = rw f (set_same t w)

    append_same : {es : List Reply} → is_for r pb sb ≡ true → NoneSuch es → load_in (es ++ (r ∷ [])) ≡ r.load
    unfolding load_in
    append_same t none = rw t
    append_same t (past f w) = rw f (append_same t w)

    append_other : (es : List Reply) → is_for r pb sb ≡ false → load_in (es ++ (r ∷ [])) ≡ load_in es
    unfolding load_in
    append_other [] t = rw t
    append_other (e ∷ es) t = ap (λ (l : Load). cond (is_for e pb sb) e.load l) (append_other es t)

for_both : (e : Reply) (pb sb : ℕ) → is_for e pb sb ≡ true → (e.pb ≡ pb) × (e.sb ≡ sb)
unfolding is_for
for_both e pb sb = by_test (eqb e.pb pb) refl
  where
    by_test : (t : Bool) → eqb e.pb pb ≡ t → cond t (eqb e.sb sb) false ≡ true → (e.pb ≡ pb) × (e.sb ≡ sb)
    by_test true p f = (eqb-true e.pb pb p, eqb-true e.sb sb f)
    by_test false p f = absurd (false≢true f)

for_itself : (r : Reply) → is_for r r.pb r.sb ≡ true
unfolding is_for
for_itself r = rw (eq-eqb r.pb r.pb refl) (eq-eqb r.sb r.sb refl)

-- entries for the same PB and SB are for the same
alike_for : (e r : Reply) (pb sb pb' sb' : ℕ) → is_for e pb sb ≡ true → is_for r pb sb ≡ true → is_for e pb' sb' ≡ is_for r pb' sb'
unfolding is_for
alike_for e r pb sb pb' sb' f g = cc ((for_both e pb sb f).0, (for_both e pb sb f).1, (for_both r pb sb g).0, (for_both r pb sb g).1)

set_other : (r : Reply) (pb sb pb' sb' : ℕ) {es : List Reply} {j : ℕ} → is_for r pb sb ≡ true → is_for r pb' sb' ≡ false → First pb sb es j
    → load_in pb' sb' (set es j r) ≡ load_in pb' sb' es
unfolding load_in
set_other r pb sb pb' sb' t n (here {e} f) = rw (n, alike_for e r pb sb pb' sb' f t, n)
set_other r pb sb pb' sb' t n (later {e} f w) =
    ap (λ (l : Load). cond (is_for e pb' sb') e.load l) (set_other r pb sb pb' sb' t n w)

-- how a reply is written: in the place of the entry for its PB and SB, behind the others, or, with 8 entries and none for it, not at all
data Writes (b : ReplyBook) (r : Reply) : Option ℕ → Written → Type 0 where
  replaced : {j : ℕ} → First r.pb r.sb (entered b) j → Writes b r (Some j) (record { taken = true; book = with_entry b j r })
  appended : NoneSuch r.pb r.sb (entered b) → b.held < reply_entries
      → Writes b r None (record { taken = true; book = record { entries = set b.entries b.held r; held = b.held + 1 } })
  refused : b.held ≡ reply_entries → Writes b r None (record { taken = false; book = b })

module _ (b : ReplyBook) (k : Filed b) where
  counted : count_in b ≡ b.held
  unfolding count_in
  counted = at_most_same b.held reply_entries k.room

  entered_length : length (entered b) ≡ b.held
  entered_length = length-take-le b.held b.entries (omega (arith, k.array, k.room))

  searched : (pb sb : ℕ) → Searched pb sb 0 (entered b) (entry_of b pb sb)
  unfolding entry_of
  searched pb sb = rw counted (search_in pb sb 0 (entered b))

  answer_in : (pb sb : ℕ) → answer_for b pb sb ≡ load_in pb sb (entered b)
  unfolding answer_for entry_at
  answer_in pb sb = by_entry (searched pb sb)
    where
      by_entry : {n : Option ℕ} → Searched pb sb 0 (entered b) n → load_at n b ≡ load_in pb sb (entered b)
      by_entry (found {i} {j} e w) =
          let p : i ≡ j = omega arith in
          let h : j < b.held = omega (arith, first_within pb sb w, entered_length) in
          rw p (ap (λ (x : Reply). x.load) (sym (get_or-take b.held b.entries j no_reply h)) ∙ sym (first_load pb sb w))
      by_entry (missed w) = sym (none_load pb sb w)

  writes : (r : Reply) → Writes b r (entry_of b r.pb r.sb) (written b r)
  unfolding written added
  writes r = by_entry (searched r.pb r.sb)
    where
      by_room : (t : Bool) → ltb b.held reply_entries ≡ t → NoneSuch r.pb r.sb (entered b)
          → Writes b r None (cond t (record { taken = true; book = record { entries = set b.entries b.held r; held = b.held + 1 } })
          (record { taken = false; book = b }))
      by_room true e w = appended w (ltb-true b.held reply_entries e)
      by_room false e w = refused (omega (arith, ltb-false b.held reply_entries e, k.room))

      by_entry : {n : Option ℕ} → Searched r.pb r.sb 0 (entered b) n → Writes b r n (written_at n b r)
      by_entry (found {i} {j} e w) = let p : i ≡ j = omega arith in rw p (replaced w)
      by_entry (missed w) = by_room (ltb b.held reply_entries) refl w

  filed_row : {r : Reply} {n : Option ℕ} {w : Written} → Writes b r n w → Filed w.book
  unfolding with_entry
  filed_row {r} (replaced {j} _) = record { array = length-set b.entries j r ∙ k.array; room = k.room }
  filed_row {r} (appended _ h) = record { array = length-set b.entries b.held r ∙ k.array; room = omega (arith, h) }
  filed_row (refused _) = k

  -- the entries after it
  replaced_entered : (r : Reply) {j : ℕ} → First r.pb r.sb (entered b) j → entered (with_entry b j r) ≡ set (entered b) j r
  unfolding with_entry
  replaced_entered r {j} w =
      take-set-lt b.held b.entries j r (omega (arith, first_within r.pb r.sb w, entered_length))

  appended_entered : (r : Reply) → b.held < reply_entries → take (b.held + 1) (set b.entries b.held r) ≡ entered b ++ (r ∷ [])
  appended_entered r h = rw (add-one, take-suc-set b.entries b.held r (omega (arith, k.array)))

  own_row : {r : Reply} {n : Option ℕ} {w : Written} → Writes b r n w → w.taken ≡ true → load_in r.pb r.sb (entered w.book) ≡ r.load
  own_row {r} (replaced w) t = rw (replaced_entered r w) (set_same r.pb r.sb r (for_itself r) w)
  own_row {r} (appended w h) t = rw (appended_entered r h) (append_same r.pb r.sb r (for_itself r) w)
  own_row (refused _) t = absurd (false≢true t)

  other_row : (pb sb : ℕ) {r : Reply} {n : Option ℕ} {w : Written} → is_for r pb sb ≡ false → Writes b r n w
      → load_in pb sb (entered w.book) ≡ load_in pb sb (entered b)
  other_row pb sb {r} f (replaced w) = rw (replaced_entered r w) (set_other r r.pb r.sb pb sb (for_itself r) f w)
  other_row pb sb {r} f (appended w h) = rw (appended_entered r h) (append_other pb sb r (entered b) f)
  other_row pb sb f (refused _) = refl

  refused_row : {r : Reply} {n : Option ℕ} {w : Written} → Writes b r n w → (w.taken ≡ false) ↔ ((b.held ≡ reply_entries) × (n ≡ None))
  refused_row (replaced _) =
      (λ t. absurd (false≢true (sym t)), λ p. let q = p.1 in let z : ◌≡◌ {A = ℕ} 0 1 = cc q in absurd (omega arith))
  refused_row (appended _ h) = (λ t. absurd (false≢true (sym t)), λ p. absurd (omega (arith, h, p.0)))
  refused_row (refused e) = (λ _. (e, refl), λ _. refl)

  unchanged_row : {r : Reply} {n : Option ℕ} {w : Written} → Writes b r n w → w.taken ≡ false → w.book ≡ b
  unchanged_row (replaced _) t = absurd (false≢true (sym t))
  unchanged_row (appended _ _) t = absurd (false≢true (sym t))
  unchanged_row (refused _) t = refl

  -- the book stays in order
  pub written_filed : (r : Reply) → Filed (written b r).book
  written_filed r = filed_row (writes r)

not_for : (r : Reply) (pb sb : ℕ) → ((r.pb ≡ pb) × (r.sb ≡ sb) → ⊥) → is_for r pb sb ≡ false
not_for r pb sb n = by_test (is_for r pb sb) refl
  where
    by_test : (t : Bool) → is_for r pb sb ≡ t → t ≡ false
    by_test true e = absurd (n (for_both r pb sb e))
    by_test false e = refl

pub none_filed : Filed no_entries
unfolding no_entries
none_filed = record { array = refl; room = omega arith }

module _ (b : ReplyBook) (r : Reply) (k : Filed b) where
  -- a reply that was taken is the answer to its PB and SB
  pub written_answers : (written b r).taken ≡ true → answer_for (written b r).book r.pb r.sb ≡ r.load
  written_answers t = answer_in (written b r).book (written_filed b k r) r.pb r.sb ∙ own_row b k (writes b k r) t

  -- the answers to any other PB and SB are as before
  pub written_others : (pb sb : ℕ) → ((r.pb ≡ pb) × (r.sb ≡ sb) → ⊥) → answer_for (written b r).book pb sb ≡ answer_for b pb sb
  written_others pb sb n =
      answer_in (written b r).book (written_filed b k r) pb sb ∙ other_row b k pb sb (not_for r pb sb n) (writes b k r) ∙ sym (answer_in b k pb sb)

  -- turned down exactly when 8 entries are held and none has this PB and SB
  pub refused_exactly_when : ((written b r).taken ≡ false) ↔ ((b.held ≡ reply_entries) × (entry_of b r.pb r.sb ≡ None))
  refused_exactly_when = refused_row b k (writes b k r)

  -- and then nothing changes
  pub refused_unchanged : (written b r).taken ≡ false → (written b r).book ≡ b
  refused_unchanged t = unchanged_row b k (writes b k r) t

-- at first there is no entry
pub none_missing : (pb sb : ℕ) → entry_of no_entries pb sb ≡ None
unfolding entry_of no_entries count_in first_from
none_missing pb sb = refl

-- with no entry the answer has NN 0
pub missing_answer : (b : ReplyBook) (pb sb : ℕ) → entry_of b pb sb ≡ None → answer_for b pb sb ≡ no_reply.load
unfolding answer_for
missing_answer b pb sb e = rw e

pub no_reply_bytes : bytes_of no_reply.load ≡ []
no_reply_bytes = refl
