-- What the table knows of an owner's transfer is what the owner's own lines tell, line after line. Assumes nothing.
use mathlib.Core.Path.{◌≡◌, refl, sym, ap, subst, ◌∙◌}
use mathlib.Core.Bool.{Bool, true, false, cond}
use mathlib.Core.List.{List, [], ◌∷◌}
use Prim.Native.Nat.{ℕ}
use borrow.Author.Tests.{eq-eqb, ne_eqb}
use lib.Dec.{eqb}
use Rattle.station.specs.Events.{Word, taken, answer, Event}
use Rattle.pairs.specs.Ended.{is_owns, is_taken_line, is_answer, had_since, is_slave_address, got_through}
use Rattle.pairs.specs.UnderWay.{under_way, nothing_known, wants_answer, is_owner, may_be_owner, begun, taken_by, answered_in, is_taken}
use Rattle.std.specs.Prelude.{Option, Some, None}
use Rattle.pairs.specs.declared.UnderWay.{UnderWay}
use Rattle.pairs.proofs.SlaveAddresses.{slave_address}

-- ---- one line more, by whose it is and by its word

-- a line that is no owns line
module _ (such : Word → Bool) (a : ℕ) (e : Event) (back : List Event) where
  -- another station's
  pub had_other : (e.station ≡ a → ⊥) → had_since such a (e ∷ back) ≡ had_since such a back
  unfolding had_since
  had_other d = rw (ne_eqb e.station a d)

  -- of another word
  pub had_same : is_owns e.word ≡ false → such e.word ≡ false → had_since such a (e ∷ back) ≡ had_since such a back
  unfolding had_since
  had_same o n = rw (o, n) (go (eqb e.station a))
    where
      go : (t : Bool) → cond t (had_since such a back) (had_since such a back) ≡ had_since such a back
      go true = refl
      go false = refl

  -- its own, of this word
  pub had_now : e.station ≡ a → is_owns e.word ≡ false → such e.word ≡ true → had_since such a (e ∷ back) ≡ true
  unfolding had_since
  had_now s o n = rw (eq-eqb e.station a s, o, n)

  -- its own owns line
  pub had_begun : e.station ≡ a → is_owns e.word ≡ true → had_since such a (e ∷ back) ≡ false
  unfolding had_since
  had_begun s o = rw (eq-eqb e.station a s, o)

-- ---- an owner's transfer

-- its owner is known, and whether that was told taken
pub record Owned (a : ℕ) (u : UnderWay) (back : List Event) : Type 0 where
  pub owner : u.owner ≡ Some a
  pub told : u.told ≡ had_since is_taken_line a back

-- where listening began within the transfer: the owner was not told taken since, and may be yet; or it was told before, and another
-- station is told so of its answer
pub data Knows (a : ℕ) (u : UnderWay) (back : List Event) : Bool → Type 0 where
  owned : {more : Bool} → Owned a u back → Knows a u back more
  not_yet : {more : Bool} → u.owner ≡ None → had_since is_taken_line a back ≡ false → Knows a u back more
  too_late : {o : ℕ} → u.owner ≡ Some o → (o ≡ a → ⊥) → had_since is_taken_line a back ≡ false → Knows a u back false

-- what is known of the transfer of a, which may yet (`more`) be told taken
pub record Follows (a : ℕ) (more : Bool) (u : UnderWay) (back : List Event) : Type 0 where
  pub answered : u.answered ≡ had_since is_answer a back
  pub knows : Knows a u back more

-- where the owner is known
pub record Held (a : ℕ) (u : UnderWay) (back : List Event) : Type 0 where
  pub answered : u.answered ≡ had_since is_answer a back
  pub owner : Owned a u back

pub held_follows : {a : ℕ} {u : UnderWay} {back : List Event} {more : Bool} → Held a u back → Follows a more u back
held_follows w = record { answered = w.answered; knows = owned w.owner }

pub any_more : {a : ℕ} {u : UnderWay} {back : List Event} (more : Bool) → Follows a true u back → Follows a more u back
any_more {a} {u} {back} more w = record { answered = w.answered; knows = go w.knows }
  where
    go : Knows a u back true → Knows a u back more
    go (owned w) = owned w
    go (not_yet o n) = not_yet o n

-- nothing was heard yet
pub from_nothing : (a : ℕ) (more : Bool) → Follows a more nothing_known []
unfolding had_since
from_nothing a more = record { answered = refl; knows = not_yet refl refl }

-- a taken line of a station that can be no owner, or can be
module _ (u : UnderWay) (s : ℕ) where
  unmoved : (o : Option ℕ) → u.owner ≡ o → may_be_owner o s ≡ false → taken_by u s ≡ u
  unfolding taken_by
  unmoved o q n = ap (λ (t : Bool). cond t (under_way (Some s) true u.answered) u) (ap (λ (p : Option ℕ). may_be_owner p s) q ∙ n)

  moved : (o : Option ℕ) → u.owner ≡ o → may_be_owner o s ≡ true → taken_by u s ≡ under_way (Some s) true u.answered
  unfolding taken_by
  moved o q n = ap (λ (t : Bool). cond t (under_way (Some s) true u.answered) u) (ap (λ (p : Option ℕ). may_be_owner p s) q ∙ n)

  same_answered : (taken_by u s).answered ≡ u.answered
  unfolding taken_by
  same_answered = go (may_be_owner u.owner s)
    where
      go : (t : Bool) → (cond t (under_way (Some s) true u.answered) u).answered ≡ u.answered
      go true = refl
      go false = refl

-- an owns line
pub own_owns : (e : Event) {a : ℕ} {back : List Event} → e.station ≡ a → is_owns e.word ≡ true → Held a (begun e.station) (e ∷ back)
own_owns e {a} {back} s o =
    record {
      answered = sym (had_begun is_answer a e back s o);
      owner = record { owner = ap Some s; told = sym (had_begun is_taken_line a e back s o) };
    }

module _ (e : Event) {a : ℕ} {u : UnderWay} {back : List Event} where
  -- a line of another word than owns, taken and answer
  pub inert : {more : Bool} → is_owns e.word ≡ false → is_taken_line e.word ≡ false → is_answer e.word ≡ false
      → Follows a more u back → Follows a more u (e ∷ back)
  inert {more} o t n w = record { answered = w.answered ∙ sym (had_same is_answer a e back o n); knows = go w.knows }
    where
      same : had_since is_taken_line a (e ∷ back) ≡ had_since is_taken_line a back
      same = had_same is_taken_line a e back o t

      go : {m : Bool} → Knows a u back m → Knows a u (e ∷ back) m
      go (owned w) = owned (record { owner = w.owner; told = w.told ∙ sym same })
      go (not_yet x y) = not_yet x (same ∙ y)
      go (too_late x d y) = too_late x d (same ∙ y)

  pub inert_held : is_owns e.word ≡ false → is_taken_line e.word ≡ false → is_answer e.word ≡ false → Held a u back → Held a u (e ∷ back)
  inert_held o t n w =
      record {
        answered = w.answered ∙ sym (had_same is_answer a e back o n);
        owner = record { owner = w.owner.owner; told = w.owner.told ∙ sym (had_same is_taken_line a e back o t) };
      }

  -- another station's taken line says nothing of an owner that is known
  other_owned : (e.station ≡ a → ⊥) → Owned a u back → Owned a (taken_by u e.station) (e ∷ back)
  other_owned d w =
      subst (λ (v : UnderWay). Owned a v (e ∷ back)) (sym (unmoved u e.station (Some a) w.owner (ne_eqb a e.station (λ q. d (sym q)))))
      (record { owner = w.owner; told = w.told ∙ sym (had_other is_taken_line a e back d) })

  pub other_taken_held : (e.station ≡ a → ⊥) → Held a u back → Held a (taken_by u e.station) (e ∷ back)
  other_taken_held d w =
      record { answered = same_answered u e.station ∙ w.answered ∙ sym (had_other is_answer a e back d); owner = other_owned d w.owner }

  -- and while the owner is told taken no more it says that of no other either
  pub other_taken : (e.station ≡ a → ⊥) → Follows a false u back → Follows a false (taken_by u e.station) (e ∷ back)
  other_taken d w = record { answered = same_answered u e.station ∙ w.answered ∙ sym (had_other is_answer a e back d); knows = go w.knows }
    where
      none : had_since is_taken_line a back ≡ false → had_since is_taken_line a (e ∷ back) ≡ false
      none y = had_other is_taken_line a e back d ∙ y

      by_owner : {o : ℕ} → u.owner ≡ Some o → (o ≡ a → ⊥) → had_since is_taken_line a back ≡ false → (t : Bool) → eqb o e.station ≡ t
          → Knows a (taken_by u e.station) (e ∷ back) false
      by_owner {o} x f y true q = subst (λ (v : UnderWay). Knows a v (e ∷ back) false) (sym (moved u e.station (Some o) x q)) (too_late refl d (none y))
      by_owner {o} x f y false q = subst (λ (v : UnderWay). Knows a v (e ∷ back) false) (sym (unmoved u e.station (Some o) x q)) (too_late x f (none y))

      go : Knows a u back false → Knows a (taken_by u e.station) (e ∷ back) false
      go (owned w) = owned (other_owned d w)
      go (not_yet x y) = subst (λ (v : UnderWay). Knows a v (e ∷ back) false) (sym (moved u e.station None x refl)) (too_late refl d (none y))
      go (too_late {o = o} x f y) = by_owner x f y (eqb o e.station) refl

  -- the owner's own lines: taken, answer
  pub own_taken : e.station ≡ a → e.word ≡ taken → Follows a true u back → Follows a true (taken_by u e.station) (e ∷ back)
  own_taken s t w =
      record {
        answered = same_answered u e.station ∙ w.answered ∙ sym (had_same is_answer a e back (ap is_owns t) (ap is_answer t));
        knows = owned (go w.knows);
      }
    where
      now : (o : Option ℕ) → u.owner ≡ o → may_be_owner o e.station ≡ true → Owned a (taken_by u e.station) (e ∷ back)
      now o q m =
          subst (λ (v : UnderWay). Owned a v (e ∷ back)) (sym (moved u e.station o q m))
          (record { owner = ap Some s; told = sym (had_now is_taken_line a e back s (ap is_owns t) (ap is_taken_line t)) })

      go : Knows a u back true → Owned a (taken_by u e.station) (e ∷ back)
      go (owned w) = now (Some a) w.owner (eq-eqb a e.station (sym s))
      go (not_yet x y) = now None x refl

  pub own_answer : {more : Bool} → e.station ≡ a → e.word ≡ answer → Follows a more u back → Follows a more (answered_in u) (e ∷ back)
  own_answer {more} s t w =
      record { answered = sym (had_now is_answer a e back s (ap is_owns t) (ap is_answer t)); knows = go w.knows }
    where
      same : had_since is_taken_line a (e ∷ back) ≡ had_since is_taken_line a back
      same = had_same is_taken_line a e back (ap is_owns t) (ap is_taken_line t)

      go : {m : Bool} → Knows a u back m → Knows a (answered_in u) (e ∷ back) m
      go (owned w) = owned (record { owner = w.owner; told = w.told ∙ sym same })
      go (not_yet x y) = not_yet x (same ∙ y)
      go (too_late x d y) = too_late x d (same ∙ y)

-- ---- and so it counts

module _ {a : ℕ} {more : Bool} {u : UnderWay} {back : List Event} (zz : ℕ) (w : Follows a more u back) where
  by_answer : cond (wants_answer zz) u.answered true ≡ cond (is_slave_address zz) (had_since is_answer a back) true
  by_answer = rw (slave_address zz, w.answered)

  pub counts_as : is_taken u a zz ≡ got_through a zz back
  unfolding is_taken got_through
  counts_as = go w.knows
    where
      untaken : (o : Option ℕ) → u.owner ≡ o → is_owner o a ≡ false → had_since is_taken_line a back ≡ false
          → cond (is_owner u.owner a) (cond u.told (cond (wants_answer zz) u.answered true) false) false
          ≡ cond (had_since is_taken_line a back) (cond (is_slave_address zz) (had_since is_answer a back) true) false
      untaken o q n y = rw (q, n, y)

      go : {m : Bool} → Knows a u back m
          → cond (is_owner u.owner a) (cond u.told (cond (wants_answer zz) u.answered true) false) false
          ≡ cond (had_since is_taken_line a back) (cond (is_slave_address zz) (had_since is_answer a back) true) false
      go (owned x) = rw (x.owner, eq-eqb a a refl, x.told, by_answer)
      go (not_yet q y) = untaken None q refl y
      go (too_late {o = o} q d y) = untaken (Some o) q (ne_eqb o a d) y
