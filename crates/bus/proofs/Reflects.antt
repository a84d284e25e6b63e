-- Tests and what they test; the lines of 01's table in their order; a search and what it looks for. Assumes nothing.
use Rattle.std.proofs.Common.{◌≡◌, ℕ, zero, suc, ◌<◌, Bool, true, false, cond, eqb, ltb, ◌≢◌, ◌⊎◌, ◌↔◌, List, [], ◌∷◌, length, get_or, sym, refl, ◌∙◌, inl, inr, ⊎_elim, true≢false, arith, ltb-true, lt-ltb, eq-eqb, eqb-true}
use mathlib.Core.Bool.{false≢true}
use Rattle.laws.specs.First.{first_from, is_found}
use Rattle.std.specs.Prelude.{Some}
use Rattle.bus.specs.Bus.{Answer}
use Rattle.bus.specs.Conditions.{number_given, Any, here, there, First, first, later, Unless}
use Rattle.laws.proofs.FirstIs.{FoundAt}

-- the test passes exactly when C holds
abbrev pub Reflects : Bool → Type 0 → Type 0
Reflects t C = (t ≡ true) ↔ C

pub refuses : {C : Type 0} (t : Bool) → Reflects t C → t ≡ false → C → ⊥
refuses t r e c = false≢true (sym e ∙ r.1 c)

-- ---- tests

pub equal : (a c : ℕ) → Reflects (eqb a c) (a ≡ c)
equal a c = (eqb-true a c, eq-eqb a c)

-- with its sides the other way round
pub equal_turned : (a c : ℕ) → Reflects (eqb a c) (c ≡ a)
equal_turned a c = (λ e. sym (eqb-true a c e), λ e. eq-eqb a c (sym e))

pub below : (a c : ℕ) → Reflects (ltb a c) (a < c)
below a c = (ltb-true a c, lt-ltb a c)

pub or_reflects : {C D : Type 0} (s t : Bool) → Reflects s C → Reflects t D → Reflects (cond s true t) (C ⊎ D)
or_reflects true t r q = (λ e. inl (r.0 refl), λ c. refl)
or_reflects false t r q =
    (λ e. inr (q.0 e), λ c. ⊎_elim (λ x. absurd (refuses false r refl x)) (λ d. q.1 d) c)

pub and_reflects : {C D : Type 0} (s t : Bool) → Reflects s C → Reflects t D → Reflects (cond s t false) (C × D)
and_reflects true t r q = (λ e. (r.0 refl, q.0 e), λ c. q.1 c.1)
and_reflects false t r q = (λ e. absurd (false≢true e), λ c. r.1 c.0)

pub itself : (t : Bool) → Reflects t (t ≡ true)
itself t = (λ e. e, λ e. e)

-- ---- the lines of the table

-- this line: its number is given exactly when it holds
pub this_line : {C : Type 0} (t : Bool) → Reflects t C → (n rest : ℕ) → rest ≢ n → (cond t n rest ≡ n) ↔ C
this_line true r n rest h = (λ e. r.0 refl, λ c. refl)
this_line false r n rest h = (λ e. absurd (h e), λ c. absurd (refuses false r refl c))

-- an earlier line: a later number is given exactly when the earlier line does not hold, and the later one does
pub earlier_line : {C D : Type 0} (t : Bool) → Reflects t C → (m n rest : ℕ) → m ≢ n → (rest ≡ n) ↔ D
    → (cond t m rest ≡ n) ↔ Unless C D
earlier_line true r m n rest h q = (λ e. absurd (h e), λ u. absurd (u.0 (r.0 refl)))
earlier_line false r m n rest h q = (λ e. (refuses false r refl, q.0 e), λ u. q.1 u.1)

-- the last line, whose number is given where its test fails; the call is done where it passes
pub last_line : {C : Type 0} (t : Bool) → ((t ≡ false) ↔ C) → (n : ℕ) → 0 ≢ n → (cond t 0 n ≡ n) ↔ C
last_line true r n h = (λ e. absurd (h e), λ c. absurd (true≢false (r.1 c)))
last_line false r n h = (λ e. r.0 refl, λ c. refl)

-- the call is done exactly where the last line does not hold
pub no_line : {C : Type 0} (t : Bool) → ((t ≡ false) ↔ C) → (n : ℕ) → n ≢ 0 → (cond t 0 n ≡ 0) ↔ (C → ⊥)
no_line true r n h = (λ e c. true≢false (r.1 c), λ f. refl)
no_line false r n h = (λ e. absurd (h e), λ f. absurd (f (r.0 refl)))

-- whichever line it is, the number is one of these
pub either_number : (P : ℕ → Type 0) (t : Bool) (m rest : ℕ) → P m → P rest → P (cond t m rest)
either_number P true m rest p q = p
either_number P false m rest p q = q

pub not_number : (t : Bool) (m rest n : ℕ) → m ≢ n → rest ≢ n → cond t m rest ≢ n
not_number true m rest n h q e = h e
not_number false m rest n h q e = q e

pub number_cond : (t : Bool) (x y : Answer) → number_given (cond t x y) ≡ cond t (number_given x) (number_given y)
number_cond true x y = refl
number_cond false x y = refl

-- ---- a search

pub any_some : {A : Type 0} {P : A → Type 0} {l : List A} → Any P l → 0 < length l
any_some (here p) = omega arith
any_some (there q) = omega arith

pub any_tail : {A : Type 0} {P : A → Type 0} {a : A} {l : List A} → (P a → ⊥) → Any P (a ∷ l) → Any P l
any_tail n (here p) = absurd (n p)
any_tail n (there q) = q

module _ {A : Type 0} (P : A → Type 0) (test : A → Bool) (r : (a : A) → Reflects (test a) (P a)) where
  -- it finds something exactly when there is something
  pub search_reflects : (i : ℕ) (l : List A) → Reflects (is_found (first_from test i l)) (Any P l)
  unfolding first_from
  search_reflects i [] = (λ e. absurd (false≢true e), λ q. absurd (omega (arith, any_some q)))
  search_reflects i (a ∷ l) = go (test a) (r a) (search_reflects (suc i) l)
    where
      go : (t : Bool) → Reflects t (P a) → Reflects (is_found (first_from test (suc i) l)) (Any P l)
          → Reflects (is_found (cond t (Some i) (first_from test (suc i) l))) (Any P (a ∷ l))
      go true q on = (λ e. here (q.0 refl), λ s. refl)
      go false q on = (λ e. there (on.0 e), λ s. on.1 (any_tail (refuses false q refl) s))

  -- what it finds is the first
  pub found_first : (d : A) (l : List A) (j : ℕ) → FoundAt test l d j → First P (get_or l j d) l
  found_first d [] j f = absurd (omega (arith, f.within))
  found_first d (a ∷ l) zero f = first ((r a).0 f.passes)
  found_first d (a ∷ l) (suc j) f =
      later (refuses (test a) (r a) (f.before 0 (omega arith)))
      (found_first d l j
      (record { within = omega (arith, f.within); passes = f.passes; before = λ m h. f.before (suc m) (omega arith) }))

-- there is one first only
pub first_one : {A : Type 0} {P : A → Type 0} {a c : A} {l : List A} → First P a l → First P c l → a ≡ c
first_one (first p) (first q) = refl
first_one (first p) (later n f) = absurd (n p)
first_one (later n f) (first q) = absurd (n q)
first_one (later n f) (later m g) = first_one f g

-- P holds of the first of which it holds
pub first_holds : {A : Type 0} {P : A → Type 0} {a : A} {l : List A} → First P a l → P a
first_holds (first p) = p
first_holds (later n f) = first_holds f
