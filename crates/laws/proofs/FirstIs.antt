-- What a search through a list found: the first element that passes the test, or that none does. Assumes nothing.
use mathlib.Core.Path.{◌≡◌, refl, ap}
use mathlib.Core.Bool.{Bool, true, false, cond, true≢false, false≢true}
use mathlib.Core.List.{List, [], ◌∷◌, ◌++◌}
use Prim.Native.Nat.{ℕ, zero, suc, ◌+◌, ◌<◌}
use native.Mathlib.Omega.{arith}
use lib.ListN.{length, get_or}
use Rattle.laws.specs.First.{first_from, is_found}
use Rattle.std.specs.Prelude.{Option, Some, None}

-- P holds of each element
pub data Every {A : Type 0} (P : A → Type 0) : List A → Type 0 where
  none : Every P []
  next : {a : A} {l : List A} → P a → Every P l → Every P (a ∷ l)

pub every_map : {A : Type 0} {P Q : A → Type 0} → ((a : A) → P a → Q a) → {l : List A} → Every P l → Every Q l
every_map f none = none
every_map f (next {a = a} p ps) = next (f a p) (every_map f ps)

pub every_append : {A : Type 0} {P : A → Type 0} {l r : List A} → Every P l → Every P r → Every P (l ++ r)
every_append none rs = rs
every_append (next q qs) rs = next q (every_append qs rs)

pub every_behind : {A : Type 0} {P : A → Type 0} (l : List A) {r : List A} → Every P (l ++ r) → Every P r
every_behind [] qs = qs
every_behind (a ∷ l) (next q qs) = every_behind l qs

-- the place where a search came to
abbrev pub place_of : Option ℕ → ℕ
place_of (Some i) = i
place_of None = 0

-- None: the test fails at each
pub missing_each : {A : Type 0} (test : A → Bool) (i : ℕ) (l : List A) → first_from test i l ≡ None
    → Every (λ a. test a ≡ false) l
unfolding first_from
missing_each test i [] e = none
missing_each {A} test i (a ∷ l) e = go (test a) refl (missing_each test (suc i) l) e
  where
    go : (t : Bool) → test a ≡ t → (first_from test (suc i) l ≡ None → Every (λ (a : A). test a ≡ false) l)
        → cond t (Some i) (first_from test (suc i) l) ≡ None → Every (λ (a : A). test a ≡ false) (a ∷ l)
    go true q on e = absurd (true≢false (ap is_found e))
    go false q on e = next q (on e)

-- where the test fails at each, it is None
pub each_missing : {A : Type 0} (test : A → Bool) (i : ℕ) {l : List A} → Every (λ a. test a ≡ false) l
    → first_from test i l ≡ None
unfolding first_from
each_missing test i none = refl
each_missing test i (next q qs) = rw (q) (each_missing test (suc i) qs)

-- Some j: j is below the length, the test passes there and fails before
pub record FoundAt {A : Type 0} (test : A → Bool) (l : List A) (d : A) (j : ℕ) : Type 0 where
  pub within : j < length l
  pub passes : test (get_or l j d) ≡ true
  pub before : (m : ℕ) → m < j → test (get_or l m d) ≡ false

-- counted from i
found_from : {A : Type 0} (test : A → Bool) (d : A) (i k : ℕ) (l : List A) → first_from test i l ≡ Some k
    → (j : ℕ) × (k ≡ i + j) × FoundAt test l d j
unfolding first_from
found_from test d i k [] e = absurd (false≢true (ap is_found e))
found_from {A} test d i k (a ∷ l) e = go (test a) refl (found_from test d (suc i) k l) e
  where
    further : test a ≡ false → ((j : ℕ) × (k ≡ suc i + j) × FoundAt test l d j) → (j : ℕ) × (k ≡ i + j) × FoundAt test (a ∷ l) d j
    further q (j, p, f) = (
      suc j,
      omega arith,
      record { within = omega (arith, f.within); passes = f.passes; before = unfound },
    )
      where
        unfound : (m : ℕ) → m < suc j → test (get_or (a ∷ l) m d) ≡ false
        unfound zero h = q
        unfound (suc m) h = f.before m (omega arith)

    go : (t : Bool) → test a ≡ t → (first_from test (suc i) l ≡ Some k → (j : ℕ) × (k ≡ suc i + j) × FoundAt test l d j)
        → cond t (Some i) (first_from test (suc i) l) ≡ Some k → (j : ℕ) × (k ≡ i + j) × FoundAt test (a ∷ l) d j
    go true q on e =
        let p : i ≡ k = ap place_of e in
        (0, omega arith, record { within = omega arith; passes = q; before = λ m h. absurd (omega arith) })
    go false q on e = further q (on e)

pub found_at : {A : Type 0} (test : A → Bool) (d : A) (k : ℕ) (l : List A) → first_from test 0 l ≡ Some k → FoundAt test l d k
found_at test d k l e = go (found_from test d 0 k l e)
  where
    go : (j : ℕ) × (k ≡ 0 + j) × FoundAt test l d j → FoundAt test l d k
    go (j, p, f) =
        let q : k ≡ j = omega arith in
        rw q f

-- None: the test fails at each place
pub missing_at : {A : Type 0} (test : A → Bool) (d : A) (l : List A) → first_from test 0 l ≡ None
    → (j : ℕ) → j < length l → test (get_or l j d) ≡ false
missing_at {A} test d l e = go l (missing_each test 0 l e)
  where
    go : (l : List A) → Every (λ (a : A). test a ≡ false) l → (j : ℕ) → j < length l → test (get_or l j d) ≡ false
    go [] none j h = absurd (omega arith)
    go (a ∷ l) (next q qs) zero h = q
    go (a ∷ l) (next q qs) (suc j) h = go l qs j (omega arith)
