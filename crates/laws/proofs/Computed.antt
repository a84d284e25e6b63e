-- A test that antt computes at each entry of a list, or at each number below a bound, and so holds at each of them.
-- Assumes nothing.
use mathlib.Core.Path.{◌≡◌, refl, sym, subst, ◌∙◌}
use mathlib.Core.Bool.{Bool, true, false, beq}
use mathlib.Core.List.{List, [], ◌∷◌}
use mathlib.Core.Logic.{⊎_elim}
use Prim.Native.Nat.{ℕ, zero, suc, ◌+◌, ◌<◌}
use native.Mathlib.Nat.{add-zero, zero-add, add-suc, suc-add, le_of_suc-le-suc, not-suc-le-zero, eq-or-lt_of_le}
use lib.Dec.{T, eqb, eqb→eq}
use lib.ListN.{length, get_or}

-- the first test of two, and the second only where the first passes
abbrev pub both : Bool → Bool → Bool
both true b = b
both false b = false

pub both_left : (a b : Bool) → T (both a b) → T a
both_left true b t = tt
both_left false b t = t

pub both_right : (a b : Bool) → T (both a b) → T b
both_right true b t = t
both_right false b t = absurd t

-- the test passes at each number below n
abbrev pub all : (ℕ → Bool) → ℕ → Bool
all f zero = true
all f (suc n) = both (f n) (all f n)

pub below : (f : ℕ → Bool) (n : ℕ) → T (all f n) → (k : ℕ) → k < n → T (f k)
below f zero t k h = absurd (not-suc-le-zero h)
below f (suc n) t k h =
    ⊎_elim (λ e. subst (λ (m : ℕ). T (f m)) (sym e) (both_left (f n) (all f n) t)) (λ l. below f n (both_right (f n) (all f n) t) k l)
    (eq-or-lt_of_le (le_of_suc-le-suc h))

-- two functions of a number agree below n where antt computes that they do: numbers, and tests
pub same : (f g : ℕ → ℕ) (n : ℕ) → T (all (λ k. eqb (f k) (g k)) n) → (k : ℕ) → k < n → f k ≡ g k
same f g n t k h = eqb→eq (f k) (g k) (below (λ k. eqb (f k) (g k)) n t k h)

beq→eq : (a b : Bool) → T (beq a b) → a ≡ b
beq→eq true true t = refl
beq→eq true false t = absurd t
beq→eq false true t = absurd t
beq→eq false false t = refl

pub alike : (f g : ℕ → Bool) (n : ℕ) → T (all (λ k. beq (f k) (g k)) n) → (k : ℕ) → k < n → f k ≡ g k
alike f g n t k h = beq→eq (f k) (g k) (below (λ k. beq (f k) (g k)) n t k h)

one_if : Bool → ℕ
one_if true = 1
one_if false = 0

-- at how many numbers below n the test passes
unfoldable pub count : (ℕ → Bool) → ℕ → ℕ
unfolding one_if
count f zero = 0
count f (suc n) = one_if (f n) + count f n

-- the test passes at each entry of the list with its place, counted from i
abbrev pub every : (ℕ → ℕ → Bool) → ℕ → List ℕ → Bool
every f i [] = true
every f i (x ∷ xs) = both (f i x) (every f (suc i) xs)

every_from : (f : ℕ → ℕ → Bool) (xs : List ℕ) (i : ℕ) → T (every f i xs) → (k : ℕ) → k < length xs → T (f (i + k) (get_or xs k 0))
every_from f [] i t k h = absurd (not-suc-le-zero h)
every_from f (x ∷ xs) i t zero h =
    subst (λ (m : ℕ). T (f m x)) (sym (add-zero i)) (both_left (f i x) (every f (suc i) xs) t)
every_from f (x ∷ xs) i t (suc k) h =
    subst (λ (m : ℕ). T (f m (get_or xs k 0))) (suc-add i k ∙ sym (add-suc i k))
    (every_from f xs (suc i) (both_right (f i x) (every f (suc i) xs) t) k (le_of_suc-le-suc h))

-- a table whose every entry antt computes to be g of its place holds g
pub table_holds : (g : ℕ → ℕ) (table : List ℕ) → T (every (λ k x. eqb x (g k)) 0 table) → (k : ℕ) → k < length table → get_or table k 0 ≡ g k
table_holds g table t k h =
    eqb→eq (get_or table k 0) (g k)
    (subst (λ (m : ℕ). T (eqb (get_or table k 0) (g m))) (zero-add k) (every_from (λ k x. eqb x (g k)) table 0 t k h))
