-- `count_of` counts exactly: so many steps up or down where the float is that number, and none where it is no such number.
-- Assumes nothing.
use Rattle.std.proofs.Common.{◌≡◌, ℕ, ◌+◌, ◌*◌, ◌^◌, ◌<◌, ◌≤◌, Bool, true, false, cond, not, T, ltb, ◌⊎◌, pos, sym, refl, ap, ◌∙◌, subst, inl, inr, true≢false, eq-zero-or-pos, mul-lt-mul_of_pos_right, mul-pos, zero-mul, arith, le→leb, pow_pos, ltb-true, le-ltb, lt-ltb, Option, Some, None}
use lib.Ieee.{Float, nan, inf, fin, binary32, up, down, round, of_int, in_float, to_unsigned, mul, neg, eq, lt}
use lib.Ieee.Back.{round_whole, unsigned_back}
use lib.Ieee.Bits.{is_true}
use lib.Ieee.Exact.{HasValue}
use lib.Ieee.Fits.{down_pos}
use Rattle.value.specs.Steps.{per, steps_of, size_of, upward, downward, count_of}
use Rattle.value.specs.declared.steps.Count.{Count}
use Rattle.value.specs.declared.steps.Count.TheVariants.{Up, Down}
use Rattle.value.proofs.Exact.{Number, product_is, steps_are, negated, equal_then, number_then}

abbrev zero_float : Float
zero_float = fin false 0 (pos 0)

-- ---- a size that is found is right

abbrev Sized : ℕ → Float → Option ℕ → Type 0
Sized k x (Some n) = (n < 16777216) × Number x false n (2 ^ k)
Sized k x None = Unit {0}

tests_right : (k n : ℕ) (x : Float) → k ≤ 149 → (a b c d : Bool) → ltb n 16777216 ≡ c → eq (steps_of (per k) n) x ≡ d
    → Sized k x (cond a (cond b (cond c (cond d (Some n) None) None) None) None)
tests_right k n x K true true true true e f =
    let N : n < 16777216 = ltb-true n 16777216 e in
    (N, equal_then (steps_of (per k) n) x false n k (steps_are k n K N) (subst T (sym f) tt))
tests_right k n x K true true true false e f = tt
tests_right k n x K true true false d e f = tt
tests_right k n x K true false c d e f = tt
tests_right k n x K false b c d e f = tt

pub size_right : (k : ℕ) (x : Float) → k ≤ 149 → Sized k x (size_of (per k) x)
unfolding size_of
size_right k x K =
    let y : Float = mul binary32 x (per k) in
    tests_right k (to_unsigned 64 y) x K (lt (fin true 1 (pos 0)) y) (lt y (fin false 1 (pos 64)))
    (ltb (to_unsigned 64 y) 16777216) (eq (steps_of (per k) (to_unsigned 64 y)) x) refl refl

-- ---- a size that is there is found

above_minus_one : (y : Float) (n : ℕ) → HasValue y false n 1 → lt (fin true 1 (pos 0)) y ≡ true
unfolding lt
above_minus_one nan n h = absurd h
above_minus_one (inf t) n h = absurd h
above_minus_one (fin true m e) n h = absurd (true≢false h.0)
above_minus_one (fin false m e) n h = lt-ltb 0 (1 * 1 * down e + m * up e * 1) (omega (arith, down_pos e))

below_top : (y : Float) (n : ℕ) → n < 2 ^ 64 → HasValue y false n 1 → lt y (fin false 1 (pos 64)) ≡ true
unfolding lt
below_top nan n l h = absurd h
below_top (inf t) n l h = absurd h
below_top (fin true m e) n l h = absurd (true≢false h.0)
below_top (fin false m e) n l h =
    lt-ltb (m * up e * 1) (1 * 2 ^ 64 * down e)
    (subst (λ (z : ℕ). z < 1 * 2 ^ 64 * down e) (sym h.1) (mul-lt-mul_of_pos_right {n = 1 * 2 ^ 64} l (down_pos e)))

cut_back : (n : ℕ) → n < 16777216 → to_unsigned 64 (round binary32 false n 1) ≡ n
unfolding of_int in_float
cut_back n l = (unsigned_back binary32 64 n (le→leb n (2 ^ 24) (omega arith)) (omega arith)).1

passes : (k n : ℕ) (x y : Float) → mul binary32 x (per k) ≡ y → lt (fin true 1 (pos 0)) y ≡ true → lt y (fin false 1 (pos 64)) ≡ true
    → to_unsigned 64 y ≡ n → n < 16777216 → T (eq (steps_of (per k) n) x) → size_of (per k) x ≡ Some n
unfolding size_of
passes k n x y p a b c l e = simp (p, a, b, c, lt-ltb n 16777216 l, is_true (eq (steps_of (per k) n) x) e)

minus_zero_product : (n : ℕ) → n ≡ 0 → round binary32 true n 1 ≡ fin true 0 (pos 0)
minus_zero_product n z = ap (λ (q : ℕ). round binary32 true q 1) z ∙ (unfold round in refl)

pub size_found : (k n : ℕ) (x : Float) → k ≤ 149 → n < 16777216 → Number x false n (2 ^ k) → size_of (per k) x ≡ Some n
size_found k n x K l g = go g.0 g.1 g.2
  where
    e : T (eq (steps_of (per k) n) x)
    e = number_then (steps_of (per k) n) x false n k (steps_are k n K l) g

    go : (t : Bool) → HasValue x t n (2 ^ k) → (t ≡ false) ⊎ (n ≡ 0) → size_of (per k) x ≡ Some n
    go false h s =
        let w : HasValue (round binary32 false n 1) false n 1 = round_whole binary32 false n (omega arith) in
        passes k n x (round binary32 false n 1) (product_is x false n k h) (above_minus_one _ n w) (below_top _ n (omega arith) w) (cut_back n l) l e
    go true h (inl s) = absurd (true≢false s)
    go true h (inr z) =
        passes k n x (fin true 0 (pos 0)) (product_is x true n k h ∙ minus_zero_product n z) (unfold lt in refl) (unfold lt in refl) (unfold to_unsigned in sym z) l e

-- ---- which floats are below zero

size_none : (m p n d : ℕ) → m * p ≡ n * d → n ≡ 0 → 0 < p → m ≡ 0
size_none m p n d h z P = go (eq-zero-or-pos m)
  where
    go : (m ≡ 0) ⊎ (0 < m) → m ≡ 0
    go (inl a) = a
    go (inr a) = let b = mul-pos a P in absurd (omega (arith, h ∙ ap (λ (q : ℕ). q * d) z ∙ zero-mul d))

size_some : (m p n d : ℕ) → m * p ≡ n * d → 0 < n → 0 < d → 0 < m
size_some m p n d h a D = go (eq-zero-or-pos m)
  where
    go : (m ≡ 0) ⊎ (0 < m) → 0 < m
    go (inr b) = b
    go (inl z) = let b = mul-pos a D in absurd (omega (arith, sym h ∙ ap (λ (q : ℕ). q * p) z ∙ zero-mul p))

pub not_below : (x : Float) (n k : ℕ) → Number x false n (2 ^ k) → lt x zero_float ≡ false
unfolding lt
not_below nan n k g = absurd g.1
not_below (inf r) n k g = absurd g.1
not_below (fin false m e) n k g = le-ltb (m * up e * 1) (0 * 1 * down e) (omega (arith, zero-mul (down e)))
not_below (fin true m e) n k g =
    le-ltb 0 (m * up e * 1 + 0 * 1 * down e) (omega (arith, zero-mul (down e), size_none (m * up e) (2 ^ k) n (down e) g.1.1 (zero g.2) (pow_pos k)))
  where
    zero : (g.0 ≡ false) ⊎ (n ≡ 0) → n ≡ 0
    zero (inl s) = absurd (true≢false (g.1.0 ∙ s))
    zero (inr z) = z

pub is_below : (x : Float) (n k : ℕ) → HasValue x true n (2 ^ k) → 0 < n → lt x zero_float ≡ true
unfolding lt
is_below nan n k h s = absurd h
is_below (inf r) n k h s = absurd h
is_below (fin false m e) n k h s = absurd (true≢false (sym h.0))
is_below (fin true m e) n k h s = lt-ltb 0 (m * up e * 1 + 0 * 1 * down e) (omega (arith, size_some (m * up e) (2 ^ k) n (down e) h.1 s (down_pos e)))

-- ---- the count

-- x is n / 2 ^ k, and not below zero
pub count_up : (k n : ℕ) (x : Float) → k ≤ 149 → n < 16777216 → Number x false n (2 ^ k) → count_of (per k) x ≡ Some (Up n)
unfolding count_of
count_up k n x K l g = simp (not_below x n k g, size_found k n x K l g)

-- x is -n / 2 ^ k, and below zero
pub count_down : (k n : ℕ) (x : Float) → k ≤ 149 → n < 16777216 → HasValue x true n (2 ^ k) → 0 < n → count_of (per k) x ≡ Some (Down n)
unfolding count_of
count_down k n x K l h p = simp (is_below x n k h p, size_found k n (neg x) K l (false, negated x true n (2 ^ k) h, inl refl))

-- and nothing else is counted so
abbrev pub Counted : ℕ → Float → Option Count → Type 0
Counted k x (Some (Up n)) = (n < 16777216) × Number x false n (2 ^ k)
Counted k x (Some (Down n)) = (n < 16777216) × (0 < n) × HasValue x true n (2 ^ k)
Counted k x None = Unit {0}

twice_negated : (x : Float) (s : Bool) (n c : ℕ) → HasValue (neg x) s n c → HasValue x (not s) n c
unfolding neg
twice_negated nan s n c h = h
twice_negated (inf t) s n c h = h
twice_negated (fin true m e) false n c h = (refl, h.1)
twice_negated (fin true m e) true n c h = absurd (true≢false (sym h.0))
twice_negated (fin false m e) false n c h = absurd (true≢false h.0)
twice_negated (fin false m e) true n c h = (refl, h.1)

pub count_right : (k : ℕ) (x : Float) → k ≤ 149 → Counted k x (count_of (per k) x)
unfolding count_of
count_right k x K = go (lt x zero_float) refl
  where
    minus : (n : ℕ) → lt x zero_float ≡ true → (t : Bool) → HasValue (neg x) t n (2 ^ k) → (t ≡ false) ⊎ (n ≡ 0) → (0 < n) × HasValue x true n (2 ^ k)
    minus n b t h s = more (eq-zero-or-pos n) s
      where
        more : (n ≡ 0) ⊎ (0 < n) → (t ≡ false) ⊎ (n ≡ 0) → (0 < n) × HasValue x true n (2 ^ k)
        more (inl z) s = absurd (true≢false (sym b ∙ not_below x n k (not t, twice_negated x t n (2 ^ k) h, inr z)))
        more (inr p) (inl f) = (p, subst (λ (r : Bool). HasValue x (not r) n (2 ^ k)) f (twice_negated x t n (2 ^ k) h))
        more (inr p) (inr z) = absurd (omega arith)

    below : lt x zero_float ≡ true → (r : Option ℕ) → Sized k (neg x) r → Counted k x (downward r)
    below b None s = tt
    below b (Some n) s = let m = minus n b s.1.0 s.1.1 s.1.2 in (s.0, m.0, m.1)

    above : (r : Option ℕ) → Sized k x r → Counted k x (upward r)
    above None s = tt
    above (Some n) s = s

    go : (b : Bool) → lt x zero_float ≡ b → Counted k x (cond b (downward (size_of (per k) (neg x))) (upward (size_of (per k) x)))
    go true b = below b (size_of (per k) (neg x)) (size_right k (neg x) K)
    go false b = above (size_of (per k) x) (size_right k x K)
