-- Floats that are n / 2 ^ k exactly: steps are, their product by 2 ^ k is n, and two of them are equal exactly when they are the same
-- number. `HasValue x s n c` of the kit says that x is finite, has the sign s, and is n / c in size. Assumes nothing.
use Rattle.std.proofs.Common.{◌≡◌, ℕ, ◌+◌, ◌-◌, ◌*◌, ◌^◌, ◌<◌, ◌≤◌, Bool, true, false, not, ◌||◌, T, eqb, ◌⊎◌, sym, refl, ap, ◌∙◌, subst, inl, inr, lt_of_lt_of_le, zero-lt-suc, mul_assoc, mul_comm, mul-pos, one-mul, zero-mul, mul-one, mul_right_comm, mul_left_comm, arith, eqb→eq, pow_pos, pow_mono, pow-add, shl_lt}
use mathlib.Core.Bool.{beq}
use native.Mathlib.Nat.{eq_of_mul-eq-mul_right}
use lib.Ieee.{Float, nan, inf, fin, binary32, up, down, unlike, round, of_int, mul, div, neg, eq}
use lib.Ieee.Back.{round_whole}
use lib.Ieee.Exact.{HasValue, round_exact}
use lib.Ieee.Fits.{down_pos, and_i, and_l, and_r, eq→eqb}
use lib.Ieee.Scale.{round_same}
use Rattle.value.specs.Steps.{per, steps_of}

plus_keeps : (s : Bool) → unlike s false ≡ s
plus_keeps true = refl
plus_keeps false = refl

-- ---- quotient and product by 2 ^ k

quotient_sizes : (m d n p : ℕ) → m * 1 ≡ n * d → m * 1 * p ≡ n * (1 * p * d)
quotient_sizes m d n p h = ap (λ (z : ℕ). z * p) h ∙ simp (one-mul, mul_assoc, mul_comm, mul_left_comm)

quotient_is : (x : Float) (s : Bool) (n k : ℕ) → HasValue x s n 1 → div binary32 x (per k) ≡ round binary32 s n (2 ^ k)
unfolding div
quotient_is nan s n k h = absurd h
quotient_is (inf t) s n k h = absurd h
quotient_is (fin t m e) s n k h =
    ap (λ (b : Bool). round binary32 b (m * up e * 1) (1 * 2 ^ k * down e)) (plus_keeps t ∙ h.0)
    ∙ round_same binary32 s (m * up e * 1) (1 * 2 ^ k * down e) n (2 ^ k) (mul-pos (mul-pos (zero-lt-suc 0) (pow_pos k)) (down_pos e)) (pow_pos k)
    (quotient_sizes (m * up e) (down e) n (2 ^ k) h.1)

product_sizes : (m d n p : ℕ) → m * p ≡ n * d → m * (1 * p) * 1 ≡ n * (d * 1)
product_sizes m d n p h = simp (one-mul, mul-one) h

pub product_is : (x : Float) (s : Bool) (n k : ℕ) → HasValue x s n (2 ^ k) → mul binary32 x (per k) ≡ round binary32 s n 1
unfolding mul
product_is nan s n k h = absurd h
product_is (inf t) s n k h = absurd h
product_is (fin t m e) s n k h =
    ap (λ (b : Bool). round binary32 b (m * up e * (1 * 2 ^ k)) (down e * 1)) (plus_keeps t ∙ h.0)
    ∙ round_same binary32 s (m * up e * (1 * 2 ^ k)) (down e * 1) n 1 (mul-pos (down_pos e) (zero-lt-suc 0)) (zero-lt-suc 0)
    (product_sizes (m * up e) (down e) n (2 ^ k) h.1)

-- ---- n steps are n / 2 ^ k, with nothing rounded: n has at most 24 digits, and 2 ^ k is no smaller than the format's smallest step

pub steps_are : (k n : ℕ) → k ≤ 149 → n < 16777216 → HasValue (steps_of (per k) n) false n (2 ^ k)
unfolding steps_of of_int
steps_are k n K N =
    let whole : (149 - k) + k ≡ 149 = omega arith in
    let room : 24 + (149 - k) ≤ 277 = omega arith in
    subst (λ (x : Float). HasValue x false n (2 ^ k)) (sym (quotient_is (round binary32 false n 1) false n k (round_whole binary32 false n (omega arith))))
    (round_exact binary32 false n (2 ^ k) n (149 - k) (pow_pos k) N (lt_of_lt_of_le (shl_lt 24 (149 - k) N) (pow_mono room))
    (ap (λ (z : ℕ). n * 2 ^ z) (sym whole) ∙ ap (λ (z : ℕ). n * z) (pow-add 2 (149 - k) k) ∙ sym (mul_assoc n (2 ^ (149 - k)) (2 ^ k))))

pub negated : (x : Float) (s : Bool) (n c : ℕ) → HasValue x s n c → HasValue (neg x) (not s) n c
unfolding neg
negated nan s n c h = h
negated (inf t) s n c h = h
negated (fin t m e) s n c h = (ap not h.0, h.1)

-- ---- equal floats are the same number: of the same sign, or zero

-- x is n / c, with the sign s unless it is zero
abbrev pub Number : Float → Bool → ℕ → ℕ → Type 0
Number x s n c = (t : Bool) × HasValue x t n c × ((t ≡ s) ⊎ (n ≡ 0))

first_zero : (a b : ℕ) → 0 < b → a * b ≡ 0 → a ≡ 0
first_zero a b h e = eq_of_mul-eq-mul_right b h a 0 (e ∙ sym (zero-mul b))

carried : (m e n d p q : ℕ) → 0 < e → m * d ≡ n * e → m * p ≡ q * e → n * p ≡ q * d
carried m e n d p q h a b =
    eq_of_mul-eq-mul_right e h (n * p) (q * d)
    (mul_right_comm n p e ∙ ap (λ (z : ℕ). z * p) (sym a) ∙ mul_right_comm m d p ∙ ap (λ (z : ℕ). z * d) b ∙ mul_right_comm q e d)

no_size : (m e d p q : ℕ) → 0 < e → 0 < d → m * d ≡ 0 → m * p ≡ q * e → q ≡ 0
no_size m e d p q E D z h = first_zero q e E (sym h ∙ ap (λ (n : ℕ). n * p) (first_zero m d D z) ∙ zero-mul p)

like_or : (s t b : Bool) → T (beq s t || b) → (t ≡ s) ⊎ T b
like_or true true b h = inl refl
like_or false false b h = inl refl
like_or true false b h = inr h
like_or false true b h = inr h

pub equal_then : (v x : Float) (s : Bool) (n k : ℕ) → HasValue v s n (2 ^ k) → T (eq v x) → Number x s n (2 ^ k)
unfolding eq
equal_then nan x s n k h e = absurd h
equal_then (inf r) x s n k h e = absurd h
equal_then (fin r m d) nan s n k h e = absurd e
equal_then (fin r m d) (inf t) s n k h e = absurd e
equal_then (fin r m d) (fin t l f) s n k h e =
    let a : Bool = eqb (m * up d * down f) (l * up f * down d) in
    let b : Bool = eqb (m * up d * down f) 0 in
    let same = eqb→eq (m * up d * down f) (l * up f * down d) (and_l a (beq r t || b) e) in
    (t, (refl, carried (m * up d) (down d) (l * up f) (down f) (2 ^ k) n (down_pos d) same h.1), sign (like_or r t b (and_r a (beq r t || b) e)))
  where
    sign : ((t ≡ r) ⊎ T (eqb (m * up d * down f) 0)) → (t ≡ s) ⊎ (n ≡ 0)
    sign (inl g) = inl (g ∙ h.0)
    sign (inr z) = inr (no_size (m * up d) (down d) (down f) (2 ^ k) n (down_pos d) (down_pos f) (eqb→eq (m * up d * down f) 0 z) h.1)

-- ---- and the same number makes equal floats

pub crossed : (m e n d p q : ℕ) → 0 < p → m * p ≡ q * e → n * p ≡ q * d → m * d ≡ n * e
crossed m e n d p q h a b =
    eq_of_mul-eq-mul_right p h (m * d) (n * e)
    (mul_right_comm m d p ∙ ap (λ (z : ℕ). z * d) a ∙ mul_right_comm q e d ∙ ap (λ (z : ℕ). z * e) (sym b) ∙ mul_right_comm n p e)

or_like : (s t b : Bool) → (t ≡ s) ⊎ T b → T (beq s t || b)
or_like true true b h = tt
or_like false false b h = tt
or_like true false b (inl h) = absurd (subst (λ (c : Bool). T (not c)) h tt)
or_like true false b (inr h) = h
or_like false true b (inl h) = absurd (subst T h tt)
or_like false true b (inr h) = h

pub number_then : (v x : Float) (s : Bool) (n k : ℕ) → HasValue v s n (2 ^ k) → Number x s n (2 ^ k) → T (eq v x)
unfolding eq
number_then nan x s n k h g = absurd h
number_then (inf r) x s n k h g = absurd h
number_then (fin r m d) nan s n k h g = absurd g.1
number_then (fin r m d) (inf t) s n k h g = absurd g.1
number_then (fin r m d) (fin t l f) s n k h g =
    and_i (eqb (m * up d * down f) (l * up f * down d)) (beq r t || eqb (m * up d * down f) 0)
    (eq→eqb (crossed (m * up d) (down d) (l * up f) (down f) (2 ^ k) n (pow_pos k) h.1 g.1.1))
    (or_like r t (eqb (m * up d * down f) 0) (sign g.2))
  where
    sign : ((g.0 ≡ s) ⊎ (n ≡ 0)) → (t ≡ r) ⊎ T (eqb (m * up d * down f) 0)
    sign (inl e) = inl (g.1.0 ∙ e ∙ sym h.0)
    sign (inr z) = inr (eq→eqb (ap (λ (q : ℕ). q * down f) (first_zero (m * up d) (2 ^ k) (pow_pos k) (h.1 ∙ ap (λ (q : ℕ). q * down d) z ∙ zero-mul (down d))) ∙ zero-mul (down f)))
