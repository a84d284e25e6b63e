-- An f32 of a sign and an exact size is one float; what is written for a float stands for that float, and minus zero for zero.
-- Assumes nothing.
use Rattle.std.proofs.Common.{◌≡◌, ℕ, ◌+◌, ◌-◌, ◌*◌, ◌/◌, ◌^◌, ◌<◌, ◌≤◌, Bool, true, false, cond, T, ◌⊎◌, ℤ, sym, refl, ap, ◌∙◌, subst, inl, inr, eq-zero-or-pos, zero-mul, mul_right_comm, arith, pow_pos}
use native.Mathlib.Nat.{eq_of_mul-eq-mul_right}
use lib.Ieee as Ieee
use lib.Ieee.{Float, nan, inf, fin, binary32, prec, up, down, hid, top, eq, fits, of_bits, to_bits}
use lib.Ieee.Bits.{of_bits-to_bits, is_true}
use lib.Ieee.Exact.{HasValue}
use lib.Ieee.Fits.{down_pos}
use lib.Ieee.Nearest.{div_same}
use Rattle.value.specs.Claims.{zero_float, plain_float}
use Rattle.value.specs.Steps.{per, count_of}
use Rattle.value.proofs.Counted.{count_up}
use Rattle.value.proofs.Exact.{Number, crossed, equal_then, number_then}

-- ---- sign and size make the bits

same_bits : (s : Bool) (m : ℕ) (e : ℤ) (n : ℕ) (d : ℤ) → m * up e * down d ≡ n * up d * down e → to_bits binary32 (fin s m e) ≡ to_bits binary32 (fin s n d)
unfolding to_bits
same_bits s m e n d h =
    let l = 2 ^ Ieee.low binary32 in
    ap (λ (z : ℕ). cond s (top binary32) 0 + (Ieee.size z - prec binary32) * hid binary32 + z / 2 ^ (Ieee.size z - prec binary32))
    (div_same (m * up e * l) (down e) (n * up d * l) (down d) (down_pos e) (down_pos d)
    (mul_right_comm (m * up e) l (down d) ∙ ap (λ (z : ℕ). z * l) h ∙ mul_right_comm (n * up d) (down e) l))

pub one_float : (x y : Float) (s : Bool) (n c : ℕ) → 0 < c → T (fits binary32 x) → T (fits binary32 y) → HasValue x s n c → HasValue y s n c → x ≡ y
one_float nan y s n c C F G h g = absurd h
one_float (inf r) y s n c C F G h g = absurd h
one_float (fin r m e) nan s n c C F G h g = absurd g
one_float (fin r m e) (inf t) s n c C F G h g = absurd g
one_float (fin r m e) (fin t l d) s n c C F G h g =
    sym (of_bits-to_bits binary32 (fin r m e) F)
    ∙ ap (λ (b : Bool). of_bits binary32 (to_bits binary32 (fin b m e))) (h.0 ∙ sym g.0)
    ∙ ap (of_bits binary32) (same_bits t m e l d (crossed (m * up e) (down e) (l * up d) (down d) c n C h.1 g.1))
    ∙ of_bits-to_bits binary32 (fin t l d) G

-- ---- zero, and what is not

zero_is : (c : ℕ) → HasValue zero_float false 0 c
zero_is c = (refl, zero-mul c)

one_size : (x : Float) (s t : Bool) (n c : ℕ) → 0 < c → HasValue x s 0 c → HasValue x t n c → n ≡ 0
one_size nan s t n c C h g = absurd h
one_size (inf r) s t n c C h g = absurd h
one_size (fin r m e) s t n c C h g = eq_of_mul-eq-mul_right (down e) (down_pos e) n 0 (sym g.1 ∙ h.1)

pub zero_plain : (x : Float) (k : ℕ) → Number x false 0 (2 ^ k) → plain_float x ≡ zero_float
zero_plain x k g = simp (is_true (eq zero_float x) (number_then zero_float x false 0 k (zero_is (2 ^ k)) g))

pub other_plain : (x : Float) (t : Bool) (n k : ℕ) → HasValue x t n (2 ^ k) → 0 < n → plain_float x ≡ x
other_plain x t n k h p = go (eq zero_float x) refl
  where
    go : (b : Bool) → eq zero_float x ≡ b → cond b zero_float x ≡ x
    go false e = refl
    go true e =
        let z = equal_then zero_float x false 0 k (zero_is (2 ^ k)) (subst T (sym e) tt) in
        absurd (omega (arith, one_size x z.0 t n (2 ^ k) (pow_pos k) z.1 h))

-- ---- the float that so many steps are is the one that was counted

pub comes_back : (x v : Float) (s : Bool) (n k : ℕ) → T (fits binary32 x) → T (fits binary32 v) → HasValue v s n (2 ^ k) → (n ≡ 0 → s ≡ false)
    → Number x s n (2 ^ k) → v ≡ plain_float x
comes_back x v s n k F G h S g = go (eq-zero-or-pos n)
  where
    go : (n ≡ 0) ⊎ (0 < n) → v ≡ plain_float x
    go (inl z) =
        let sf : s ≡ false = S z in
        let h0 : HasValue v false 0 (2 ^ k) = subst (λ (q : ℕ). HasValue v false q (2 ^ k)) z (subst (λ (r : Bool). HasValue v r n (2 ^ k)) sf h) in
        let g0 : Number x false 0 (2 ^ k) = (g.0, subst (λ (q : ℕ). HasValue x g.0 q (2 ^ k)) z g.1, inr refl) in
        one_float v zero_float false 0 (2 ^ k) (pow_pos k) G (unfold fits in tt) h0 (zero_is (2 ^ k)) ∙ sym (zero_plain x k g0)
    go (inr p) = one_float v x s n (2 ^ k) (pow_pos k) G F h (signed g.2) ∙ sym (other_plain x g.0 n k g.1 p)
      where
        signed : (g.0 ≡ s) ⊎ (n ≡ 0) → HasValue x s n (2 ^ k)
        signed (inl e) = subst (λ (r : Bool). HasValue x r n (2 ^ k)) e g.1
        signed (inr z) = absurd (omega arith)

-- ---- minus zero counts as zero does

pub plain_counts : (k : ℕ) (x : Float) → k ≤ 149 → count_of (per k) (plain_float x) ≡ count_of (per k) x
plain_counts k x K = go (eq zero_float x) refl
  where
    go : (b : Bool) → eq zero_float x ≡ b → count_of (per k) (cond b zero_float x) ≡ count_of (per k) x
    go false e = refl
    go true e =
        count_up k 0 zero_float K (omega arith) (false, zero_is (2 ^ k), inl refl)
        ∙ sym (count_up k 0 x K (omega arith) (equal_then zero_float x false 0 k (zero_is (2 ^ k)) (subst T (sym e) tt)))
