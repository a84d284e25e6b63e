-- Signed numbers of 16 bits in steps of 1 / 2 ^ k: read, written, and back. DATA2b is k = 8, DATA2c is k = 4. Assumes nothing.
use Rattle.std.proofs.Common.{◌≡◌, ℕ, suc, ◌+◌, ◌-◌, ◌*◌, ◌/◌, ◌%◌, ◌^◌, ◌<◌, ◌≤◌, Bool, true, false, cond, T, eqb, ltb, ◌≢◌, ℤ, pos, negsuc, sym, refl, ap, ◌∙◌, subst, inl, arith, ltb-false, ltb-true, le-ltb, lt-ltb, eqb-true, Option, Some, None}
use borrow.Author.Tests.{eqb-false}
use lib.Ieee.{Float, binary32, of_int, mul, neg, fits}
use lib.Ieee.Exact.{HasValue}
use lib.Ieee.Fits.{div-fits, neg-fits}
use Rattle.value.specs.Claims.{signed, Exactly, IsNumber, plain_float}
use Rattle.value.specs.Read.{signed_steps, read_signed}
use Rattle.value.specs.Steps.{per, steps_of, count_of}
use Rattle.value.specs.Write.{two, signed_of}
use Rattle.value.specs.declared.steps.Count.{Count}
use Rattle.value.specs.declared.steps.Count.TheVariants.{Up, Down}
use Rattle.value.specs.declared.value.Value.{Value}
use Rattle.value.specs.declared.value.Value.TheVariants.{Temperature, Missing}
use Rattle.value.specs.declared.write.Code.{Code}
use Rattle.value.specs.declared.write.Code.TheVariants.{One, Two}
use Rattle.value.proofs.Counted.{Counted, count_up, count_down, count_right}
use Rattle.value.proofs.Exact.{Number, product_is, steps_are, negated}
use Rattle.value.proofs.Unique.{comes_back}

-- ---- the two bytes of a number

pub bytes_of : (low high : ℕ) → low < 256 → high < 256 → two (low + 256 * high) ≡ Two low high
unfolding two
bytes_of low high l h =
    let a : (low + 256 * high) % 256 ≡ low = omega arith in
    let b : (low + 256 * high) / 256 ≡ high = omega arith in
    let d : high % 256 ≡ high = omega arith in
    rw (a, b, d)

joined : (n : ℕ) → n < 65536 → n % 256 + 256 * (n / 256 % 256) ≡ n
joined n h =
    let a : n / 256 % 256 ≡ n / 256 = omega arith in
    rw a (omega arith)

-- ---- what is read

pub data SignedRead (k n : ℕ) : Option Value → Type 0 where
  number : n ≢ 32768 → SignedRead k n (Some (Temperature (signed_steps (per k) n)))
  missing : n ≡ 32768 → SignedRead k n (Some Missing)

pub signed_read : (k low high : ℕ) → SignedRead k (low + 256 * high) (read_signed (per k) low high)
unfolding read_signed
signed_read k low high = go (eqb (low + 256 * high) 32768) refl
  where
    go : (m : Bool) → eqb (low + 256 * high) 32768 ≡ m
        → SignedRead k (low + 256 * high) (cond m (Some Missing) (Some (Temperature (signed_steps (per k) (low + 256 * high)))))
    go true e = missing (eqb-true (low + 256 * high) 32768 e)
    go false e = number (eqb-false (low + 256 * high) 32768 e)

pub read_number : (k low high : ℕ) → low + 256 * high ≢ 32768 → read_signed (per k) low high ≡ Some (Temperature (signed_steps (per k) (low + 256 * high)))
read_number k low high h = go (read_signed (per k) low high) (signed_read k low high)
  where
    go : (r : Option Value) → SignedRead k (low + 256 * high) r → r ≡ Some (Temperature (signed_steps (per k) (low + 256 * high)))
    go r (SignedRead.number e) = refl
    go r (SignedRead.missing e) = absurd (h e)

steps_fit : (c : Float) (n : ℕ) → T (fits binary32 (steps_of c n))
unfolding steps_of
steps_fit c n = div-fits binary32 _ c

pub signed_fits : (c : Float) (n : ℕ) → T (fits binary32 (signed_steps c n))
signed_fits c n = go (ltb n 32768)
  where
    go : (b : Bool) → T (fits binary32 (cond b (steps_of c n) (neg (steps_of c (65536 - n)))))
    go true = steps_fit c n
    go false = neg-fits binary32 (steps_of c (65536 - n)) (steps_fit c (65536 - n))

-- the float is the coded number exactly, and times 2 ^ k it is that number as a float
abbrev pub Scaled : ℕ → Float → ℤ → Type 0
Scaled k x z = (mul binary32 x (per k) ≡ of_int binary32 z) × Exactly x z (2 ^ k)

pub signed_scaled : (k n : ℕ) → k ≤ 149 → n < 65536 → n ≢ 32768 → Scaled k (signed_steps (per k) n) (signed n)
unfolding of_int
signed_scaled k n K N M = go (ltb n 32768) refl
  where
    go : (b : Bool) → ltb n 32768 ≡ b → Scaled k (cond b (steps_of (per k) n) (neg (steps_of (per k) (65536 - n)))) (cond b (pos n) (negsuc (65535 - n)))
    go true e =
        let l : n < 32768 = ltb-true n 32768 e in
        let h : HasValue (steps_of (per k) n) false n (2 ^ k) = steps_are k n K (omega arith) in
        (product_is _ false n k h, h)
    go false e =
        let l : 32768 ≤ n = ltb-false n 32768 e in
        let next : 65536 - n ≡ suc (65535 - n) = omega arith in
        let h : HasValue (neg (steps_of (per k) (65536 - n))) true (65536 - n) (2 ^ k) = negated _ false (65536 - n) (2 ^ k) (steps_are k (65536 - n) K (omega arith)) in
        (product_is _ true (65536 - n) k h ∙ simp next, subst (λ (m : ℕ). HasValue (neg (steps_of (per k) (65536 - n))) true m (2 ^ k)) next h)

-- ---- what is written

pub write_number : (k n : ℕ) (x : Float) → k ≤ 149 → n < 65536 → n ≢ 32768 → IsNumber x (signed n) (2 ^ k) → signed_of (count_of (per k) x) ≡ Some (two n)
write_number k n x K N M = go (ltb n 32768) refl
  where
    go : (b : Bool) → ltb n 32768 ≡ b → IsNumber x (cond b (pos n) (negsuc (65535 - n))) (2 ^ k) → signed_of (count_of (per k) x) ≡ Some (two n)
    go true e g = let l : n < 32768 = ltb-true n 32768 e in simp (count_up k n x K (omega arith) g, e)
    go false e g =
        let l : 32768 ≤ n = ltb-false n 32768 e in
        let under : 32768 < n = above l in
        let small : ltb (suc (65535 - n)) 32768 ≡ true = lt-ltb (suc (65535 - n)) 32768 (omega arith) in
        let back : 32768 + (32768 - suc (65535 - n)) ≡ n = omega arith in
        simp (count_down k (suc (65535 - n)) x K (omega arith) g (omega arith), small, back)
      where
        above : 32768 ≤ n → 32768 < n
        above l = less (eqb n 32768) refl
          where
            less : (b : Bool) → eqb n 32768 ≡ b → 32768 < n
            less true q = absurd (M (eqb-true n 32768 q))
            less false q = omega (arith, l, eqb-false n 32768 q)

pub exactly_number : (x : Float) (z : ℤ) (c : ℕ) → Exactly x z c → IsNumber x z c
exactly_number x (pos n) c h = (false, h, inl refl)
exactly_number x (negsuc n) c h = h

-- what is written stands for a number in range, and the float is that number
abbrev pub Written : ℕ → Float → Option Code → Type 0
Written k x (Some (One b)) = ⊥
Written k x (Some (Two low high)) = (low < 256) × (high < 256) × (low + 256 * high ≢ 32768) × IsNumber x (signed (low + 256 * high)) (2 ^ k)
Written k x None = Unit {0}

written_two : (k n : ℕ) (x : Float) → n < 65536 → n ≢ 32768 → IsNumber x (signed n) (2 ^ k) → Written k x (Some (two n))
unfolding two
written_two k n x N M g =
    let e : n % 256 + 256 * (n / 256 % 256) ≡ n = joined n N in
    (omega arith, omega arith, (λ (h : n % 256 + 256 * (n / 256 % 256) ≡ 32768). M (sym e ∙ h)), subst (λ (m : ℕ). IsNumber x (signed m) (2 ^ k)) (sym e) g)

pub write_right : (k : ℕ) (x : Float) → k ≤ 149 → Written k x (signed_of (count_of (per k) x))
write_right k x K = go (count_of (per k) x) (count_right k x K)
  where
    up : (n : ℕ) → Number x false n (2 ^ k) → (b : Bool) → ltb n 32768 ≡ b → Written k x (cond b (Some (two n)) None)
    up n g false e = tt
    up n g true e =
        let l : n < 32768 = ltb-true n 32768 e in
        written_two k n x (omega arith) (λ (h : n ≡ 32768). omega arith) (simp e g)

    down : (n : ℕ) → 0 < n → HasValue x true n (2 ^ k) → (b : Bool) → ltb n 32768 ≡ b → Written k x (cond b (Some (two (32768 + (32768 - n)))) None)
    down n p h false e = tt
    down n p h true e =
        let l : n < 32768 = ltb-true n 32768 e in
        let at : ℕ = 32768 + (32768 - n) in
        let high : ltb at 32768 ≡ false = le-ltb at 32768 (omega arith) in
        let back : suc (65535 - at) ≡ n = omega arith in
        written_two k at x (omega arith) (λ (q : at ≡ 32768). omega arith) (simp high (subst (λ (m : ℕ). HasValue x true m (2 ^ k)) (sym back) h))

    go : (r : Option Count) → Counted k x r → Written k x (signed_of r)
    go (Some (Up n)) c = up n c.1 (ltb n 32768) refl
    go (Some (Down n)) c = down n c.1 c.2 (ltb n 32768) refl
    go None c = tt

-- ---- and back

read_back : (k n : ℕ) (x : Float) → k ≤ 149 → T (fits binary32 x) → n < 65536 → n ≢ 32768 → IsNumber x (signed n) (2 ^ k)
    → signed_steps (per k) n ≡ plain_float x
read_back k n x K F N M g = go (signed n) (signed_scaled k n K N M).1 g
  where
    go : (z : ℤ) → Exactly (signed_steps (per k) n) z (2 ^ k) → IsNumber x z (2 ^ k) → signed_steps (per k) n ≡ plain_float x
    go (pos m) h g = comes_back x (signed_steps (per k) n) false m k F (signed_fits (per k) n) h (λ _. refl) g
    go (negsuc m) h g = comes_back x (signed_steps (per k) n) true (suc m) k F (signed_fits (per k) n) h (λ (q : suc m ≡ 0). absurd (omega arith)) (true, g, inl refl)

-- reading what was written gives it back
pub back : (k : ℕ) (x : Float) → k ≤ 149 → T (fits binary32 x) → (low high : ℕ) → signed_of (count_of (per k) x) ≡ Some (Two low high)
    → read_signed (per k) low high ≡ Some (Temperature (plain_float x))
back k x K F low high e =
    let w : Written k x (Some (Two low high)) = subst (Written k x) e (write_right k x K) in
    let l : low < 256 = w.0 in
    let h : high < 256 = w.1 in
    read_number k low high w.2 ∙ ap (λ (y : Float). Some (Temperature y)) (read_back k (low + 256 * high) x K F (omega arith) w.2 w.3)

-- writing what was read gives the code
pub forth : (k low high : ℕ) → k ≤ 149 → low < 256 → high < 256 → low + 256 * high ≢ 32768
    → signed_of (count_of (per k) (signed_steps (per k) (low + 256 * high))) ≡ Some (Two low high)
forth k low high K l h M =
    let N : low + 256 * high < 65536 = omega arith in
    write_number k (low + 256 * high) _ K N M (exactly_number _ (signed (low + 256 * high)) (2 ^ k) (signed_scaled k (low + 256 * high) K N M).1)
    ∙ ap Some (bytes_of low high l h)
