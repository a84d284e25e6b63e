-- The digits of a number: of the OR of two, of a power of two, and those below its trailing zeros. Assumes nothing.
use mathlib.Core.Path.{◌≡◌, refl, sym, ap, ap₂, ◌∙◌}
use mathlib.Core.Logic.{◌↔◌, ◌⊎◌, inl, inr, ⊎_elim}
use Prim.Native.Nat.{ℕ, zero, suc, ◌+◌, ◌*◌, ◌/◌, ◌%◌, ◌^◌, ◌≤◌, ◌<◌, min}
use native.Mathlib.Nat.{div-add-mod', mod-lt, mod-eq_of_lt, zero-lt-suc, pow-suc, one-mul, suc-min-suc, min-zero, zero-min}
use native.Mathlib.Omega.{arith}
use lib.Arith.{bin_ind}
use lib.Bits.{bit_or, or_shr, or_mod, or_zero_r, shifted_half, shifted_even}
use lib.Pow.{pow-lt}
use lib.Count.{under, count_trailing_zeros}
use Rattle.ranks.specs.Bits.{bit_at, IsSet}

two_pos : zero < 2
two_pos = zero-lt-suc 1

-- a digit is 0 or 1
two : (d : ℕ) → d < 2 → (d ≡ 0) ⊎ (d ≡ 1)
two zero h = inl refl
two (suc zero) h = inr refl
two (suc (suc d)) h = absurd (omega arith)

lowest : (n : ℕ) → (n % 2 ≡ 0) ⊎ (n % 2 ≡ 1)
lowest n = two (n % 2) (mod-lt n two_pos)

-- ---- the OR of two numbers

or_half : (a b : ℕ) → bit_or a b / 2 ≡ bit_or (a / 2) (b / 2)
or_half a b = or_shr a b 1

or_low : (a b : ℕ) → bit_or a b % 2 ≡ bit_or (a % 2) (b % 2)
or_low a b = or_mod a b 1

or_digit : (a b : ℕ) → a < 2 → b < 2 → (bit_or a b ≡ 1) ↔ ((a ≡ 1) ⊎ (b ≡ 1))
or_digit zero zero h k = (λ e. absurd (omega arith), ⊎_elim (λ e. absurd (omega arith)) (λ e. absurd (omega arith)))
or_digit zero (suc zero) h k = (λ e. inr refl, λ e. refl)
or_digit (suc zero) zero h k = (λ e. inl refl, λ e. refl)
or_digit (suc zero) (suc zero) h k = (λ e. inl refl, λ e. refl)
or_digit (suc (suc a)) b h k = absurd (omega arith)
or_digit zero (suc (suc b)) h k = absurd (omega arith)
or_digit (suc zero) (suc (suc b)) h k = absurd (omega arith)

or_digits : (a b c : ℕ) → a < 2 → b < 2 → c < 2 → bit_or (bit_or a b) c ≡ bit_or a (bit_or b c)
or_digits zero b c h k l = refl
or_digits (suc zero) zero c h k l = refl
or_digits (suc zero) (suc zero) zero h k l = refl
or_digits (suc zero) (suc zero) (suc zero) h k l = refl
or_digits (suc (suc a)) b c h k l = absurd (omega arith)
or_digits (suc zero) (suc (suc b)) c h k l = absurd (omega arith)
or_digits (suc zero) (suc zero) (suc (suc c)) h k l = absurd (omega arith)

-- in whatever order
pub or_assoc : (a b c : ℕ) → bit_or (bit_or a b) c ≡ bit_or a (bit_or b c)
or_assoc a = bin_ind (λ (a : ℕ). (b c : ℕ) → bit_or (bit_or a b) c ≡ bit_or a (bit_or b c)) (λ b c. refl) step a
  where
    step : (a : ℕ) → ((b c : ℕ) → bit_or (bit_or (a / 2) b) c ≡ bit_or (a / 2) (bit_or b c)) → (b c : ℕ) → bit_or (bit_or a b) c ≡ bit_or a (bit_or b c)
    step a ih b c =
        sym (div-add-mod' (bit_or (bit_or a b) c) 2)
        ∙ ap₂ (λ (x y : ℕ). x * 2 + y)
        (or_half (bit_or a b) c ∙ ap (λ (x : ℕ). bit_or x (c / 2)) (or_half a b) ∙ ih (b / 2) (c / 2)
        ∙ sym (or_half a (bit_or b c) ∙ ap (bit_or (a / 2)) (or_half b c)))
        (or_low (bit_or a b) c ∙ ap (λ (x : ℕ). bit_or x (c % 2)) (or_low a b)
        ∙ or_digits (a % 2) (b % 2) (c % 2) (mod-lt a two_pos) (mod-lt b two_pos) (mod-lt c two_pos)
        ∙ sym (or_low a (bit_or b c) ∙ ap (bit_or (a % 2)) (or_low b c)))
        ∙ div-add-mod' (bit_or a (bit_or b c)) 2

-- a digit is set where it is set in one of the two
pub set_or : (r a b : ℕ) → IsSet r (bit_or a b) ↔ (IsSet r a ⊎ IsSet r b)
set_or zero a b = rw (or_low a b) (or_digit (a % 2) (b % 2) (mod-lt a two_pos) (mod-lt b two_pos))
set_or (suc r) a b = rw (or_half a b) (set_or r (a / 2) (b / 2))

-- ---- a power of two

pow_half : (q : ℕ) → 2 ^ suc q / 2 ≡ 2 ^ q
pow_half q = ap (λ (x : ℕ). x / 2) (sym (one-mul (2 ^ suc q))) ∙ shifted_half 1 q ∙ one-mul (2 ^ q)

pow_low : (q : ℕ) → 2 ^ suc q % 2 ≡ 0
pow_low q = ap (λ (x : ℕ). x % 2) (sym (one-mul (2 ^ suc q))) ∙ shifted_even 1 q

pub none_set : (r : ℕ) → bit_at r 0 ≡ 0
none_set zero = refl
none_set (suc r) = none_set r

-- it has one digit
pub set_pow : (r q : ℕ) → IsSet r (2 ^ q) ↔ (r ≡ q)
set_pow zero zero = (λ e. refl, λ e. refl)
set_pow zero (suc q) = (λ e. absurd (omega (arith, e, pow_low q)), λ e. absurd (omega arith))
set_pow (suc r) zero = (λ e. absurd (omega (arith, e, none_set r)), λ e. absurd (omega arith))
set_pow (suc r) (suc q) =
    let w = set_pow r q in
    (λ e. ap suc (w.0 (rw (pow_half q) at e)), λ e. rw (pow_half q) (w.1 (omega arith)))

-- ---- trailing zeros

under_min : (d t r : ℕ) → under d (min t r) ≡ min (under d t) (suc r)
under_min zero t r = sym (suc-min-suc t r)
under_min (suc d) t r = sym (zero-min (suc r))

odd : (w : ℕ) → bit_or w 1 % 2 ≡ 1
odd w = or_low w 1 ∙ ⊎_elim (λ e. ap (λ (x : ℕ). bit_or x 1) e) (λ e. ap (λ (x : ℕ). bit_or x 1) e) (lowest w)

-- with one digit more it is the lesser of the two
pub trailing_or : (k r w : ℕ) → r < k → count_trailing_zeros k (bit_or w (2 ^ r)) ≡ min (count_trailing_zeros k w) r
unfolding count_trailing_zeros
trailing_or zero r w h = absurd (omega arith)
trailing_or (suc k) zero w h =
    ap (λ (d : ℕ). under d (count_trailing_zeros k (bit_or w 1 / 2))) (odd w) ∙ sym (min-zero (under (w % 2) (count_trailing_zeros k (w / 2))))
trailing_or (suc k) (suc r) w h =
    ap₂ (λ (d n : ℕ). under d (count_trailing_zeros k n))
    (or_low w (2 ^ suc r) ∙ ap (bit_or (w % 2)) (pow_low r) ∙ or_zero_r (w % 2))
    (or_half w (2 ^ suc r) ∙ ap (bit_or (w / 2)) (pow_half r))
    ∙ ap (under (w % 2)) (trailing_or k r (w / 2) (omega arith))
    ∙ under_min (w % 2) (count_trailing_zeros k (w / 2)) r

-- t is the place of the lowest digit of w that is set, and w has n digits
pub record Lowest (t n w : ℕ) : Type 0 where
  pub below : t < n
  pub set : IsSet t w
  pub least : (r : ℕ) → IsSet r w → t ≤ r

even : (t n w : ℕ) → w % 2 ≡ 0 → Lowest t n (w / 2) → Lowest (suc t) (suc n) w
even t n w e h = record { below = omega (arith, h.below); set = h.set; least = past }
  where
    past : (r : ℕ) → IsSet r w → suc t ≤ r
    past zero s = absurd (omega (arith, s, e))
    past (suc r) s = omega (arith, h.least r s)

uneven : (n w : ℕ) → w % 2 ≡ 1 → Lowest 0 (suc n) w
uneven n w e = record { below = omega arith; set = e; least = λ r s. omega arith }

-- the count of trailing zeros is the place of the lowest digit that is set
pub lowest_set : (k n w : ℕ) → n ≤ k → 0 < w → w < 2 ^ n → Lowest (count_trailing_zeros k w) n w
unfolding count_trailing_zeros
lowest_set k zero w h p l = absurd (omega arith)
lowest_set zero (suc n) w h p l = absurd (omega arith)
lowest_set (suc k) (suc n) w h p l =
    ⊎_elim
    (λ e. rw e (even (count_trailing_zeros k (w / 2)) n w e (lowest_set k n (w / 2) (omega arith) (omega arith) (omega (arith, pow-suc 2 n)))))
    (λ e. rw e (uneven n w e))
    (lowest w)

-- ---- a shifted 1

pub shifted : (r : ℕ) → r < 25 → 1 * 2 ^ r % 2 ^ 32 ≡ 2 ^ r
shifted r h = ap (λ (x : ℕ). x % 2 ^ 32) (one-mul (2 ^ r)) ∙ mod-eq_of_lt (pow-lt {j = 32} (omega arith))
