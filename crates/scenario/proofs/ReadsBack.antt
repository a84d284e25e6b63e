-- The text of every 32-bit number, and the two hex digits of every byte, read back. Assumes nothing.
use mathlib.Core.Path.{◌≡◌, refl, ◌∙◌}
use mathlib.Core.Bool.{Bool, true, false, cond}
use mathlib.Core.List.{List, [], ◌∷◌, ◌++◌}
use Prim.Native.Nat.{ℕ, zero, suc, ◌+◌, ◌*◌, ◌/◌, ◌%◌, ◌^◌, ◌≤◌, ◌<◌}
use native.Mathlib.Omega.{arith}
use borrow.Author.Tests.{lt-ltb, le-ltb, ltb-true, ltb-false}
use lib.Dec.{ltb}
use Rattle.laws.proofs.Computed.{same}
use Rattle.laws.proofs.FirstIs.{Every, none, next, every_append}
use Rattle.scenario.specs.Pen.{hex_digit, hex_text, last_digit, digits_of, decimal_text}
use Rattle.scenario.specs.ReadBack.{decimal_digit, hex_value, read_decimal, read_byte}

-- ---- decimal

-- what the text of a number is made of
pub record Digit (c : ℕ) : Type 0 where
  pub least : 48 ≤ c
  pub most : c < 58

digits_all : (k n : ℕ) → Every Digit (digits_of k n)
unfolding digits_of last_digit
digits_all zero n = none
digits_all (suc k) n = by (ltb n 10) (digits_all k (n / 10))
  where
    last : Every Digit ((48 + n % 10) ∷ [])
    last = let digit : Digit (48 + n % 10) = record { least = omega arith; most = omega arith } in next digit none

    by : (t : Bool) → Every Digit (digits_of k (n / 10)) → Every Digit (cond t ((48 + n % 10) ∷ []) (digits_of k (n / 10) ++ ((48 + n % 10) ∷ [])))
    by true w = last
    by false w = every_append w last

pub decimal_all : (n : ℕ) → Every Digit (decimal_text n)
unfolding decimal_text
decimal_all n = digits_all 10 n

read_more : (n : ℕ) (l : List ℕ) (c : ℕ) → read_decimal n (l ++ (c ∷ [])) ≡ read_decimal n l * 10 + decimal_digit c
unfolding read_decimal
read_more n [] c = refl
read_more n (x ∷ l) c = read_more (n * 10 + decimal_digit x) l c

last_read : (n : ℕ) → decimal_digit (last_digit n) ≡ n % 10
unfolding decimal_digit last_digit
last_read n =
    simp (le-ltb (48 + n % 10) 48 (omega arith), lt-ltb (48 + n % 10) 58 (omega arith)) (omega arith)

-- ten to a power
abbrev tens : ℕ → ℕ
tens zero = 1
tens (suc k) = tens k * 10

some_left : (k n : ℕ) → n < tens k * 10 → 10 ≤ n → 0 < k
some_left zero n h l = absurd (omega arith)
some_left (suc k) n h l = omega arith

tenth_below : (t n : ℕ) → n < t * 10 → n / 10 < t
tenth_below t n h = omega arith

digits_read : (k n : ℕ) → n < tens k → 0 < k → read_decimal 0 (digits_of k n) ≡ n
unfolding digits_of read_decimal
digits_read zero n h i = absurd (omega arith)
digits_read (suc k) n h i = go (ltb n 10) refl (digits_read k (n / 10))
  where
    go : (t : Bool) → ltb n 10 ≡ t → (n / 10 < tens k → 0 < k → read_decimal 0 (digits_of k (n / 10)) ≡ n / 10)
        → read_decimal 0 (cond t (last_digit n ∷ []) (digits_of k (n / 10) ++ (last_digit n ∷ []))) ≡ n
    go true e ih = omega (arith, last_read n, ltb-true n 10 e)
    go false e ih =
        let l : 10 ≤ n = ltb-false n 10 e in
        let r = ih (tenth_below (tens k) n h) (some_left k n h l) in
        read_more 0 (digits_of k (n / 10)) (last_digit n) ∙ omega (arith, r, last_read n)

-- every number of 32 bits
pub decimal_reads_back : (n : ℕ) → n < 2 ^ 32 → read_decimal 0 (decimal_text n) ≡ n
unfolding decimal_text
decimal_reads_back n h = digits_read 10 n (omega arith) (omega arith)

-- ---- hex

-- every byte; lowercase letters, in code and definition alike, would not
pub hex_reads_back : (b : ℕ) → b < 256 → read_byte (hex_text b) ≡ b
unfolding read_byte hex_text hex_digit hex_value decimal_digit
hex_reads_back b h = same (λ k. read_byte (hex_text k)) (λ k. k) 256 tt b h
