-- Xor as the sum of polynomials: grouped otherwise, taken off again, one power up. Assumes nothing.
use mathlib.Core.Path.{◌≡◌, sym, ap, ◌∙◌}
use Prim.Native.Nat.{ℕ, ◌*◌}
use native.Mathlib.Numerals.{unary_clauses}
use lib.Bits.{bit_xor, xor_block, xor_comm, xor_self, xor_zero_l, xor_zero_r}
use Rattle.std.specs.Int.Bits.{xor_assoc}
use lib.Dec.{lit<}

-- added twice it is gone
pub xor_off : (a b : ℕ) → bit_xor (bit_xor a b) b ≡ a
xor_off a b = xor_assoc a b b ∙ ap (bit_xor a) (xor_self b) ∙ xor_zero_r a

pub xor_up : (a b : ℕ) → bit_xor a b * 2 ≡ bit_xor (a * 2) (b * 2)
xor_up a b = sym (simp unary_clauses at (xor_block 1 a b 0 0 (lit< tt) (lit< tt)))

swapped : (a b c : ℕ) → bit_xor a (bit_xor b c) ≡ bit_xor b (bit_xor a c)
swapped a b c = sym (xor_assoc a b c) ∙ ap (λ (x : ℕ). bit_xor x c) (xor_comm a b) ∙ xor_assoc b a c

pub xor_four : (a b c d : ℕ) → bit_xor (bit_xor a b) (bit_xor c d) ≡ bit_xor (bit_xor a c) (bit_xor b d)
xor_four a b c d = xor_assoc a b (bit_xor c d) ∙ ap (bit_xor a) (swapped b c d) ∙ sym (xor_assoc a c (bit_xor b d))

-- what is added on both sides is gone
pub xor_both : (a b t : ℕ) → bit_xor (bit_xor a t) (bit_xor b t) ≡ bit_xor a b
xor_both a b t = xor_four a t b t ∙ ap (bit_xor (bit_xor a b)) (xor_self t) ∙ xor_zero_r (bit_xor a b)

pub xor_equal : (a b : ℕ) → bit_xor a b ≡ 0 → a ≡ b
xor_equal a b e = sym (xor_off a b) ∙ ap (λ (x : ℕ). bit_xor x b) e ∙ xor_zero_l b
