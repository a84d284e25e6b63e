-- Division by the polynomial leaves one remainder: no multiple of it but 0 is without x^8 and all above. Assumes nothing.
use mathlib.Core.Path.{◌≡◌, refl, sym, ap, ap₂, ◌∙◌}
use mathlib.Core.Bool.{Bool, true, false, cond}
use mathlib.Core.List.{List, [], ◌∷◌}
use Prim.Native.Nat.{ℕ, ◌*◌, ◌/◌, ◌<◌}
use native.Mathlib.Omega.{arith}
use lib.Bits.{bit_xor, xor_comm, xor_lt, xor_shr, xor_zero_l, xor_zero_r}
use Rattle.crc.specs.Crc.{polynomial}
use Rattle.crc.specs.Remainder.{multiple, Leaves}
use Rattle.crc.proofs.Xor.{xor_both, xor_equal, xor_four, xor_off, xor_up}

-- two quotients added
added : List Bool → List Bool → List Bool
added [] q = q
added (b ∷ p) [] = b ∷ p
added (b ∷ p) (c ∷ q) = cond b (cond c false true) c ∷ added p q

multiples_added : (p q : List Bool) → multiple (added p q) ≡ bit_xor (multiple p) (multiple q)
unfolding added multiple
multiples_added [] q = sym (xor_zero_l (multiple q))
multiples_added (b ∷ p) [] = sym (xor_zero_r (multiple (b ∷ p)))
multiples_added (b ∷ p) (c ∷ q) =
    ap₂ (λ (x y : ℕ). bit_xor (x * 2) y) (multiples_added p q) (bits_added b c)
    ∙ ap (λ (x : ℕ). bit_xor x (bit_xor (cond b polynomial 0) (cond c polynomial 0))) (xor_up (multiple p) (multiple q))
    ∙ xor_four (multiple p * 2) (multiple q * 2) (cond b polynomial 0) (cond c polynomial 0)
  where
    bits_added : (b c : Bool) → cond (cond b (cond c false true) c) polynomial 0 ≡ bit_xor (cond b polynomial 0) (cond c polynomial 0)
    bits_added true true = refl
    bits_added true false = refl
    bits_added false true = refl
    bits_added false false = refl

-- with the polynomial added, x^8 and all above go only if they are x^8 alone
no_higher : (a : ℕ) → bit_xor a polynomial < 256 → a / 256 ≡ 1
no_higher a h = xor_equal (a / 256) 1 (sym (xor_shr a polynomial 8) ∙ none)
  where
    none : bit_xor a polynomial / 256 ≡ 0
    none = omega arith

small_is_0 : (q : List Bool) → multiple q < 256 → multiple q ≡ 0
unfolding multiple
small_is_0 [] h = refl
small_is_0 (true ∷ q) h =
    let k = no_higher (multiple q * 2) h in
    let e : multiple q ≡ 0 = small_is_0 q (omega arith) in
    absurd (omega arith)
small_is_0 (false ∷ q) h =
    let k : multiple q * 2 < 256 = rw (xor_zero_r (multiple q * 2)) at h in
    let e : multiple q ≡ 0 = small_is_0 q (omega arith) in
    xor_zero_r (multiple q * 2) ∙ ap (λ (x : ℕ). x * 2) e

-- the multiple that was taken off
taken_off : {whole rest : ℕ} (l : Leaves whole rest) → multiple l.quotient ≡ bit_xor rest whole
taken_off {whole} {rest} l =
    sym (xor_off (multiple l.quotient) rest) ∙ ap (λ (x : ℕ). bit_xor x rest) l.back ∙ xor_comm whole rest

pub one_remainder : (whole a b : ℕ) → Leaves whole a → Leaves whole b → a ≡ b
one_remainder whole a b l m = xor_equal a b (sym difference ∙ small_is_0 both (rw difference (xor_lt 8 a b l.less m.less)))
  where
    both : List Bool
    both = added l.quotient m.quotient

    difference : multiple both ≡ bit_xor a b
    difference = multiples_added l.quotient m.quotient ∙ ap₂ bit_xor (taken_off l) (taken_off m) ∙ xor_both a b whole
