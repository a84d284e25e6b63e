-- The check symbol of a run is what the run leaves when it is divided by the polynomial. Assumes nothing.
use mathlib.Core.Path.{◌≡◌, refl, sym, ap, ◌∙◌}
use mathlib.Core.Bool.{Bool, true, false, cond}
use mathlib.Core.List.{List, [], ◌∷◌}
use Prim.Native.Nat.{ℕ, zero, suc, ◌+◌, ◌*◌, ◌<◌}
use native.Mathlib.Omega.{arith}
use lib.Bits.{bit_xor, xor_shifted, xor_zero_r}
use lib.Dec.{ltb, lit<}
use lib.ListN.{get_or}
use Rattle.crc.specs.Crc.{polynomial, times_x, times_xⁿ, crc_step, crc_from, crc_of}
use Rattle.crc.specs.Remainder.{joined, multiple, Leaves}
use Rattle.crc.proofs.Bytes.{step_byte}
use Rattle.std.specs.Int.Bits.{xor_assoc}
use Rattle.crc.proofs.Xor.{xor_both, xor_up}

-- the quotient's next bit: the one that falls out
out : ℕ → Bool
out r = cond (ltb r 128) false true

times_is : (r : ℕ) → times_x r ≡ bit_xor (r * 2) (cond (out r) polynomial 0)
unfolding times_x out
times_is r = go (ltb r 128)
  where
    go : (b : Bool) → cond b (r * 2) (bit_xor (r * 2) polynomial) ≡ bit_xor (r * 2) (cond (cond b false true) polynomial 0)
    go true = sym (xor_zero_r (r * 2))
    go false = refl

one_up : (q : List Bool) (r : ℕ) → bit_xor (multiple (out r ∷ q)) (times_x r) ≡ bit_xor (multiple q) r * 2
unfolding multiple
one_up q r =
    ap (bit_xor (multiple (out r ∷ q))) (times_is r) ∙ xor_both (multiple q * 2) (r * 2) (cond (out r) polynomial 0) ∙ sym (xor_up (multiple q) r)

-- n places up
up : ℕ → ℕ → ℕ
up zero a = a
up (suc n) a = up n (a * 2)

-- the quotient with the n bits that fall out
outs : ℕ → ℕ → List Bool → List Bool
outs zero r q = q
outs (suc n) r q = outs n (times_x r) (out r ∷ q)

ups : (n : ℕ) (q : List Bool) (r : ℕ) → bit_xor (multiple (outs n r q)) (times_xⁿ n r) ≡ up n (bit_xor (multiple q) r)
unfolding outs times_xⁿ up
ups zero q r = refl
ups (suc n) q r = ups n (out r ∷ q) (times_x r) ∙ ap (up n) (one_up q r)

up_8 : (a : ℕ) → up 8 a ≡ a * 256
unfolding up
up_8 a = omega arith

one_symbol : (q : List Bool) (r s : ℕ) → s < 256 → bit_xor (multiple (outs 8 r q)) (crc_step r s) ≡ bit_xor (multiple q) r * 256 + s
unfolding crc_step
one_symbol q r s h =
    sym (xor_assoc (multiple (outs 8 r q)) (times_xⁿ 8 r) s)
    ∙ ap (λ (x : ℕ). bit_xor x s) (ups 8 q r ∙ up_8 (bit_xor (multiple q) r))
    ∙ xor_shifted (bit_xor (multiple q) r) 8 s h

fed : (ss : List ℕ) → ((i : ℕ) → get_or ss i 0 < 256) → (q : List Bool) (r : ℕ) → r < 256
    → Leaves (joined (bit_xor (multiple q) r) ss) (crc_from r ss)
unfolding joined crc_from
fed [] h q r b = record { quotient = q; back = refl; less = b }
fed (s ∷ ss) h q r b =
    rw (← one_symbol q r s (h 0)) (fed ss (λ i. h (suc i)) (outs 8 r q) (crc_step r s) (step_byte r s b (h 0)))

pub is_remainder : (ss : List ℕ) → ((i : ℕ) → get_or ss i 0 < 256) → Leaves (joined 0 ss) (crc_of ss)
unfolding crc_of multiple
is_remainder ss h = fed ss h [] 0 (lit< tt)
