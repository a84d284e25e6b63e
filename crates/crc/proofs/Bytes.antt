-- What the paper and 01 say of the check symbol in bytes, and that the register stays one. Assumes nothing.
use mathlib.Core.Path.{◌≡◌, refl}
use mathlib.Core.List.{[], ◌∷◌}
use Prim.Native.Nat.{ℕ, zero, suc, ◌+◌, ◌^◌, ◌<◌}
use lib.Bits.{xor_lt}
use lib.Dec.{ltb, ltb→lt}
use Rattle.laws.proofs.Computed.{below}
use Rattle.crc.specs.Crc.{polynomial, times_x, times_xⁿ, crc_step, crc_from, crc_of}

-- the polynomial, term by term
pub terms : polynomial ≡ 2 ^ 8 + 2 ^ 7 + 2 ^ 4 + 2 ^ 3 + 2 ^ 1 + 2 ^ 0
terms = refl

-- entry 01 is 9B, entry 80 is 0B
pub entry_01 : times_xⁿ 8 0x01 ≡ 0x9B
unfolding times_xⁿ times_x
entry_01 = refl

pub entry_80 : times_xⁿ 8 0x80 ≡ 0x0B
unfolding times_xⁿ times_x
entry_80 = refl

-- P1: polynomial, eight steps, order and start value in one number
pub p1 : crc_of (0x10 ∷ 0x08 ∷ 0x50 ∷ 0x02 ∷ 0x00 ∷ []) ≡ 0x38
unfolding crc_of crc_from crc_step times_xⁿ times_x
p1 = refl

pub shift_byte : (r : ℕ) → r < 256 → times_x r < 256
unfolding times_x
shift_byte r h = ltb→lt (times_x r) 256 (below (λ k. ltb (times_x k) 256) 256 tt r h)

times_byte : (n r : ℕ) → r < 256 → times_xⁿ n r < 256
unfolding times_xⁿ
times_byte zero r h = h
times_byte (suc n) r h = times_byte n (times_x r) (shift_byte r h)

pub step_byte : (r s : ℕ) → r < 256 → s < 256 → crc_step r s < 256
unfolding crc_step
step_byte r s hr hs = xor_lt 8 (times_xⁿ 8 r) s (times_byte 8 r hr) hs
