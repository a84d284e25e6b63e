-- The check symbol (01, "Wire form"): polynomial x^8 + x^7 + x^4 + x^3 + x + 1. House: the register starts at 0 and for
-- each symbol becomes (register times x^8, reduced by the polynomial) xor symbol. Assumes nothing.
use Rattle.std.specs.Prelude.{ℕ, zero, suc, ◌*◌, cond, List, [], ◌∷◌, ltb}
use Rattle.std.specs.Int.Bits.{bit_xor}

-- the polynomial: a bit for each power of x
abbrev pub polynomial : ℕ
polynomial = 0b1_1001_1011

-- times x: one place up and, where x^8 came out, reduced by the polynomial
unfoldable pub times_x : ℕ → ℕ
times_x r = cond (ltb r 128) (r * 2) (bit_xor (r * 2) polynomial)

-- times x^n
unfoldable pub times_xⁿ : ℕ → ℕ → ℕ
times_xⁿ zero r = r
times_xⁿ (suc n) r = times_xⁿ n (times_x r)

-- one symbol into the register
unfoldable pub crc_step : ℕ → ℕ → ℕ
crc_step register symbol = bit_xor (times_xⁿ 8 register) symbol

-- symbols into the register, one after the other
unfoldable pub crc_from : ℕ → List ℕ → ℕ
crc_from register [] = register
crc_from register (s ∷ ss) = crc_from (crc_step register s) ss

-- the check symbol of a run of symbols
unfoldable pub crc_of : List ℕ → ℕ
crc_of ss = crc_from 0 ss
