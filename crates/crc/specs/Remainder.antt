-- What dividing by the polynomial means, with no register in it: a run of symbols is one polynomial, a bit for each power of
-- x, and two polynomials are added by xor. Assumes nothing.
use Rattle.std.specs.Prelude.{◌≡◌, Bool, cond, List, [], ◌∷◌, ℕ, ◌+◌, ◌*◌, ◌<◌}
use Rattle.std.specs.Int.Bits.{bit_xor}
use Rattle.crc.specs.Crc.{polynomial}

-- the symbols behind what is there already, each eight powers below the one before it
unfoldable pub joined : ℕ → List ℕ → ℕ
joined high [] = high
joined high (s ∷ ss) = joined (high * 256 + s) ss

-- the polynomial times a quotient, which is given by its bits, the lowest power first
unfoldable pub multiple : List Bool → ℕ
multiple [] = 0
multiple (bit ∷ quotient) = bit_xor (multiple quotient * 2) (cond bit polynomial 0)

-- divided by the polynomial, the whole leaves the rest: a multiple of the polynomial and the rest make the whole, and the rest
-- has neither x^8 nor a higher power
pub record Leaves (whole rest : ℕ) : Type 0 where
  pub quotient : List Bool
  pub back : bit_xor (multiple quotient) rest ≡ whole
  pub less : rest < 256
