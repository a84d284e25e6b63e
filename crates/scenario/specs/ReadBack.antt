-- Numbers read from their text, for the laws that every number's text reads back. Assumes nothing.
use Rattle.std.specs.Prelude.{cond, List, [], ◌∷◌, ℕ, ◌+◌, ◌-◌, ◌*◌, ltb}

-- what is no digit
abbrev pub no_digit : ℕ
no_digit = 1000

-- 0 to 9, and nothing else
unfoldable pub decimal_digit : ℕ → ℕ
decimal_digit c = cond (ltb c 48) no_digit (cond (ltb c 58) (c - 48) no_digit)

-- 0 to 9, A to F, and nothing else: no lowercase letter
unfoldable pub hex_value : ℕ → ℕ
hex_value c = cond (ltb c 65) (decimal_digit c) (cond (ltb c 71) (c - 55) no_digit)

-- digit after digit behind what is read so far
unfoldable pub read_decimal : ℕ → List ℕ → ℕ
read_decimal n [] = n
read_decimal n (c ∷ cs) = read_decimal (n * 10 + decimal_digit c) cs

-- behind a space, two hex digits and nothing more
unfoldable pub read_byte : List ℕ → ℕ
read_byte [] = no_digit
read_byte (space ∷ []) = no_digit
read_byte (space ∷ high ∷ []) = no_digit
read_byte (space ∷ high ∷ low ∷ []) = hex_value high * 16 + hex_value low
read_byte (space ∷ high ∷ low ∷ more ∷ rest) = no_digit
