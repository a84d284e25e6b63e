-- Symbols fed to the register one at a time. Assumes nothing.
use mathlib.Core.Path.{◌≡◌, refl}
use mathlib.Core.List.{List, [], ◌∷◌, ◌++◌}
use Prim.Native.Nat.{ℕ}
use Rattle.crc.specs.Crc.{crc_step, crc_from, crc_of}

-- two runs, one after the other
pub feed_append : (reg : ℕ) (xs ys : List ℕ) → crc_from reg (xs ++ ys) ≡ crc_from (crc_from reg xs) ys
unfolding crc_from
feed_append reg [] ys = refl
feed_append reg (x ∷ xs) ys = feed_append (crc_step reg x) xs ys

-- one symbol behind the others
pub of_snoc : (xs : List ℕ) (s : ℕ) → crc_of (xs ++ (s ∷ [])) ≡ crc_step (crc_of xs) s
unfolding crc_from crc_of
of_snoc xs s = feed_append 0 xs (s ∷ [])
