-- One more, up to the greatest number. Assumes nothing.
use mathlib.Core.Path.{◌≡◌, sym}
use Prim.Native.Nat.{ℕ, ◌+◌, ◌≤◌, ◌<◌}
use native.Mathlib.Omega.{arith}
use borrow.Author.Tests.{le-ltb}
use Rattle.laws.proofs.AtMost.{at_most_same}
use Rattle.pairs.specs.Counts.{greatest, up}

pub one_more : (n : ℕ) → n < greatest → n + 1 ≡ up n
unfolding up
one_more n h = sym (at_most_same (n + 1) greatest (omega arith))

-- a number of 32 bits
pub no_more : (n : ℕ) → greatest ≤ n → n < 4294967296 → n ≡ up n
unfolding up
no_more n h f = rw (le-ltb (n + 1) greatest (omega arith)) (omega arith)
