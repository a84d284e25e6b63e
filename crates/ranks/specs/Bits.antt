-- One bit for each of the 25 ranks, and the master whose bit is the lowest (02, E7). Assumes nothing.
use Rattle.std.specs.Prelude.{◌≡◌, cond, ℕ, zero, suc, ◌/◌, ◌%◌, ◌^◌, eqb}
use Rattle.std.specs.Int.Bits.{bit_or}
use Rattle.std.specs.Int.Count.{count_trailing_zeros}
use Rattle.address.specs.Master.{rank_of, master_at}
use Rattle.std.specs.Prelude.{Option, Some, None}

-- the bit of a rank; who has no rank has no bit
abbrev pub bit_of : Option ℕ → ℕ
bit_of (Some r) = 2 ^ r
bit_of None = 0

-- the bits and that of this master
unfoldable pub with_rank : ℕ → ℕ → ℕ
with_rank bits a = bit_or bits (bit_of (rank_of a))

-- the least rank is the count of trailing zeros; with no bit set, nobody
unfoldable pub least_of : ℕ → Option ℕ
least_of bits = cond (eqb bits 0) None (Some (master_at (count_trailing_zeros 32 bits)))

-- ---- no rule: the words of the laws

-- digit r of a number, 0 or 1: the lowest once it is halved r times
abbrev pub bit_at : ℕ → ℕ → ℕ
bit_at zero bits = bits % 2
bit_at (suc r) bits = bit_at r (bits / 2)

abbrev pub IsSet : ℕ → ℕ → Type 0
IsSet r bits = bit_at r bits ≡ 1

-- there are 25 ranks
abbrev pub ranks : ℕ
ranks = 25
