-- Who is least among some masters: 01's P8 to P12, and other groups. Assumes nothing.
use Rattle.std.specs.Prelude.{List, [], ◌∷◌, ℕ}
use Rattle.std.specs.Prelude.{Option, Some, None}
use Rattle.ranks.specs.Bits.{with_rank, least_of}

-- the bits and those of some masters
abbrev pub with_ranks : ℕ → List ℕ → ℕ
with_ranks bits [] = bits
with_ranks bits (a ∷ rest) = with_ranks (with_rank bits a) rest

abbrev pub least_among : List ℕ → Option ℕ
least_among masters = least_of (with_ranks 0 masters)

-- P8 to P12; the greatest sub-address of one class beside the least of the next; the last two ranks; all of class F; nobody; no master
abbrev pub groups : List (List ℕ)
groups =
    (0x00 ∷ 0x01 ∷ []) ∷ (0x10 ∷ 0x01 ∷ []) ∷ (0xF0 ∷ 0x30 ∷ 0x1F ∷ []) ∷ (0x31 ∷ 0x13 ∷ []) ∷ (0xFF ∷ 0x7F ∷ [])
    ∷ (0x01 ∷ 0xF0 ∷ []) ∷ (0x0F ∷ 0xF7 ∷ []) ∷ (0xFF ∷ 0x7F ∷ 0x3F ∷ 0x1F ∷ 0x0F ∷ []) ∷ [] ∷ (0x08 ∷ 0xAA ∷ []) ∷ []

abbrev pub firsts : List (Option ℕ)
firsts =
    Some 0x00 ∷ Some 0x10 ∷ Some 0x30 ∷ Some 0x31 ∷ Some 0x7F
    ∷ Some 0xF0 ∷ Some 0xF7 ∷ Some 0x0F ∷ None ∷ None ∷ []
