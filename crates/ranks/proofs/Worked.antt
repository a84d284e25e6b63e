-- The worked groups compute. Assumes nothing.
use mathlib.Core.Path.{◌≡◌, refl}
use mathlib.Core.List.{map}
use lib.Count.{count_trailing_zeros}
use Rattle.address.specs.Half.{half_index, class_of, sub_of}
use Rattle.address.specs.Master.{rank_of, master_at}
use Rattle.ranks.specs.Bits.{with_rank, least_of}
use Rattle.ranks.specs.Worked.{least_among, groups, firsts}

pub worked_hold : map least_among groups ≡ firsts
unfolding with_rank least_of count_trailing_zeros rank_of master_at class_of sub_of half_index
worked_hold = refl
