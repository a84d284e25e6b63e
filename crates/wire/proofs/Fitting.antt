-- How many bytes a load takes in, and which. Assumes nothing.
use Rattle.std.proofs.Common.{◌≡◌, ℕ, ◌-◌, ◌≤◌, List, length, take, replicate, ◌∙◌, arith, length-append, length-take-le, take_all, take_at}
use lib.ListN.{length-replicate}
use Rattle.laws.proofs.AtMost.{at_most_room, at_most_count, at_most_same}
use Rattle.wire.specs.Form.{bytes_of}
use Rattle.wire.specs.Load.{fitting, load_of}

pub fits_sixteen : (len : ℕ) → fitting len ≤ 16
unfolding fitting
fits_sixteen len = at_most_room len 16

pub fits_length : (len : ℕ) → fitting len ≤ len
unfolding fitting
fits_length len = at_most_count len 16

pub fits_all : (len : ℕ) → len ≤ 16 → fitting len ≡ len
unfolding fitting
fits_all len l = at_most_same len 16 l

-- the array has its 16 bytes, and the load carries all bytes where there are at most 16
pub load_sixteen : (xs : List ℕ) → length (load_of xs).bytes ≡ 16
unfolding load_of
load_sixteen xs =
    length-append (take (fitting (length xs)) xs) (replicate (16 - fitting (length xs)) 0)
    ∙ omega (arith, length-take-le (fitting (length xs)) xs (fits_length (length xs)), length-replicate {A = ℕ} (16 - fitting (length xs)) 0, fits_sixteen (length xs))

pub load_carries : (xs : List ℕ) → length xs ≤ 16 → bytes_of (load_of xs) ≡ xs
unfolding load_of
load_carries xs h =
    take_at (take (fitting (length xs)) xs) (replicate (16 - fitting (length xs)) 0) (fitting (length xs))
    (length-take-le (fitting (length xs)) xs (fits_length (length xs)))
    ∙ take_all (fitting (length xs)) xs (omega (arith, fits_all (length xs) h))
