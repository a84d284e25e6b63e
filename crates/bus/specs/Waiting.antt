-- Who waits, and who is next (02, E7): one bit for each rank, set while that master is admitted and has a telegram waiting.
-- Assumes nothing.
use Rattle.std.specs.Prelude.{ℕ, cond, List, [], ◌∷◌, take}
use Rattle.ranks.specs.Bits.{with_rank, least_of}
use Rattle.std.specs.Prelude.{Option}
use Rattle.station.specs.Admission.{bids}
use Rattle.station.specs.declared.station.Turn.{Turn}
use Rattle.bus.specs.declared.bus.Bus.{Bus}
use Rattle.bus.specs.Bus.{attached_to}

-- the bits and that of a station's rank, if it is admitted and has a telegram waiting
unfoldable pub with_bid : ℕ → Turn → ℕ
with_bid bits t = cond (bids t.station) (with_rank bits t.station.address) bits

-- the bits and those of some stations
abbrev pub with_bids : ℕ → List Turn → ℕ
with_bids bits [] = bits
with_bids bits (t ∷ ts) = with_bids (with_bid bits t) ts

-- those of the first n alone
abbrev pub bids_among : ℕ → List Turn → ℕ
bids_among n ts = with_bids 0 (take n ts)

-- those of all attached stations: the laws say that the bus keeps exactly these (proofs/Gathered.antt)
unfoldable pub gathered : Bus → ℕ
gathered b = bids_among (attached_to b) b.turns

-- the master that will own the wire after this SYN: the least rank, or nobody
unfoldable pub next_of : Bus → Option ℕ
next_of b = least_of b.waiting
