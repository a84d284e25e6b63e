-- Who is next, call by call, in runs that antt computes: P9 beside a third master, as in TwelfthRun; and one that queues between the SYN
-- and the next slot (02, E7). Assumes nothing.
use mathlib.Core.Path.{◌≡◌, refl}
use mathlib.Core.List.{List, [], ◌∷◌}
use Prim.Native.Nat.{ℕ, ◌<◌}
use lib.Count.{count_trailing_zeros}
use Rattle.address.specs.Master.{rank_of, master_at}
use Rattle.ranks.specs.Bits.{with_rank, least_of}
use Rattle.std.specs.Prelude.{Option, Some, None}
use Rattle.station.specs.Station.{syn}
use Rattle.station.specs.declared.phase.Sound.TheVariants.{Symbol}
use Rattle.bus.specs.Bus.{attached_to}
use Rattle.bus.specs.Slot.{spoken}
use Rattle.bus.specs.Waiting.{with_bid, next_of}
use Rattle.bus.specs.declared.bus.Bus.{Bus}
use Rattle.promises.specs.Calls.{Call, queue, slot, after_call}
use Rattle.promises.specs.Contest.{sent, queued, by_all, between, OwnsInOneOf}
use Rattle.promises.specs.Fit.{station_at}
use Rattle.promises.proofs.Computed.Runs.{run}
use Rattle.promises.proofs.Computed.TwelfthRun.{three, before, begins, after, three_reachable}
use Rattle.promises.proofs.NextOwns.{next_owns_by_the_twelfth}

-- the answer after each of some calls
abbrev pub answers : Bus → List Call → List (Option ℕ)
answers b [] = []
answers b (c ∷ cs) = next_of (after_call b c) ∷ answers (after_call b c) cs

-- the SYN, 01 queues, the word 00, 00 queues too late, nine quiet slots, a SYN for the marked alone, and 10 owns
abbrev pub p9_answers : List (Option ℕ)
p9_answers =
    Some 0x10 ∷ Some 0x10 ∷ None ∷ None
    ∷ None ∷ None ∷ None ∷ None ∷ None ∷ None ∷ None ∷ None ∷ None
    ∷ Some 0x10 ∷ None ∷ []

-- 00 queues in time
abbrev pub in_time : List Call
in_time = slot ∷ queue 0x01 0x08 0x50 0x02 [] ∷ queue 0x00 0x08 0x50 0x02 [] ∷ slot ∷ []

pub record Computed : Type 0 where
  pub sends_aa : spoken three ≡ Symbol syn
  pub nobody_yet : next_of three ≡ None
  pub ten : next_of begins ≡ Some 0x10
  pub p9 : answers three (slot ∷ queue 0x01 0x08 0x50 0x02 [] ∷ slot ∷ after) ≡ p9_answers
  pub nought : answers three in_time ≡ Some 0x10 ∷ Some 0x10 ∷ Some 0x00 ∷ None ∷ []

pub next_computed : Computed
unfolding three begins run next_of least_of with_rank with_bid count_trailing_zeros rank_of master_at
next_computed = record { sends_aa = refl; nobody_yet = refl; ten = refl; p9 = refl; nought = refl }

-- so 10 becomes owner by the twelfth slot, by the theorem
pub ten_is_next_and_owns : (i : ℕ) × (i < attached_to begins) × ((station_at begins i).address ≡ 0x10) × OwnsInOneOf i begins (slot ∷ after)
unfolding begins
ten_is_next_and_owns =
    next_owns_by_the_twelfth three_reachable slot (sent next_computed.sends_aa) before (queued, tt) 0x10 next_computed.ten after
    (between queued, (by_all, (by_all, (by_all, (by_all, (by_all, (by_all, (by_all, (by_all, (by_all, (by_all, (by_all, tt)))))))))))) refl
