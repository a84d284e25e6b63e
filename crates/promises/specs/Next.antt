-- Who is next (02, E7), by a walk over all attached stations, and who waits: nothing of bits. Assumes nothing.
use Rattle.std.specs.Prelude.{◌≡◌, true, cond, List, [], ◌∷◌, ℕ}
use Rattle.ranks.specs.Before.{or_before}
use Rattle.std.specs.Prelude.{Option, Some, None}
use Rattle.station.specs.Admission.{bids}
use Rattle.station.specs.declared.station.Turn.{Turn}
use Rattle.bus.specs.Bus.{attached_turns}
use Rattle.bus.specs.declared.bus.Bus.{Bus}
use Rattle.promises.specs.Contest.{Contends, Ranks}
use Rattle.promises.specs.Fit.{station_at}

-- from station to station: who is admitted with a telegram waiting, and ranks before the one found so far, is found instead of it
abbrev pub walk_from : Option ℕ → List Turn → Option ℕ
walk_from found [] = found
walk_from found (t ∷ ts) = walk_from (cond (bids t.station) (or_before found t.station.address) found) ts

unfoldable pub walk_over : Bus → Option ℕ
walk_over b = walk_from None (attached_turns b)

-- the master of rank r is attached, admitted and has a telegram waiting
pub record MasterWaits (b : Bus) (r : ℕ) : Type 0 where
  pub seat : ℕ
  pub contends : Contends b seat
  pub master : (station_at b seat).master ≡ true
  pub ranks : Ranks b seat r
