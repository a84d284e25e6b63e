-- The words of demand 3's twelve-slot clause: who owns the wire by the twelfth slot after a SYN (01, "Admission"). Assumes nothing.
use Rattle.std.specs.Prelude.{◌≡◌, Bool, true, List, [], ◌∷◌, ℕ, ◌≤◌, ◌<◌}
use Rattle.address.specs.Master.{rank_of}
use Rattle.std.specs.Prelude.{Some, None}
use Rattle.station.specs.Outbox.{held_in}
use Rattle.station.specs.Phase.{owner}
use Rattle.station.specs.Station.{syn}
use Rattle.station.specs.declared.phase.Sound.TheVariants.{Symbol}
use Rattle.station.specs.declared.phase.Told.TheVariants.{Owns}
use Rattle.bus.specs.Bus.{attached_to, turn_at}
use Rattle.bus.specs.Slot.{spoken, slot_run}
use Rattle.bus.specs.declared.bus.Bus.{Bus}
use Rattle.promises.specs.Calls.{Call, attach, queue, reply, slot, heard, after_call}
use Rattle.promises.specs.Fit.{station_at}

-- AA is heard in this slot, however it came about: it was sent, by whomever, or the slot was disturbed so
pub data SynHeardIn (b : Bus) : Call → Type 0 where
  sent : spoken b ≡ Symbol syn → SynHeardIn b slot
  disturbed : SynHeardIn b (heard (Symbol syn))

-- what users may call between two slots, whether it is refused or not; an attach is refused then, always
pub data Between : Call → Type 0 where
  attaching : {a : ℕ} {master : Bool} → Between (attach a master)
  queued : {qq zz pb sb : ℕ} {bytes : List ℕ} → Between (queue qq zz pb sb bytes)
  replied : {a pb sb : ℕ} {bytes : List ℕ} → Between (reply a pb sb bytes)

-- an undisturbed slot, or a call between two slots
pub data Undisturbed : Call → Type 0 where
  by_all : Undisturbed slot
  between : {c : Call} → Between c → Undisturbed c

abbrev pub Each : (Call → Type 0) → List Call → Type 0
Each P [] = Unit {0}
Each P (c ∷ cs) = P c × Each P cs

-- an attached station that the AA of the last slot admits, with a telegram waiting
pub record Contends (b : Bus) (i : ℕ) : Type 0 where
  pub attached : i < attached_to b
  pub admitted : (station_at b i).admitted ≡ true
  pub waits : 0 < held_in (station_at b i).outbox

-- it has this rank: class first, then sub-address
abbrev pub Ranks : Bus → ℕ → ℕ → Type 0
Ranks b i r = rank_of (station_at b i).address ≡ Some r

-- it has a rank, so has everyone who contends, and none of them ranks before it
pub record LeastRank (b : Bus) (i : ℕ) : Type 0 where
  pub rank : ℕ
  pub ranks : Ranks b i rank
  pub not_before : (j : ℕ) → Contends b j → (q : ℕ) × Ranks b j q × (rank ≤ q)

-- the one least of those who contend
pub record TheLeast (b : Bus) (i : ℕ) : Type 0 where
  pub contends : Contends b i
  pub least : LeastRank b i
  pub only : (j : ℕ) → Contends b j → LeastRank b j → j ≡ i

-- in an undisturbed slot it becomes owner, and is told so
pub record BecomesOwner (b : Bus) (i : ℕ) : Type 0 where
  pub told : (turn_at (slot_run b) i).told ≡ Owns
  pub owns : owner (station_at (slot_run b) i).phase ≡ true

-- .. in one of the slots among the calls
pub data OwnsInOneOf (i : ℕ) : Bus → List Call → Type 0 where
  this_slot : {b : Bus} {cs : List Call} → BecomesOwner b i → OwnsInOneOf i b (slot ∷ cs)
  later : {b : Bus} {c : Call} {cs : List Call} → OwnsInOneOf i (after_call b c) cs → OwnsInOneOf i b (c ∷ cs)
