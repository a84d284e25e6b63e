-- The calls that users make, runs of slots among them, and the bus after any sequence of them from power-on. Assumes nothing.
use Rattle.std.specs.Prelude.{Bool, List, [], ◌∷◌, ◌++◌, ℕ, ◌-◌, ◌^◌, ◌<◌, replicate}
use Rattle.station.specs.declared.phase.Sound.{Sound}
use Rattle.station.specs.declared.phase.Sound.TheVariants.{Quiet, Symbol}
use Rattle.bus.specs.Bus.{powered_on}
use Rattle.bus.specs.Attach.{attaches}
use Rattle.bus.specs.Queue.{queues}
use Rattle.bus.specs.Reply.{replies}
use Rattle.bus.specs.Run.{runs}
use Rattle.bus.specs.Slot.{slot_heard, slot_run}
use Rattle.bus.specs.declared.bus.Bus.{Bus}

pub data Call : Type 0 where
  -- a master (true) or a slave is attached at an address
  attach : ℕ → Bool → Call
  -- QQ, ZZ, PB, SB, data
  queue : ℕ → ℕ → ℕ → ℕ → List ℕ → Call
  -- slave address, PB, SB, data
  reply : ℕ → ℕ → ℕ → List ℕ → Call
  -- an undisturbed slot
  slot : Call
  -- a slot that all hear as given: a symbol, or quiet
  heard : Sound → Call

-- the bus after a call, refused or not
abbrev pub after_call : Bus → Call → Bus
after_call b (attach a master) = (attaches b a master).bus
after_call b (queue qq zz pb sb bytes) = (queues b qq zz pb sb bytes).bus
after_call b (reply a pb sb bytes) = (replies b a pb sb bytes).bus
after_call b slot = slot_run b
after_call b (heard h) = slot_heard b h

-- the bus after calls, one after the other
unfoldable pub after_calls : Bus → List Call → Bus
after_calls b [] = b
after_calls b (c ∷ cs) = after_calls (after_call b c) cs

-- what users hand over are bytes
abbrev pub AllBytes : List ℕ → Type 0
AllBytes [] = Unit {0}
AllBytes (x ∷ xs) = (x < 256) × AllBytes xs

abbrev pub ByteSound : Sound → Type 0
ByteSound Quiet = Unit {0}
ByteSound (Symbol s) = s < 256

abbrev pub ByteCall : Call → Type 0
ByteCall (attach a master) = a < 256
ByteCall (queue qq zz pb sb bytes) = (qq < 256) × (zz < 256) × (pb < 256) × (sb < 256) × AllBytes bytes
ByteCall (reply a pb sb bytes) = (a < 256) × (pb < 256) × (sb < 256) × AllBytes bytes
ByteCall slot = Unit {0}
ByteCall (heard h) = ByteSound h

abbrev pub ByteCalls : List Call → Type 0
ByteCalls [] = Unit {0}
ByteCalls (c ∷ cs) = ByteCall c × ByteCalls cs

-- ---- runs

-- what users may do: one of the calls above, or a run of so many undisturbed slots, which stops at the first that tells somebody
-- something
pub data Use : Type 0 where
  call : Call → Use
  run : ℕ → Use

abbrev pub after_use : Bus → Use → Bus
after_use b (call c) = after_call b c
after_use b (run n) = (runs n b).bus

unfoldable pub after_uses : Bus → List Use → Bus
after_uses b [] = b
after_uses b (u ∷ us) = after_uses (after_use b u) us

-- how many slots is a number of 32 bits
abbrev pub ByteUse : Use → Type 0
ByteUse (call c) = ByteCall c
ByteUse (run n) = n < 2 ^ 32

abbrev pub ByteUses : List Use → Type 0
ByteUses [] = Unit {0}
ByteUses (u ∷ us) = ByteUse u × ByteUses us

-- the calls above that it comes to: a run is its slots one after the other, but for those that it left
abbrev pub calls_of : Bus → Use → List Call
calls_of b (call c) = c ∷ []
calls_of b (run n) = replicate (n - (runs n b).left) slot

unfoldable pub calls_in : Bus → List Use → List Call
calls_in b [] = []
calls_in b (u ∷ us) = calls_of b u ++ calls_in (after_use b u) us

-- a bus that some sequence of calls and runs brings about, from power-on
pub data Reachable : Bus → Type 0 where
  by_uses : (us : List Use) → ByteUses us → Reachable (after_uses powered_on us)
