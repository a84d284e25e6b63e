-- The words for a slot among the calls: how many calls are slots, what all hear in one, and the verdict on a call. Assumes nothing.
use Rattle.std.specs.Prelude.{List, [], ◌∷◌, ℕ, ◌+◌}
use Rattle.station.specs.declared.phase.Sound.{Sound}
use Rattle.bus.specs.declared.bus.Bus.{Bus}
use Rattle.std.specs.Prelude.{Result, Ok, Err, ⊤}
use Rattle.bus.specs.declared.refusal.Refusal.{Refusal}
use Rattle.bus.specs.Attach.{attaches}
use Rattle.bus.specs.Queue.{queues}
use Rattle.bus.specs.Reply.{replies}
use Rattle.bus.specs.Slot.{spoken}
use Rattle.promises.specs.Calls.{Call, attach, queue, reply, slot, heard}

-- an undisturbed slot and a disturbed one are slots
abbrev pub slots_of : Call → ℕ
slots_of (attach a master) = 0
slots_of (queue qq zz pb sb bytes) = 0
slots_of (reply a pb sb bytes) = 0
slots_of slot = 1
slots_of (heard h) = 1

-- how many of these calls are slots
abbrev pub slots_in : List Call → ℕ
slots_in [] = 0
slots_in (c ∷ cs) = slots_of c + slots_in cs

-- what all hear in a slot: undisturbed the AND of what is sent, or quiet if nobody sends; disturbed what is given
pub data AllHear (b : Bus) : Call → Sound → Type 0 where
  undisturbed : AllHear b slot (spoken b)
  disturbed : {h : Sound} → AllHear b (heard h) h

-- the verdict on a call; a slot is never turned down
abbrev pub verdict_on : Bus → Call → Result ⊤ Refusal
verdict_on b (attach a master) = (attaches b a master).verdict
verdict_on b (queue qq zz pb sb bytes) = (queues b qq zz pb sb bytes).verdict
verdict_on b (reply a pb sb bytes) = (replies b a pb sb bytes).verdict
verdict_on b slot = Ok tt
verdict_on b (heard h) = Ok tt
