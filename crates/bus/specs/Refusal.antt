-- 01's number of each refusal ("When a call is turned down"); 6 is not given any more (02, E8). Assumes nothing.
use Rattle.std.specs.Prelude.{ℕ}
use Rattle.bus.specs.declared.refusal.Refusal.{Refusal}
use Rattle.bus.specs.declared.refusal.Refusal.TheVariants.{Running, NoSuchAddress, InUse, NoRoom, NoMaster, NoTarget, NoSlave, NoCommand, TooMuchData, OutboxFull, BookFull}

abbrev pub refusal_number : Refusal → ℕ
refusal_number Running = 7
refusal_number NoSuchAddress = 8
refusal_number InUse = 9
refusal_number NoRoom = 10
refusal_number NoMaster = 1
refusal_number NoTarget = 2
refusal_number NoSlave = 11
refusal_number NoCommand = 3
refusal_number TooMuchData = 4
refusal_number OutboxFull = 5
refusal_number BookFull = 12
