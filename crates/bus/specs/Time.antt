-- When an event happened, and how long the master had then held the wire (02, E4). Assumes nothing.
use Rattle.std.specs.Prelude.{ℕ, ◌+◌, ◌-◌, ◌%◌, ◌^◌, cond}
use Rattle.bus.specs.declared.bus.Bus.{Bus}
use Rattle.bus.specs.declared.find.Query.TheVariants.{InTransfer}
use Rattle.bus.specs.declared.time.Time.{Time}
use Rattle.bus.specs.Find.{there_is}

-- the slot number less the slot of the latest owns line, modulo 2^32
abbrev pub since_owns : Bus → ℕ
since_owns b = (b.slot + (2 ^ 32 - b.began)) % 2 ^ 32

-- from owns to free the slots since the owns line; outside a transfer 0
unfoldable pub elapsed : Bus → ℕ
elapsed b = cond (there_is b InTransfer) (since_owns b) 0

-- the slot number, and the elapsed slots
unfoldable pub time_of : Bus → Time
time_of b = record { slot = b.slot; elapsed = elapsed b }

-- ---- no rule: the same for whoever shows it on free lines alone (proofs/Elapsed.antt)

abbrev pub time_if_free : Bus → Time
time_if_free b = record { slot = b.slot; elapsed = since_owns b }
