-- Slots are numbered in 32 bits: a slot adds one, and after 4,294,967,295 comes 0. That the bus has run is a fact of its own.
-- Assumes nothing.
use Rattle.std.proofs.Common.{◌≡◌, ℕ, ◌+◌, ◌%◌, ◌^◌, ◌<◌, true, refl, ap, mod-eq_of_lt, arith}
use Rattle.station.specs.declared.phase.Sound.{Sound}
use Rattle.bus.specs.declared.bus.Bus.{Bus}
use Rattle.bus.specs.Slot.{spoken, slot_heard, slot_run}

-- a slot, disturbed or not, adds one modulo 2^32
pub heard_number : (b : Bus) (heard : Sound) → (slot_heard b heard).slot ≡ (b.slot + 1) % 2 ^ 32
unfolding slot_heard
heard_number b heard = refl

pub run_number : (b : Bus) → (slot_run b).slot ≡ (b.slot + 1) % 2 ^ 32
unfolding slot_run
run_number b = heard_number b (spoken b)

-- the next number, below the last
pub next_number : (b : Bus) → b.slot < 4294967295 → (slot_run b).slot ≡ b.slot + 1
unfolding slot_run slot_heard
next_number b h = mod-eq_of_lt (omega arith)

-- after 4,294,967,295 comes 0
pub number_wraps : (b : Bus) → b.slot ≡ 4294967295 → (slot_run b).slot ≡ 0
unfolding slot_run slot_heard
number_wraps b e = ap (λ (s : ℕ). (s + 1) % 2 ^ 32) e

-- the bus has run
pub heard_ran : (b : Bus) (heard : Sound) → (slot_heard b heard).ran ≡ true
unfolding slot_heard
heard_ran b heard = refl

pub run_ran : (b : Bus) → (slot_run b).ran ≡ true
unfolding slot_run
run_ran b = heard_ran b (spoken b)
