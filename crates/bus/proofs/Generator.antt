-- The generator (01, "Generator"): after nine quiet slots in a row it sends AA in the next; its count is 0 at power-on, after
-- any heard symbol, and after a slot in which it sent. Assumes nothing.
use Rattle.std.proofs.Common.{◌≡◌, ℕ, zero, suc, ◌+◌, ◌<◌, ◌≤◌, refl, le-ltb, lt-ltb}
use Rattle.station.specs.declared.phase.Sound.{Sound}
use Rattle.station.specs.declared.phase.Sound.TheVariants.{Quiet, Symbol}
use Rattle.bus.specs.declared.bus.Bus.{Bus}
use Rattle.bus.specs.Bus.{powered_on, attached_to}
use Rattle.bus.specs.Slot.{generator_says, spoken, slot_heard}

-- it is quiet until nine quiet slots are counted
pub silent_before_nine : (q : ℕ) → q < 9 → generator_says q ≡ Quiet
unfolding generator_says
silent_before_nine q h = rw (lt-ltb q 9 h)

-- and sends AA from then on
pub sends_after_nine : (q : ℕ) → 9 ≤ q → generator_says q ≡ Symbol 0xAA
unfolding generator_says
sends_after_nine q h = rw (le-ltb q 9 h)

-- its count is 0 at power-on
pub count_at_power_on : powered_on.quiet ≡ 0
unfolding powered_on
count_at_power_on = refl

-- after any heard symbol
pub count_after_symbol : (b : Bus) (s : ℕ) → (slot_heard b (Symbol s)).quiet ≡ 0
unfolding slot_heard
count_after_symbol b s = refl

-- and after a slot in which it sent, whatever was heard
pub count_after_sending : (b : Bus) (heard : Sound) → 9 ≤ b.quiet → (slot_heard b heard).quiet ≡ 0
unfolding slot_heard
count_after_sending b Quiet h = rw (le-ltb b.quiet 9 h)
count_after_sending b (Symbol s) h = refl

-- a quiet slot in which it did not send counts
pub count_after_quiet : (b : Bus) → b.quiet < 9 → (slot_heard b Quiet).quiet ≡ b.quiet + 1
unfolding slot_heard
count_after_quiet b h = rw (lt-ltb b.quiet 9 h)

-- so many slots heard quiet, from power-on
abbrev quiet_slots : ℕ → Bus
quiet_slots zero = powered_on
quiet_slots (suc n) = slot_heard (quiet_slots n) Quiet

-- after eight quiet slots the next is quiet
pub after_eight : spoken (quiet_slots 8) ≡ Quiet
unfolding powered_on slot_heard spoken generator_says attached_to
after_eight = refl

-- after nine it is AA
pub after_nine : spoken (quiet_slots 9) ≡ Symbol 0xAA
unfolding powered_on slot_heard spoken generator_says attached_to
after_nine = refl
