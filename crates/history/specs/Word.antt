-- What all hear in an undisturbed slot, bit by bit, from what is sent in it (01, "A slot"). Assumes nothing.
use Rattle.std.specs.Prelude.{◌≡◌, Bool, true, false, List, [], ◌∷◌, ℕ, zero, suc, ◌/◌, ◌%◌, min}
use Rattle.station.specs.declared.phase.Sound.{Sound}
use Rattle.station.specs.declared.phase.Sound.TheVariants.{Quiet, Symbol}

abbrev pub nobody_sends : List Sound → Bool
nobody_sends [] = true
nobody_sends (Quiet ∷ hs) = nobody_sends hs
nobody_sends (Symbol s ∷ hs) = false

-- a bit of a symbol, the lowest is bit 0
abbrev pub bit_of : ℕ → ℕ → ℕ
bit_of zero s = s % 2
bit_of (suc k) s = bit_of k (s / 2)

-- the bus is LOW-active: a bit is heard as 1 where no symbol that is sent has it 0
abbrev pub bit_heard : ℕ → List Sound → ℕ
bit_heard k [] = 1
bit_heard k (Quiet ∷ hs) = bit_heard k hs
bit_heard k (Symbol s ∷ hs) = min (bit_of k s) (bit_heard k hs)

-- all hear the bitwise AND of what was sent, or quiet if nobody sent
pub data Heard (hs : List Sound) : Sound → Type 0 where
  quiet : nobody_sends hs ≡ true → Heard hs Quiet
  anded : {s : ℕ} → nobody_sends hs ≡ false → ((k : ℕ) → bit_of k s ≡ bit_heard k hs) → Heard hs (Symbol s)
