-- A slot with the stations' steps in a given order of their seats (01, "A slot": in any order). Assumes nothing.
use Rattle.std.specs.Prelude.{List, [], ◌∷◌, ℕ, zero, suc, get_or, set}
use Rattle.station.specs.declared.phase.Sound.{Sound}
use Rattle.station.specs.declared.station.Turn.{Turn}
use Rattle.bus.specs.declared.bus.Bus.{Bus}
use Rattle.bus.specs.Bus.{unseated, attached_to}
use Rattle.bus.specs.Slot.{wired, said_by, turned, generator_says}

-- n seats in a row, from seat k on
abbrev pub seats_from : ℕ → ℕ → List ℕ
seats_from k zero = []
seats_from k (suc n) = k ∷ seats_from (suc k) n

-- the attached seats, in attach order
abbrev pub seats_of : Bus → List ℕ
seats_of b = seats_from 0 (attached_to b)

-- a word, and what the stations in these seats say, one after the other
abbrev pub word_in : Sound → List ℕ → List Turn → Sound
word_in w [] l = w
word_in w (i ∷ order) l = word_in (wired w (said_by (get_or l i unseated))) order l

-- the word of a slot, the stations asked in this order
abbrev pub spoken_in : Bus → List ℕ → Sound
spoken_in b order = word_in (generator_says b.quiet) order b.turns

-- the stations in these seats take their turns, one after the other, each on the seats as they then stand
abbrev pub turns_in : Sound → List ℕ → List Turn → List Turn
turns_in h [] l = l
turns_in h (i ∷ order) l = turns_in h order (set l i (turned h (get_or l i unseated)))
