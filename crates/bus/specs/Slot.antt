-- One slot (01, "A slot" and "Generator"). Assumes nothing.
use Rattle.std.specs.Prelude.{ℕ, zero, suc, ◌+◌, ◌%◌, ◌^◌, Bool, true, cond, List, [], ◌∷◌, take, bit_and, nat_lt}
use Rattle.laws.specs.First.{first_from, is_found}
use Rattle.station.specs.Station.{syn, ready, says}
use Rattle.station.specs.Hear.{hears}
use Rattle.station.specs.declared.phase.Sound.{Sound}
use Rattle.station.specs.declared.phase.Sound.TheVariants.{Quiet, Symbol}
use Rattle.station.specs.declared.station.Turn.{Turn}
use Rattle.bus.specs.declared.bus.Bus.{Bus}
use Rattle.bus.specs.declared.find.Query.TheVariants.{ToldOwns}
use Rattle.bus.specs.Bus.{attached_to, attached_turns}
use Rattle.bus.specs.Find.{meets}
use Rattle.bus.specs.Waiting.{bids_among}

-- the bus is LOW-active: two that are sent at once are heard as their bitwise AND
abbrev pub wired : Sound → Sound → Sound
wired Quiet b = b
wired (Symbol x) Quiet = Symbol x
wired (Symbol x) (Symbol y) = Symbol (bit_and x y)

-- after nine quiet slots in a row the generator sends AA in the next
abbrev pub patience : ℕ
patience = 9

unfoldable pub generator_says : ℕ → Sound
generator_says quiet = cond (nat_lt quiet patience) Quiet (Symbol syn)

-- its count is 0 after any heard symbol and after a slot in which it sent
abbrev pub generator_next : ℕ → Sound → ℕ
generator_next quiet Quiet = cond (nat_lt quiet patience) (quiet + 1) 0
generator_next quiet (Symbol s) = 0

-- what a station says, made ready for the slot
abbrev pub said_by : Turn → Sound
said_by t = says (ready t.station)

-- a word with what each of the stations says
abbrev pub spoken_with : Sound → List Turn → Sound
spoken_with w [] = w
spoken_with w (t ∷ ts) = spoken_with (wired w (said_by t)) ts

-- undisturbed, all hear the AND of what was sent, or quiet if nobody sent
unfoldable pub spoken : Bus → Sound
spoken b = spoken_with (generator_says b.quiet) (attached_turns b)

-- what a station makes of what is heard
abbrev pub turned : Sound → Turn → Turn
turned heard t = hears (ready t.station) heard

-- f of the first n, the rest as it was
abbrev pub map_first : {A : Type 0} → (A → A) → ℕ → List A → List A
map_first f zero l = l
map_first f (suc n) [] = []
map_first f (suc n) (a ∷ l) = f a ∷ map_first f n l

-- what each attached station makes of it
abbrev pub turns_after : Bus → Sound → List Turn
turns_after b heard = map_first (turned heard) (attached_to b) b.turns

-- one of the first n is told owns
abbrev pub owns_among : ℕ → List Turn → Bool
owns_among n ts = is_found (first_from (meets ToldOwns) 0 (take n ts))

-- the slot of the latest owns line: this one, if somebody is told owns in it
abbrev pub latest : Bool → ℕ → ℕ → ℕ
latest owns slot began = cond owns slot began

abbrev pub began_after : Bus → Sound → ℕ
began_after b heard = latest (owns_among (attached_to b) (turns_after b heard)) ((b.slot + 1) % 2 ^ 32) b.began

-- who is admitted and has a telegram waiting after it
abbrev pub waiting_after : Bus → Sound → ℕ
waiting_after b heard = bids_among (attached_to b) (turns_after b heard)

-- a slot that all hear as given; slots are numbered in 32 bits
unfoldable pub slot_heard : Bus → Sound → Bus
slot_heard b heard =
    record {
      turns = turns_after b heard;
      count = b.count;
      slot = (b.slot + 1) % 2 ^ 32;
      ran = true;
      quiet = generator_next b.quiet heard;
      began = began_after b heard;
      waiting = waiting_after b heard;
    }

-- an undisturbed slot
unfoldable pub slot_run : Bus → Bus
slot_run b = slot_heard b (spoken b)
