-- How long a master has held the wire, recounted from the calls and the lines (02, E4). Assumes nothing.
use Rattle.std.specs.Prelude.{◌≡◌, Bool, true, false, cond, List, [], ◌∷◌, ◌⊎◌, ℕ, ◌+◌, ◌%◌, ◌^◌, ◌<◌}
use Rattle.station.specs.Events.{Word, owns, taken, failed, free, given, answer, Event, tells}
use Rattle.station.specs.Phase.{owner}
use Rattle.bus.specs.Bus.{powered_on, attached_to, turn_at}
use Rattle.bus.specs.Events.{Line}
use Rattle.bus.specs.declared.bus.Bus.{Bus}
use Rattle.promises.specs.Calls.{Call, attach, queue, reply, slot, heard, after_call, after_calls}
use Rattle.promises.specs.Fit.{station_at}
use Rattle.promises.specs.Slots.{slots_in}

abbrev pub is_owns : Word → Bool
is_owns owns = true
is_owns taken = false
is_owns failed = false
is_owns free = false
is_owns given = false
is_owns answer = false

abbrev pub is_free : Word → Bool
is_free owns = false
is_free taken = false
is_free failed = false
is_free free = true
is_free given = false
is_free answer = false

-- one of these lines has such a word
abbrev pub says : (Word → Bool) → List Event → Bool
says word [] = false
says word (e ∷ es) = cond (word e.word) true (says word es)

-- the station in this seat owns the wire, or has left it in this very slot
abbrev pub Holds : Bus → ℕ → Type 0
Holds b i = (owner (station_at b i).phase ≡ true) ⊎ (says is_free (tells (turn_at b i)) ≡ true)

-- the slots since a seat's owns line, with one call more: a slot is one more, unless it has that line
abbrev pub counted_on : Call → Bool → ℕ → ℕ
counted_on (attach a master) line n = n
counted_on (queue qq zz pb sb bytes) line n = n
counted_on (reply a pb sb bytes) line n = n
counted_on slot line n = cond line 0 (n + 1)
counted_on (heard h) line n = cond line 0 (n + 1)

-- over some calls
unfoldable pub recount : ℕ → Bus → ℕ → List Call → ℕ
recount i b n [] = n
recount i b n (c ∷ cs) =
    let next = after_call b c in
    recount i next (counted_on c (says is_owns (tells (turn_at next i))) n) cs

-- what an event carries after these calls from power-on
pub record TrueTime (cs : List Call) (l : Line) : Type 0 where
  -- the number of slots run
  pub slot : l.time.slot ≡ slots_in cs % 2 ^ 32
  -- while somebody owns the wire or has left it in this very slot, the slots run since its owns line ..
  pub inside : (i : ℕ) → i < attached_to (after_calls powered_on cs) → Holds (after_calls powered_on cs) i
      → l.time.elapsed ≡ recount i powered_on 0 cs % 2 ^ 32
  -- .. else 0
  pub outside : ((i : ℕ) → i < attached_to (after_calls powered_on cs) → Holds (after_calls powered_on cs) i → ⊥) → l.time.elapsed ≡ 0
