-- What the users of the station in a seat have seen, after any calls from power-on. Assumes nothing.
use Rattle.std.specs.Prelude.{false, cond, List, [], ◌∷◌, ℕ, eqb, get_or}
use Rattle.wire.specs.declared.part.Telegram.{Telegram}
use Rattle.station.specs.declared.phase.Sound.{Sound}
use Rattle.bus.specs.declared.bus.Bus.{Bus}
use Rattle.bus.specs.Bus.{powered_on}
use Rattle.bus.specs.Slot.{spoken}
use Rattle.promises.specs.Calls.{Call, attach, queue, reply, slot, heard, after_call}
use Rattle.history.specs.Moments.{Answers, Moment, by_sound, History, nothing, closed, extended}
use Rattle.history.specs.Held.{Who, attached_after, held_after, no_answers, answers_after}

-- the stations attached so far; of the station in the seat the telegrams that it holds, its answers, and its slots
pub record Known : Type 0 where
  pub attached : List Who
  pub held : List Telegram
  pub answers : Answers
  pub history : History

abbrev pub unknown : Known
unknown = record { attached = []; held = []; answers = no_answers; history = nothing }

-- a slot as they see it
abbrev pub moment_in : Known → Sound → Moment
moment_in k h = record { waits = k.held; answers = k.answers; heard = h }

-- a slot more: AA begins a new stretch
abbrev pub later : History → Moment → History
later g x = by_sound x.heard (extended g x) (λ s. cond (eqb s 0xAA) (closed g) (extended g x))

abbrev pub seen_call : Bus → Known → Call → History
seen_call b k (attach a master) = k.history
seen_call b k (queue qq zz pb sb bytes) = k.history
seen_call b k (reply a pb sb bytes) = k.history
seen_call b k slot = later k.history (moment_in k (spoken b))
seen_call b k (heard h) = later k.history (moment_in k h)

-- a call more
abbrev pub known_call : ℕ → Bus → Known → Call → Known
known_call i b k c =
    record {
      attached = attached_after b k.attached c;
      held = held_after b i k.attached k.held c;
      answers = answers_after b i k.attached k.answers c;
      history = seen_call b k c;
    }

unfoldable pub known_calls : ℕ → Bus → Known → List Call → Known
known_calls i b k [] = k
known_calls i b k (c ∷ cs) = known_calls i (after_call b c) (known_call i b k c) cs

-- after these calls from power-on
abbrev pub known : ℕ → List Call → Known
known i cs = known_calls i powered_on unknown cs

abbrev pub seen : ℕ → List Call → History
seen i cs = (known i cs).history

abbrev pub held_by : ℕ → List Call → List Telegram
held_by i cs = (known i cs).held

abbrev pub answers_by : ℕ → List Call → Answers
answers_by i cs = (known i cs).answers

-- the station in seat i, of the i-th attach that was done
abbrev pub nobody : Who
nobody = record { address = 0; master = false }

abbrev pub station_by : ℕ → List Call → Who
station_by i cs = get_or (known i cs).attached i nobody
