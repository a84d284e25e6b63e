-- The telegrams that a station's users see waiting are those that queue calls brought: each load has its 16 places. Assumes nothing.
use mathlib.Core.Bool.{Bool, true, false, cond}
use mathlib.Core.List.{List, [], ◌∷◌, ◌++◌}
use Prim.Native.Nat.{ℕ}
use lib.Dec.{eqb}
use Rattle.laws.proofs.FirstIs.{Every, none, next, every_append}
use Rattle.wire.specs.Reading.{Sixteen}
use Rattle.wire.specs.declared.part.Telegram.{Telegram}
use Rattle.wire.proofs.Fitting.{load_sixteen}
use Rattle.station.specs.declared.phase.Sound.{Sound}
use Rattle.station.specs.declared.phase.Sound.TheVariants.{Quiet, Symbol}
use Rattle.bus.specs.declared.bus.Bus.{Bus}
use Rattle.bus.specs.Bus.{powered_on, turn_at}
use Rattle.bus.specs.Slot.{spoken, slot_heard, slot_run}
use Rattle.promises.specs.Accepted.{telegram_of}
use Rattle.promises.specs.Calls.{Call, attach, queue, reply, slot, heard, after_call}
use Rattle.promises.specs.Slots.{verdict_on}
use Rattle.history.specs.Held.{Who, is_done, in_seat, is_source, held_after}
use Rattle.history.specs.Lines.{left_by}
use Rattle.history.specs.Moments.{Moment, History, closed, extended}
use Rattle.history.specs.Observer.{Report, silence, owns, taken, free, given, answered, failed, failed_free, report_of}
use Rattle.history.specs.Seen.{Known, unknown, moment_in, later, seen_call, known_call, known_calls, seen}

abbrev pub Full : Telegram → Type 0
Full t = Sixteen t.load

-- all that wait in a slot
abbrev pub FullIn : Moment → Type 0
FullIn m = Every Full m.waits

left_full : (r : Report) {ts : List Telegram} → Every Full ts → Every Full (left_by r ts)
left_full silence w = w
left_full owns w = w
left_full taken w = w
left_full given w = w
left_full answered w = w
left_full (failed n x) w = w
left_full free none = none
left_full free (next _ w) = w
left_full (failed_free n x) none = none
left_full (failed_free n x) (next _ w) = w

held_full : (b : Bus) (i : ℕ) (ws : List Who) (c : Call) {ts : List Telegram} → Every Full ts → Every Full (held_after b i ws ts c)
held_full b i ws (attach a m) w = w
held_full b i ws (queue qq zz pb sb bytes) {ts} w = by (cond (is_done (verdict_on b (queue qq zz pb sb bytes))) (in_seat i ws (is_source qq)) false)
  where
    by : (q : Bool) → Every Full (cond q (ts ++ (telegram_of qq zz pb sb bytes ∷ [])) ts)
    by true = every_append w (next (load_sixteen bytes) none)
    by false = w
held_full b i ws (reply a pb sb bytes) w = w
held_full b i ws slot w = left_full (report_of (turn_at (slot_run b) i).told) w
held_full b i ws (heard h) w = left_full (report_of (turn_at (slot_heard b h) i).told) w

-- since the last AA
record FullNow (k : Known) : Type 0 where
  held : Every Full k.held
  slots : Every FullIn k.history.now

later_full : (k : Known) (h : Sound) → FullNow k → Every FullIn (later k.history (moment_in k h)).now
later_full k Quiet w = every_append w.slots (next w.held none)
later_full k (Symbol s) w = by (eqb s 0xAA)
  where
    by : (q : Bool) → Every FullIn (cond {A = History} q (closed k.history) (extended k.history (moment_in k (Symbol s)))).now
    by true = none
    by false = every_append w.slots (next w.held none)

seen_full : (b : Bus) (k : Known) (c : Call) → FullNow k → Every FullIn (seen_call b k c).now
seen_full b k (attach a m) w = w.slots
seen_full b k (queue qq zz pb sb bytes) w = w.slots
seen_full b k (reply a pb sb bytes) w = w.slots
seen_full b k slot w = later_full k (spoken b) w
seen_full b k (heard h) w = later_full k h w

calls_full : (i : ℕ) (b : Bus) (k : Known) (cs : List Call) → FullNow k → Every FullIn (known_calls i b k cs).history.now
unfolding known_calls
calls_full i b k [] w = w.slots
calls_full i b k (c ∷ cs) w =
    calls_full i (after_call b c) (known_call i b k c) cs (record { held = held_full b i k.attached c w.held; slots = seen_full b k c w })

pub full_now : (i : ℕ) (cs : List Call) → Every FullIn (seen i cs).now
full_now i cs = calls_full i powered_on unknown cs (record { held = none; slots = none })
