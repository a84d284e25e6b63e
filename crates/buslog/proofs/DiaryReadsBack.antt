-- What the log holds reads back as the latest lines of the slots noted, oldest first. Assumes nothing.
use mathlib.Core.Path.{◌≡◌, refl, ap, subst, ◌∙◌}
use mathlib.Core.Bool.{true}
use mathlib.Core.List.{List, [], ◌∷◌, map}
use Prim.Native.Nat.{ℕ, ◌^◌, ◌<◌}
use lib.ListN.{length}
use Rattle.laws.proofs.FirstIs.{Every, none, next, every_append, every_behind}
use Rattle.wire.specs.declared.part.Telegram.{Telegram}
use Rattle.station.specs.Events.{Event, events_as, tells}
use Rattle.station.specs.declared.phase.Told.{Told}
use Rattle.station.specs.declared.phase.Told.TheVariants.{Silence, Owns, Taken, Failed, Free, FailedFree, Given, Answered}
use Rattle.station.specs.declared.station.Turn.{Turn}
use Rattle.bus.specs.Bus.{attached_turns}
use Rattle.bus.specs.Events.{Line, line, events}
use Rattle.bus.specs.Time.{time_of}
use Rattle.bus.specs.declared.bus.Bus.{Bus}
use Rattle.bus.specs.declared.time.Time.{Time}
use Rattle.bus.proofs.Elapsed.{elapsed_32}
use Rattle.buslog.specs.Latest.{longest_run, all_lines}
use Rattle.buslog.specs.Log.{within_limits}
use Rattle.buslog.specs.ReadBack.{read_entries}
use Rattle.buslog.specs.Ring.{held_bytes}
use Rattle.buslog.specs.Roomy.{AllRoomy}
use Rattle.buslog.proofs.EachTold.{EachOf, tellings_each}
use Rattle.buslog.proofs.HoldsTheLatest.{log_after, log_holds_the_latest}
use Rattle.buslog.proofs.Longest.{goes_oldest_first}
use Rattle.buslog.proofs.ReadsBack.{OneNumber, Numbered, entry_of, log_reads_back}

-- a bus whose slot number has 32 bits
abbrev pub Slot32 : Bus → Type 0
Slot32 b = b.slot < 2 ^ 32

abbrev HasNumber : Event → Type 0
HasNumber e = OneNumber e.word e.values

-- what a station is told
told_number : (s : Told) (a : ℕ) (t : Telegram) → Every HasNumber (events_as s a t)
told_number Silence a t = none
told_number Owns a t = next tt none
told_number Taken a t = next tt none
told_number (Failed f) a t = next refl none
told_number Free a t = next tt none
told_number (FailedFree f) a t = next refl (next tt none)
told_number Given a t = next tt none
told_number Answered a t = next tt none

turns_number : (ts : List Turn) → Every (EachOf HasNumber) ts
unfolding tells
turns_number [] = none
turns_number (t ∷ ts) = next (told_number t.told t.station.address t.station.part) (turns_number ts)

timed_numbered : (w : Time) {es : List Event} → w.slot < 2 ^ 32 → w.elapsed < 2 ^ 32 → Every HasNumber es → Every Numbered (map (line w) es)
timed_numbered w h k none = none
timed_numbered w h k (next f fs) = next (record { slot = h; elapsed = k; failure = f }) (timed_numbered w h k fs)

-- the events of a slot carry numbers of 32 bits, and a failed one its number
pub events_numbered : (b : Bus) → Slot32 b → Every Numbered (events b)
unfolding events time_of
events_numbered b h = timed_numbered (time_of b) h (elapsed_32 b) (tellings_each HasNumber b (turns_number (attached_turns b)))

lines_numbered : {bs : List Bus} → Every Slot32 bs → Every Numbered (all_lines bs)
unfolding all_lines
lines_numbered none = none
lines_numbered (next {a = b} h hs) = every_append (events_numbered b h) (lines_numbered hs)

-- the longest run of latest lines, from the log's bytes alone
pub diary_reads_back : (bytes : List ℕ) (bs : List Bus) → within_limits (length bytes) ≡ true → AllRoomy bs → Every Slot32 bs
    → read_entries (held_bytes (log_after bytes bs)) ≡ map entry_of (longest_run (length bytes) (all_lines bs))
diary_reads_back bytes bs w rs hs =
    let run = goes_oldest_first (length bytes) (all_lines bs) in
    let ns = every_behind run.0 (subst (λ (v : List Line). Every Numbered v) run.1 (lines_numbered hs)) in
    ap read_entries (log_holds_the_latest bytes bs w rs) ∙ log_reads_back (longest_run (length bytes) (all_lines bs)) ns
