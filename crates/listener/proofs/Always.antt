-- After every sequence of calls from power-on, the log holds the latest lines noted since its set-up or since it was emptied, and they
-- read back. Assumes nothing.
use mathlib.Core.Path.{◌≡◌, refl, ap, subst, sym, ◌∙◌}
use mathlib.Core.Bool.{Bool, true, false, cond}
use mathlib.Core.List.{List, [], ◌∷◌, ◌++◌, map}
use Prim.Native.Nat.{ℕ}
use lib.ListN.{length}
use Rattle.laws.proofs.FirstIs.{Every, none, every_append, every_behind}
use Rattle.bus.specs.Events.{Line, events}
use Rattle.bus.specs.declared.bus.Bus.{Bus}
use Rattle.promises.specs.Calls.{ByteUses, Reachable}
use Rattle.promises.proofs.Shared.Uses.{on_reachable, reachable_use}
use Rattle.buslog.specs.Latest.{joined, longest_run}
use Rattle.buslog.specs.Log.{within_limits, fresh_for, bad_length, set_up_for, is_of, emptied}
use Rattle.buslog.specs.Note.{note_in}
use Rattle.buslog.specs.ReadBack.{read_entries}
use Rattle.buslog.specs.Ring.{Ring, ring, bytes_from, held_bytes}
use Rattle.std.specs.Prelude.{Ok, Err}
use Rattle.buslog.proofs.DiaryReadsBack.{events_numbered}
use Rattle.buslog.proofs.HoldsTheLatest.{HoldsLatest, slot_noted}
use Rattle.buslog.proofs.Limits.{sound_fresh, sound_emptied, own_buffer}
use Rattle.buslog.proofs.Longest.{goes_oldest_first}
use Rattle.buslog.proofs.ReadsBack.{Numbered, entry_of, log_reads_back}
use Rattle.listener.specs.Beside.{Beside, Act, on_bus, set_up, note, empty, read, kth, readied, after_act, after_acts, switched_on, uses_in, noted_as, noted_since}
use Rattle.listener.proofs.Roomy.{reachable_roomy, reachable_numbered}

-- what the log holds: nothing before a set-up, the latest lines after it
data Held : Ring → List Line → Type 0 where
  before : Held (ring [] (fresh_for 0)) []
  since : {d : Ring} {all : List Line} (room : ℕ) → HoldsLatest d room all → Held d all

record Kept (w : Beside) (all : List Line) : Type 0 where
  bus : Reachable w.bus
  held : Held w.ring all
  numbered : Every Numbered all

-- ---- what each act leaves

none_own : is_of (fresh_for 0) 0 ≡ false
unfolding is_of within_limits
none_own = refl

set_up_held : (bytes : List ℕ) (d : Ring) (all : List Line) → Held d all
    → Held (readied (set_up_for (length bytes)) bytes d) (cond (within_limits (length bytes)) [] all)
unfolding set_up_for bytes_from joined longest_run
set_up_held bytes d all h = go (within_limits (length bytes)) refl
  where
    go : (t : Bool) → within_limits (length bytes) ≡ t → Held (readied (cond t (Ok (fresh_for (length bytes))) (Err bad_length)) bytes d) (cond t [] all)
    go true w = since (length bytes) (record { sound = sound_fresh bytes w; room = refl; bytes = refl })
    go false w = h

note_held : (d : Ring) (all : List Line) (b : Bus) → Reachable b → Held d all
    → Held (note_in d b).ring (cond (is_of d.log (length d.bytes)) (all ++ events b) all)
unfolding note_in
note_held d all b r before = rw none_own before
note_held d all b r (since room g) =
    rw (own_buffer d g.sound) (since room (rw (own_buffer d g.sound) at (slot_noted d room all b g (reachable_roomy b r))))

empty_held : (d : Ring) (all : List Line) → Held d all → Held (ring d.bytes (emptied d.log)) []
unfolding emptied bytes_from joined longest_run
empty_held d all before = before
empty_held d all (since room g) = since room (record { sound = sound_emptied d g.sound; room = g.room; bytes = refl })

-- the lines of a bus that calls bring about
lines_numbered : (b : Bus) → Reachable b → Every Numbered (events b)
lines_numbered b r = events_numbered b (reachable_numbered b r)

either : {P : Line → Type 0} (t : Bool) {ls ms : List Line} → Every P ls → Every P ms → Every P (cond t ls ms)
either true p q = p
either false p q = q

-- ---- after all acts

acts_kept : (w : Beside) (all : List Line) (acts : List Act) → Kept w all → ByteUses (uses_in acts) → Kept (after_acts w acts) (noted_since w all acts)
unfolding after_acts noted_since uses_in
acts_kept w all [] k u = k
acts_kept w all (on_bus u ∷ acts) k us =
    acts_kept (after_act w (on_bus u)) all acts (record { bus = reachable_use u k.bus us.0; held = k.held; numbered = k.numbered }) us.1
acts_kept w all (set_up bytes ∷ acts) k us =
    acts_kept (after_act w (set_up bytes)) (noted_as w all (set_up bytes)) acts
    (record { bus = k.bus; held = set_up_held bytes w.ring all k.held; numbered = either (within_limits (length bytes)) none k.numbered }) us
acts_kept w all (note ∷ acts) k us =
    acts_kept (after_act w note) (noted_as w all note) acts
    (record {
      bus = k.bus;
      held = note_held w.ring all w.bus k.bus k.held;
      numbered = either (is_of w.ring.log (length w.ring.bytes)) (every_append k.numbered (lines_numbered w.bus k.bus)) k.numbered;
    }) us
acts_kept w all (empty ∷ acts) k us =
    acts_kept (after_act w empty) [] acts (record { bus = k.bus; held = empty_held w.ring all k.held; numbered = none }) us
acts_kept w all (read out ∷ acts) k us = acts_kept w all acts k us
acts_kept w all (kth n out ∷ acts) k us = acts_kept w all acts k us

from_power_on : (acts : List Act) → ByteUses (uses_in acts) → Kept (after_acts switched_on acts) (noted_since switched_on [] acts)
from_power_on acts us = acts_kept switched_on [] acts (record { bus = on_reachable; held = before; numbered = none }) us

held_latest : (d : Ring) (all : List Line) → Held d all → held_bytes d ≡ joined (longest_run (length d.bytes) all)
unfolding bytes_from joined longest_run
held_latest d all before = refl
held_latest d all (since room g) = g.bytes ∙ ap (λ (n : ℕ). joined (longest_run n all)) (sym g.room ∙ g.sound.own)

-- ---- the log beside any calls

-- the log after any acts from power-on, and the lines noted since it was set up or emptied
abbrev pub log_after : List Act → Ring
log_after acts = (after_acts switched_on acts).ring

abbrev pub lines_noted : List Act → List Line
lines_noted acts = noted_since switched_on [] acts

-- the longest run of them that fits its buffer
pub always_holds_the_latest : (acts : List Act) → ByteUses (uses_in acts)
    → held_bytes (log_after acts) ≡ joined (longest_run (length (log_after acts).bytes) (lines_noted acts))
always_holds_the_latest acts us = held_latest (log_after acts) (lines_noted acts) (from_power_on acts us).held

-- which reads back: slot number, station, word and values of those lines
pub always_reads_back : (acts : List Act) → ByteUses (uses_in acts)
    → read_entries (held_bytes (log_after acts)) ≡ map entry_of (longest_run (length (log_after acts).bytes) (lines_noted acts))
always_reads_back acts us =
    let run = goes_oldest_first (length (log_after acts).bytes) (lines_noted acts) in
    let ns = every_behind run.0 (subst (λ (v : List Line). Every Numbered v) run.1 (from_power_on acts us).numbered) in
    ap read_entries (always_holds_the_latest acts us) ∙ log_reads_back (longest_run (length (log_after acts).bytes) (lines_noted acts)) ns
