-- The log holds the longest run of latest records that fits its buffer, after any slots: from its set-up on, or from where it was emptied.
-- Assumes nothing.
use mathlib.Core.Path.{◌≡◌, refl, ap, ◌∙◌}
use mathlib.Core.Bool.{true}
use mathlib.Core.List.{List, [], ◌∷◌, ◌++◌, append_assoc, append-nil}
use Prim.Native.Nat.{ℕ, ◌≤◌}
use native.Mathlib.Omega.{arith}
use lib.ListN.{length}
use Rattle.laws.proofs.FirstIs.{Every, none, next, every_append}
use Rattle.bus.specs.Events.{Line, events}
use Rattle.bus.specs.declared.bus.Bus.{Bus}
use Rattle.buslog.specs.Latest.{joined, longest_run, all_lines}
use Rattle.buslog.specs.Log.{within_limits, fresh_for, emptied}
use Rattle.buslog.specs.Note.{noted_all, records_of, slot_records, note_in}
use Rattle.buslog.specs.Record.{record_of}
use Rattle.buslog.specs.Ring.{Ring, ring, bytes_from, held_bytes}
use Rattle.buslog.specs.Roomy.{Roomy, AllRoomy}
use Rattle.buslog.specs.Roomy as roomy
use Rattle.buslog.specs.Slots.{noted_slots}
use Rattle.buslog.specs.Sound.{Sound}
use Rattle.buslog.proofs.Formed.{Short28, longest_record}
use Rattle.buslog.proofs.Limits.{within_limits_lem, sound_fresh, sound_emptied, own_buffer}
use Rattle.buslog.proofs.Longest.{joined_append, goes_oldest_first, run_is_longest, nothing_goes_while_there_is_room, newest_is_held}
use Rattle.buslog.proofs.OldestGoWhole.{latest_noted}
use Rattle.buslog.proofs.Holds.{Holds}

-- of all these lines the latest are held, as far as they fit
abbrev pub HoldsLatest : Ring → ℕ → List Line → Type 0
HoldsLatest d room all = Holds d room (joined (longest_run room all))

-- some lines, noted one after the other
pub lines_noted : (ls : List Line) (d : Ring) (room : ℕ) (all : List Line) → HoldsLatest d room all → Every Short28 ls
    → HoldsLatest (noted_all d (records_of ls)) room (all ++ ls)
unfolding noted_all records_of
lines_noted [] d room all h none = rw append-nil h
lines_noted (l ∷ ls) d room all h (next s ss) =
    rw append_assoc at (lines_noted ls _ room (all ++ (l ∷ [])) (latest_noted d room all l h (omega arith)) ss)

-- a slot, noted by the public call
pub slot_noted : (d : Ring) (room : ℕ) (all : List Line) (b : Bus) → HoldsLatest d room all → Roomy b
    → HoldsLatest (note_in d b).ring room (all ++ events b)
unfolding note_in slot_records
slot_noted d room all b h r = rw (own_buffer d h.sound) (lines_noted (events b) d room all h (longest_record b r))

-- some slots
pub slots_noted : (d : Ring) (room : ℕ) (all : List Line) (bs : List Bus) → HoldsLatest d room all → AllRoomy bs
    → HoldsLatest (noted_slots d bs) room (all ++ all_lines bs)
unfolding noted_slots all_lines
slots_noted d room all [] h roomy.none = rw append-nil h
slots_noted d room all (b ∷ bs) h (roomy.next r rs) =
    rw append_assoc at (slots_noted (note_in d b).ring room (all ++ events b) bs (slot_noted d room all b h r) rs)

-- ---- from the set-up on

-- the log after some slots
abbrev pub log_after : List ℕ → List Bus → Ring
log_after bytes bs = noted_slots (ring bytes (fresh_for (length bytes))) bs

module _ (bytes : List ℕ) (bs : List Bus) (w : within_limits (length bytes) ≡ true) (rs : AllRoomy bs) where
  holds_latest : HoldsLatest (log_after bytes bs) (length bytes) (all_lines bs)
  unfolding bytes_from joined longest_run
  holds_latest =
      slots_noted (ring bytes (fresh_for (length bytes))) (length bytes) [] bs (record { sound = sound_fresh bytes w; room = refl; bytes = refl }) rs

-- it holds the longest run of latest records that fits
pub log_holds_the_latest : (bytes : List ℕ) (bs : List Bus) → within_limits (length bytes) ≡ true → AllRoomy bs
    → held_bytes (noted_slots (ring bytes (fresh_for (length bytes))) bs) ≡ joined (longest_run (length bytes) (all_lines bs))
log_holds_the_latest bytes bs w rs = (holds_latest bytes bs w rs).bytes

-- it goes with its buffer
pub log_stays_sound : (bytes : List ℕ) (bs : List Bus) → within_limits (length bytes) ≡ true → AllRoomy bs → Sound (log_after bytes bs)
log_stays_sound bytes bs w rs = (holds_latest bytes bs w rs).sound

-- after it was emptied, it holds the longest run of the latest records noted since
pub log_holds_the_latest_emptied : (d : Ring) (bs : List Bus) → Sound d → AllRoomy bs
    → held_bytes (noted_slots (ring d.bytes (emptied d.log)) bs) ≡ joined (longest_run d.log.room (all_lines bs))
unfolding bytes_from joined longest_run emptied
log_holds_the_latest_emptied d bs s rs =
    (slots_noted (ring d.bytes (emptied d.log)) d.log.room [] bs (record { sound = sound_emptied d s; room = refl; bytes = refl }) rs).bytes

-- ---- in the words of the issue

-- nothing goes while there is room
pub nothing_goes : (bytes : List ℕ) (bs : List Bus) → within_limits (length bytes) ≡ true → AllRoomy bs
    → length (joined (all_lines bs)) ≤ length bytes → held_bytes (log_after bytes bs) ≡ joined (all_lines bs)
nothing_goes bytes bs w rs h =
    log_holds_the_latest bytes bs w rs ∙ ap (λ (v : List Line). joined v) (nothing_goes_while_there_is_room (length bytes) (all_lines bs) h)

-- of all lines some are gone, the oldest; the others are held, whole; and no longer run of latest lines fits
pub record OldestGone (d : Ring) (n : ℕ) (all : List Line) : Type 0 where
  pub gone : List Line
  pub stayed : List Line
  pub oldest : all ≡ gone ++ stayed
  pub whole : held_bytes d ≡ joined stayed
  pub fewest : (xs ys : List Line) → all ≡ xs ++ ys → length (joined ys) ≤ n → length ys ≤ length stayed

-- what goes is the oldest, whole, and no more than must
pub oldest_go_whole : (bytes : List ℕ) (bs : List Bus) → within_limits (length bytes) ≡ true → AllRoomy bs
    → OldestGone (log_after bytes bs) (length bytes) (all_lines bs)
oldest_go_whole bytes bs w rs =
    let run = goes_oldest_first (length bytes) (all_lines bs) in
    record {
      gone = run.0;
      stayed = longest_run (length bytes) (all_lines bs);
      oldest = run.1;
      whole = log_holds_the_latest bytes bs w rs;
      fewest = λ xs ys e h. run_is_longest (length bytes) xs ys (all_lines bs) e h;
    }

every_last : {P : Line → Type 0} (ls : List Line) (l : Line) → Every P (ls ++ (l ∷ [])) → P l
every_last [] l (next p ps) = p
every_last (x ∷ ls) l (next p ps) = every_last ls l ps

-- no record of some slots has more than 28 bytes
pub longest_of_all : (bs : List Bus) → AllRoomy bs → Every Short28 (all_lines bs)
unfolding all_lines
longest_of_all [] roomy.none = none
longest_of_all (b ∷ bs) (roomy.next r rs) = every_append (longest_record b r) (longest_of_all bs rs)

-- the newest record is always held
pub newest_held : (bytes : List ℕ) (bs : List Bus) → within_limits (length bytes) ≡ true → AllRoomy bs
    → (ls : List Line) (l : Line) → all_lines bs ≡ ls ++ (l ∷ []) → (older : List Line) × (held_bytes (log_after bytes bs) ≡ joined older ++ record_of l)
unfolding joined
newest_held bytes bs w rs ls l e =
    let short : length (record_of l) ≤ 28 = every_last ls l (rw e at (longest_of_all bs rs)) in
    let run = newest_is_held (length bytes) ls l (omega (arith, (within_limits_lem (length bytes) w).0)) in
    let one : joined (l ∷ []) ≡ record_of l = append-nil (record_of l) in (
      run.0,
      log_holds_the_latest bytes bs w rs ∙ ap (λ (v : List Line). joined (longest_run (length bytes) v)) e ∙ ap (λ (v : List Line). joined v) run.1
          ∙ joined_append run.0 (l ∷ []) ∙ ap (λ (v : List ℕ). joined run.0 ++ v) one,
    )
