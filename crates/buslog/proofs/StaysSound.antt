-- Whatever a sound log holds, it stays sound and keeps its room when slots are noted. Assumes nothing.
use mathlib.Core.Path.{◌≡◌, refl, ◌∙◌}
use mathlib.Core.Bool.{Bool, true, false, cond}
use mathlib.Core.List.{List, [], ◌∷◌}
use Prim.Native.Nat.{ℕ, zero, suc, ◌+◌, ◌*◌, ◌<◌}
use borrow.Author.Tests.{ltb-true}
use lib.Dec.{ltb}
use lib.ListN.{length}
use Rattle.laws.proofs.AtMost.{at_most_room}
use Rattle.bus.specs.declared.bus.Bus.{Bus}
use Rattle.buslog.specs.declared.log.Log.{Log}
use Rattle.buslog.specs.Note.{noted, noted_all, slot_records, note_in}
use Rattle.buslog.specs.Ring.{Ring, ring, byte_at, size_of_oldest, without, is_short, room_from, pushed_one, pushed}
use Rattle.buslog.specs.Slots.{noted_slots}
use Rattle.buslog.specs.Sound.{Sound}
use Rattle.buslog.proofs.Limits.{own_buffer}
use Rattle.buslog.proofs.Turned.{sound_without}
use Rattle.buslog.proofs.Holds.{sound_pushed_one, room_pushed_one}

-- a sound log with so much room
pub record SoundFor (d : Ring) (n : ℕ) : Type 0 where
  pub sound : Sound d
  pub room : d.log.room ≡ n

-- the oldest record goes
oldest_goes : (d : Ring) (n : ℕ) → SoundFor d n → SoundFor (ring d.bytes (without d.log (size_of_oldest d))) n
unfolding size_of_oldest without
oldest_goes d n s =
    record {
      sound = sound_without d s.sound (size_of_oldest d) (at_most_room (3 + 256 * byte_at d 1 + byte_at d 2) d.log.held);
      room = s.room;
    }

-- room is made
room_made : (k more : ℕ) (d : Ring) (n : ℕ) → SoundFor d n → SoundFor (ring d.bytes (room_from k more d.bytes d.log)) n
unfolding room_from
room_made zero more d n s = s
room_made (suc k) more d n s =
    go (is_short d.log more) (room_made k more (ring d.bytes (without d.log (size_of_oldest d))) n (oldest_goes d n s))
  where
    further : Log
    further = room_from k more d.bytes (without d.log (size_of_oldest d))

    go : (t : Bool) → SoundFor (ring d.bytes further) n → SoundFor (ring d.bytes (cond t further d.log)) n
    go true g = g
    go false g = s

-- a byte more; a full log stays as it is
one_pushed : (d : Ring) (b n : ℕ) → SoundFor d n → SoundFor (pushed_one d b) n
unfolding pushed_one
one_pushed d b n s = go (ltb d.log.held d.log.room) refl
  where
    go : (t : Bool) → ltb d.log.held d.log.room ≡ t → SoundFor (pushed_one d b) n
    go true e =
        let h : d.log.held < d.log.room = ltb-true d.log.held d.log.room e in
        record { sound = sound_pushed_one d s.sound b h; room = room_pushed_one d s.sound b h ∙ s.room }
    go false e = rw e s

some_pushed : (d : Ring) (bs : List ℕ) (n : ℕ) → SoundFor d n → SoundFor (pushed d bs) n
unfolding pushed
some_pushed d [] n s = s
some_pushed d (b ∷ bs) n s = some_pushed (pushed_one d b) bs n (one_pushed d b n s)

-- records are noted
one_noted : (d : Ring) (r : List ℕ) (n : ℕ) → SoundFor d n → SoundFor (noted d r) n
unfolding noted
one_noted d r n s = some_pushed _ r n (room_made d.log.held (length r) d n s)

all_noted : (d : Ring) (rs : List (List ℕ)) (n : ℕ) → SoundFor d n → SoundFor (noted_all d rs) n
unfolding noted_all
all_noted d [] n s = s
all_noted d (r ∷ rs) n s = all_noted (noted d r) rs n (one_noted d r n s)

-- a slot is noted
pub slot_stays_sound : (d : Ring) (b : Bus) (n : ℕ) → SoundFor d n → SoundFor (note_in d b).ring n
unfolding note_in
slot_stays_sound d b n s = rw (own_buffer d s.sound) (all_noted d (slot_records b) n s)

-- some slots are
pub slots_stay_sound : (d : Ring) (bs : List Bus) (n : ℕ) → SoundFor d n → SoundFor (noted_slots d bs) n
unfolding noted_slots
slots_stay_sound d [] n s = s
slots_stay_sound d (b ∷ bs) n s = slots_stay_sound (note_in d b).ring bs n (slot_stays_sound d b n s)
