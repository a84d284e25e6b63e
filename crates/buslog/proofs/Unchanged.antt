-- What changes nothing: a slot that tells nobody anything, and every call with a buffer of another length than at set-up. Assumes nothing.
use mathlib.Core.Path.{◌≡◌, sym, ◌∙◌}
use mathlib.Core.Logic.{◌≢◌}
use mathlib.Core.Bool.{true, false}
use mathlib.Core.List.{List, []}
use Prim.Native.Nat.{ℕ}
use borrow.Author.Tests.{ne_eqb}
use lib.ListN.{length}
use Rattle.bus.specs.Events.{events}
use Rattle.bus.specs.declared.bus.Bus.{Bus}
use Rattle.std.specs.Prelude.{Ok, Err}
use Rattle.buslog.specs.declared.log.ReadError.TheVariants.{OtherLength}
use Rattle.buslog.specs.Log.{is_of}
use Rattle.buslog.specs.Note.{noted_all, records_of, slot_records, kept, other_length, note_in}
use Rattle.buslog.specs.Read.{copying, saying, read_into, record_into}
use Rattle.buslog.specs.Ring.{Ring}
use Rattle.buslog.specs.Sound.{Sound}

-- a slot that tells nobody anything is no record
pub says_nothing_changes_nothing : (d : Ring) (b : Bus) → events b ≡ [] → is_of d.log (length d.bytes) ≡ true → note_in d b ≡ kept d (Ok tt)
unfolding note_in slot_records records_of noted_all
says_nothing_changes_nothing d b e o = rw (o, e)

-- a buffer of another length: the log and the buffer stay as they were
pub other_length_changes_nothing : (d : Ring) (b : Bus) → is_of d.log (length d.bytes) ≡ false → note_in d b ≡ kept d (Err other_length)
unfolding note_in
other_length_changes_nothing d b o = rw o

-- nothing is copied
pub other_length_reads_nothing : (d : Ring) (out : List ℕ) → is_of d.log (length d.bytes) ≡ false
    → read_into d out ≡ copying out (saying OtherLength)
unfolding read_into
other_length_reads_nothing d out o = rw o

pub other_length_copies_nothing : (d : Ring) (k : ℕ) (out : List ℕ) → is_of d.log (length d.bytes) ≡ false
    → record_into d k out ≡ copying out (saying OtherLength)
unfolding record_into
other_length_copies_nothing d k out o = rw o

-- a log that goes with its buffer takes no buffer of another length for it
pub another_buffer : (d : Ring) (other : List ℕ) → Sound d → length other ≢ length d.bytes → is_of d.log (length other) ≡ false
unfolding is_of
another_buffer d other s h = rw (ne_eqb d.log.room (length other) (λ e. h (sym e ∙ s.own)))
