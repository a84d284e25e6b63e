-- Records copied out of the log, oldest first and whole (02, E1). Assumes nothing.
use Rattle.std.specs.Prelude.{cond, List, ℕ, zero, suc, ◌+◌, ◌-◌, eqb, ltb, leb, length, Result, Ok, Err}
use Rattle.std.proofs.lemmas.List.Edits.{sets}
use Rattle.buslog.specs.declared.log.Log.{Log}
use Rattle.buslog.specs.declared.log.ReadError.{ReadError}
use Rattle.buslog.specs.declared.log.ReadError.TheVariants.{OtherLength, NoRecord, NoRoom}
use Rattle.buslog.specs.Log.{is_of}
use Rattle.buslog.specs.Ring.{Ring, ring, bytes_from, size_of_oldest, without}

-- a lent buffer, and what a call that copies into it gives: how many bytes it copied, or why none
pub record Copying : Type 0 where
  pub out : List ℕ
  pub copied : Result ℕ ReadError

abbrev pub copying : List ℕ → Result ℕ ReadError → Copying
copying out c = record { out = out; copied = c }

-- nothing copied
abbrev pub saying : ReadError → Result ℕ ReadError
saying e = Err e

-- the first n bytes that are held
unfoldable pub copy_of : ℕ → Ring → List ℕ → Copying
copy_of n d out = copying (sets out 0 (bytes_from d 0 n)) (Ok n)

-- how many bytes the records take, from the oldest on, as far as whole ones fit into n
unfoldable pub fitting_from : ℕ → List ℕ → ℕ → Log → ℕ
fitting_from zero bytes n l = 0
fitting_from (suc k) bytes n l =
    let size = size_of_oldest (ring bytes l) in
    let more = fitting_from k bytes (n - size) (without l size) in
    cond (ltb 0 l.held) (cond (leb size n) (size + more) 0) 0

abbrev pub fitting_in : List ℕ → ℕ → Log → ℕ
fitting_in bytes n l = fitting_from l.held bytes n l

-- the records, oldest first, as far as whole ones fit
unfoldable pub read_into : Ring → List ℕ → Copying
read_into d out =
    cond (is_of d.log (length d.bytes)) (copy_of (fitting_in d.bytes (length out) d.log) d out) (copying out (saying OtherLength))

-- what is left behind k records
unfoldable pub rest_after : ℕ → List ℕ → Log → Log
rest_after zero bytes l = l
rest_after (suc k) bytes l =
    let further = rest_after k bytes (without l (size_of_oldest (ring bytes l))) in
    cond (eqb l.held 0) l further

-- the oldest record, whole
unfoldable pub oldest_into : Ring → List ℕ → Copying
oldest_into d out =
    cond (eqb d.log.held 0) (copying out (saying NoRecord))
    (cond (leb (size_of_oldest d) (length out)) (copy_of (size_of_oldest d) d out) (copying out (saying NoRoom)))

-- the k-th record, counted from 0, the oldest
unfoldable pub record_into : Ring → ℕ → List ℕ → Copying
record_into d k out =
    cond (is_of d.log (length d.bytes)) (oldest_into (ring d.bytes (rest_after k d.bytes d.log)) out) (copying out (saying OtherLength))
