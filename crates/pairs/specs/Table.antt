-- A transfer counted at its pair's record, or at a new one, or among the others; and a pair's counts (02, E9). Over the list of the
-- table's records. Assumes nothing.
use Rattle.std.specs.Prelude.{Bool, false, cond, List, [], ◌∷◌, ℕ, zero, suc, ◌+◌, eqb, ltb, length, take, get_or, set, Option, Some, None, Result, Ok, Err}
use Rattle.bus.specs.declared.bus.Bus.{Bus}
use Rattle.pairs.specs.declared.AskError.{AskError}
use Rattle.pairs.specs.declared.AskError.TheVariants as ask_error
use Rattle.pairs.specs.declared.Book.{Book}
use Rattle.pairs.specs.declared.Counts.{Counts}
use Rattle.pairs.specs.declared.Heard.{Heard}
use Rattle.pairs.specs.declared.OtherLength.{OtherLength}
use Rattle.pairs.specs.declared.Pair.{Pair}
use Rattle.pairs.specs.declared.Tally.{Tally}
use Rattle.pairs.specs.declared.Transfer.{Transfer}
use Rattle.pairs.specs.declared.UnderWay.{UnderWay}
use Rattle.pairs.specs.Counts.{tally, counts, records, raise, in_use}
use Rattle.pairs.specs.Hear.{heard_of}

abbrev pub pair : ℕ → ℕ → Tally → Pair
pair qq zz t = record { qq = qq; zz = zz; tally = t }

-- what is read past the end: nothing is
abbrev pub blank : Pair
blank = pair 0 0 (tally 0 0)

-- this record is the pair's
unfoldable pub is_of : Pair → ℕ → ℕ → Bool
is_of p qq zz = cond (eqb p.qq qq) (eqb p.zz zz) false

-- how many records stand before the pair's; all of them where it has none
unfoldable pub find : List Pair → ℕ → ℕ → ℕ
find [] qq zz = zero
find (p ∷ t) qq zz = let k = find t qq zz in cond (is_of p qq zz) zero (suc k)

-- among the first n
unfoldable pub place_in : List Pair → ℕ → ℕ → ℕ → ℕ
place_in t n qq zz = find (take n t) qq zz

-- a record with one transfer more
unfoldable pub raised : Pair → Bool → Pair
raised p taken = pair p.qq p.zz (raise p.tally taken)

-- a new record, with its first transfer
unfoldable pub opened : Transfer → Pair
opened x = pair x.qq x.zz (raise (tally 0 0) x.taken)

-- the record at a place, with the transfer: behind those in use it is a new one
unfoldable pub noted : Pair → ℕ → Counts → Transfer → Pair
noted p at c x = cond (ltb at (in_use c)) (raised p x.taken) (opened x)

-- the counts: one record more is in use where it is a new one; where there is no place the transfer is among the others
unfoldable pub settled : Counts → UnderWay → ℕ → Transfer → Counts
settled c u at x =
    cond (ltb at (in_use c))
    (counts c.used c.others u)
    (cond (ltb at records) (counts (at + 1) c.others u) (counts c.used (raise c.others x.taken) u))

-- the table after a call, and what the call gives: the counts, or a refusal that gives them back
pub record Counting : Type 0 where
  pub table : List Pair
  pub kept : Result Counts OtherLength

abbrev pub counting : List Pair → Result Counts OtherLength → Counting
counting t k = record { table = t; kept = k }

abbrev pub other_length : Counts → OtherLength
other_length c = record { counts = c }

-- the counts after it, either way
abbrev pub counts_after : Result Counts OtherLength → Counts
counts_after (Ok c) = c
counts_after (Err e) = e.counts

-- a transfer has ended
unfoldable pub counted_one : List Pair → Heard → Transfer → Counting
counted_one t h x =
    let at = place_in t (in_use h.before) x.qq x.zz in
    counting (set t at (noted (get_or t at blank) at h.before x)) (Ok (settled h.before h.current at x))

-- or none has
abbrev pub counted_as : Option Transfer → List Pair → Heard → Counting
counted_as None t h = counting t (Ok (counts h.before.used h.before.others h.current))
counted_as (Some x) t h = counted_one t h x

-- a table of another length than 64: nothing is changed
unfoldable pub count_in : List Pair → Heard → Counting
count_in t h = cond (eqb (length t) records) (counted_as h.freed t h) (counting t (Err (other_length h.before)))

-- what a pair's record says
unfoldable pub counts_of : Pair → Result Tally AskError
counts_of p = Ok p.tally

-- the table is read from its beginning up to the pair's record; 20 where the pair has none
unfoldable pub ask_in : List Pair → Counts → ℕ → ℕ → Result Tally AskError
ask_in t c qq zz =
    let at = place_in t (in_use c) qq zz in
    cond (ltb at (in_use c)) (counts_of (get_or t at blank)) (Err ask_error.NoRecord)

unfoldable pub ask_of : List Pair → Counts → ℕ → ℕ → Result Tally AskError
ask_of t c qq zz = cond (eqb (length t) records) (ask_in t c qq zz) (Err ask_error.OtherLength)

-- the slot that the bus has just run, heard and counted
abbrev pub listened : List Pair → Counts → Bus → Counting
listened t c b = count_in t (heard_of c b)

-- the same for a table of its own
abbrev pub book_of : Counting → Book
book_of k = record { counts = counts_after k.kept; table = k.table }
