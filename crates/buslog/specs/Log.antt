-- The log beside its buffer: set up, emptied, and which buffer is its own (02, E1). Assumes nothing.
use Rattle.std.specs.Prelude.{Bool, true, false, cond, ℕ, eqb, ltb, leb, Result, Ok, Err}
use Rattle.buslog.specs.declared.log.Log.{Log}
use Rattle.buslog.specs.declared.log.BadLength.{BadLength}

-- the buffer has 64 to 65,536 bytes
abbrev pub fewest : ℕ
fewest = 64

abbrev pub most : ℕ
most = 65536

unfoldable pub within_limits : ℕ → Bool
within_limits n = cond (ltb n fewest) false (cond (ltb most n) false true)

-- nothing held, in a buffer of so many bytes
abbrev pub fresh_for : ℕ → Log
fresh_for n = record { start = 0; held = 0; room = n }

abbrev pub bad_length : BadLength
bad_length = record {}

-- for a buffer of so many bytes
unfoldable pub set_up_for : ℕ → Result Log BadLength
set_up_for n = cond (within_limits n) (Ok (fresh_for n)) (Err bad_length)

-- the number in our list, 0 where nothing is refused
abbrev pub set_up_number : Result Log BadLength → ℕ
set_up_number (Ok l) = 0
set_up_number (Err e) = 16

-- it was set up for a buffer of so many bytes
unfoldable pub is_of : Log → ℕ → Bool
is_of l n = cond (eqb l.room n) (cond (within_limits n) (cond (ltb l.start n) (leb l.held n) false) false) false

unfoldable pub emptied : Log → Log
emptied l = fresh_for l.room
