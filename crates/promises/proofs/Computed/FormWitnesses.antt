-- Calls and readings that meet what the theorems on wire forms ask for, computed: none of them speaks of nothing. Assumes nothing.
use Prim.Native.Nat.{ℕ}
use mathlib.Core.Path.{◌≡◌, refl}
use mathlib.Core.Bool.{Bool, true, false}
use mathlib.Core.List.{List, [], ◌∷◌}
use native.Mathlib.Omega.{arith}
use lib.ListN.{replicate}
use Rattle.wire.specs.Form.{bytes_of}
use Rattle.wire.specs.Reader.{start_of}
use Rattle.wire.specs.Reading.{Sixteen, read_all, before}
use Rattle.wire.specs.declared.part.Part.{Part}
use Rattle.wire.specs.declared.part.Part.TheVariants.{MasterPart, AnswerPart}
use Rattle.wire.specs.declared.part.Telegram.{Telegram}
use Rattle.wire.specs.declared.reader.Outcome.TheVariants.{Whole}
use Rattle.std.specs.Prelude.{Ok, Err}
use Rattle.bus.specs.Bus.{powered_on}
use Rattle.promises.specs.Calls.{Call, attach, queue, reply, after_calls, Reachable}
use Rattle.promises.specs.Slots.{verdict_on}
use Rattle.promises.proofs.Computed.Runs.{run}
use Rattle.promises.proofs.Shared.Uses.{by_calls}

-- master 10 and slave 08
abbrev two : List Call
two = attach 0x10 true ∷ attach 0x08 false ∷ []

two_reachable : Reachable (after_calls powered_on two)
two_reachable = by_calls two (omega arith)

-- 10 is to send 50 02 with AA to 08, and 08 to answer 64 (01's P2 and P6)
part_accepted : verdict_on (after_calls powered_on two) (queue 0x10 0x08 0x50 0x02 (0xAA ∷ [])) ≡ Ok tt
unfolding run
part_accepted = refl

answer_accepted : verdict_on (after_calls powered_on two) (reply 0x08 0x50 0x02 (0x64 ∷ [])) ≡ Ok tt
unfolding run
answer_accepted = refl

-- ---- readings

-- a reader's memory before its first reading
abbrev nothing_read : Telegram
nothing_read = record { qq = 0; zz = 0; pb = 0; sb = 0; load = record { nn = 0; bytes = replicate 16 0 } }

-- what a reader makes of symbols: whether the CRC is right, what stands before NN, the bytes, and what is left unread
record Makes (w : Part) (ss : List ℕ) (right : Bool) (hs bs left : List ℕ) : Type 0 where
  array : Sixteen nothing_read.load
  outcome : (read_all (start_of w) nothing_read ss).step.outcome ≡ Whole right
  head : before w (read_all (start_of w) nothing_read ss).step.part ≡ hs
  bytes : bytes_of (read_all (start_of w) nothing_read ss).step.part.load ≡ bs
  rest : (read_all (start_of w) nothing_read ss).rest ≡ left

-- the part and then a 00, which is left unread
reads_part : Makes MasterPart (0x10 ∷ 0x08 ∷ 0x50 ∷ 0x02 ∷ 0x01 ∷ 0xA9 ∷ 0x01 ∷ 0xDC ∷ 0x00 ∷ []) true (0x10 ∷ 0x08 ∷ 0x50 ∷ 0x02 ∷ []) (0xAA ∷ []) (0x00 ∷ [])
unfolding run read_all
reads_part = record { array = refl; outcome = refl; head = refl; bytes = refl; rest = refl }

-- with a wrong CRC other symbols are read as the same message: `queued_one_form` has to ask for the right one
reads_wrong_crc : Makes MasterPart (0x10 ∷ 0x08 ∷ 0x50 ∷ 0x02 ∷ 0x01 ∷ 0xA9 ∷ 0x01 ∷ 0xDD ∷ 0x00 ∷ []) false (0x10 ∷ 0x08 ∷ 0x50 ∷ 0x02 ∷ []) (0xAA ∷ []) (0x00 ∷ [])
unfolding run read_all
reads_wrong_crc = record { array = refl; outcome = refl; head = refl; bytes = refl; rest = refl }

reads_answer : Makes AnswerPart (0x01 ∷ 0x64 ∷ 0xFF ∷ 0x00 ∷ []) true [] (0x64 ∷ []) (0x00 ∷ [])
unfolding run read_all
reads_answer = record { array = refl; outcome = refl; head = refl; bytes = refl; rest = refl }
