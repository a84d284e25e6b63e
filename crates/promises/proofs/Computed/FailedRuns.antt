-- A slot for each way to fail, 1 to 5, at the owner and, where 01 has it, at the slave that answers (01, "Sending", "Reading",
-- "Acknowledgement"). Assumes nothing.
use mathlib.Core.Path.{◌≡◌, refl}
use Prim.Native.Nat.{ℕ}
use mathlib.Core.Bool.{true, false}
use mathlib.Core.List.{List, [], ◌∷◌, ◌++◌, map}
use Rattle.station.specs.declared.phase.Failure.TheVariants.{Disturbed, WrongAck, TwiceNak, SynHeard, PairBroken, OverLong}
use Rattle.station.specs.declared.phase.Sound.TheVariants.{Quiet, Symbol}
use Rattle.station.specs.declared.phase.Told.{Told}
use Rattle.station.specs.declared.phase.Told.TheVariants.{Silence, Failed, FailedFree}
use Rattle.promises.specs.Calls.{Call, attach, queue, heard}
use Rattle.promises.proofs.Computed.Runs.{slots, symbols, tolds, run}
use Rattle.promises.proofs.Computed.Witnesses.{begun}

-- calls from power-on, the last of them a slot, and what it tells each station
pub record Failing : Type 0 where
  pub calls : List Call
  pub told : List Told

abbrev row : List Call → List Told → Failing
row cs ts = record { calls = cs; told = ts }

-- failed 5, by the pair at this place with this symbol behind its A9
abbrev broken : ℕ → ℕ → Told
broken p x = Failed (PairBroken (record { position = p; symbol = x }))

-- master 10 asks 08, which answers; AA was heard, 10's part is out, and the next slot has the 00
abbrev part_out : List Call
part_out = begun ++ (heard (Symbol 0xAA) ∷ slots 6)

-- its answer is out too
abbrev answer_out : List Call
answer_out = part_out ++ slots 4

-- 08 is not attached: 10's part is out, and 00 was heard
abbrev unanswered : List Call
unanswered = attach 0x10 true ∷ queue 0x10 0x08 0x50 0x02 [] ∷ heard (Symbol 0xAA) ∷ slots 6 ++ symbols (0x00 ∷ [])

abbrev pub table : List Failing
table =
    -- 1: the owner, the slave; by another symbol, by quiet, by AA
    row (begun ++ (heard (Symbol 0xAA) ∷ slots 2) ++ symbols (0x55 ∷ [])) (FailedFree Disturbed ∷ Silence ∷ [])
    ∷ row (begun ++ (heard (Symbol 0xAA) ∷ slots 2) ++ (heard Quiet ∷ [])) (FailedFree Disturbed ∷ Silence ∷ [])
    ∷ row (begun ++ (heard (Symbol 0xAA) ∷ slots 2) ++ symbols (0xAA ∷ [])) (FailedFree Disturbed ∷ Silence ∷ [])
    ∷ row (part_out ++ slots 2 ++ symbols (0x55 ∷ [])) (Silence ∷ Failed Disturbed ∷ [])
    -- 2: the owner; owner and slave; the owner after a wrong CRC
    ∷ row (part_out ++ symbols (0x55 ∷ [])) (Failed WrongAck ∷ Silence ∷ [])
    ∷ row (answer_out ++ symbols (0x55 ∷ [])) (Failed WrongAck ∷ Failed WrongAck ∷ [])
    ∷ row (unanswered ++ symbols (0x01 ∷ 0x64 ∷ 0xFE ∷ 0x00 ∷ [])) (Failed WrongAck ∷ [])
    -- 3: the owner; owner and slave
    ∷ row (part_out ++ symbols (0xFF ∷ []) ++ slots 6 ++ symbols (0xFF ∷ [])) (Failed TwiceNak ∷ Silence ∷ [])
    ∷ row (answer_out ++ symbols (0xFF ∷ []) ++ slots 3 ++ symbols (0xFF ∷ [])) (Failed TwiceNak ∷ Failed TwiceNak ∷ [])
    -- 4: the owner; owner and slave; the owner that reads an answer, also right after an A9
    ∷ row (part_out ++ symbols (0xAA ∷ [])) (FailedFree SynHeard ∷ Silence ∷ [])
    ∷ row (answer_out ++ symbols (0xAA ∷ [])) (FailedFree SynHeard ∷ Failed SynHeard ∷ [])
    ∷ row (unanswered ++ symbols (0x01 ∷ 0xAA ∷ [])) (FailedFree SynHeard ∷ [])
    ∷ row (unanswered ++ symbols (0x01 ∷ 0xA9 ∷ 0xAA ∷ [])) (FailedFree SynHeard ∷ [])
    -- 5: the owner, by a broken pair in the data, in the CRC, and which it was
    ∷ row (unanswered ++ symbols (0x01 ∷ 0xA9 ∷ 0x05 ∷ [])) (broken 1 0x05 ∷ [])
    ∷ row (unanswered ++ symbols (0x00 ∷ 0xA9 ∷ 0xFF ∷ [])) (broken 1 0xFF ∷ [])
    -- the last of two data bytes; behind another pair; A9 A9; quiet does not count
    ∷ row (unanswered ++ symbols (0x02 ∷ 0x64 ∷ 0xA9 ∷ 0x05 ∷ [])) (broken 2 0x05 ∷ [])
    ∷ row (unanswered ++ symbols (0x02 ∷ 0xA9 ∷ 0x01 ∷ 0xA9 ∷ 0x05 ∷ [])) (broken 3 0x05 ∷ [])
    ∷ row (unanswered ++ symbols (0x01 ∷ 0xA9 ∷ 0xA9 ∷ [])) (broken 1 0xA9 ∷ [])
    ∷ row (unanswered ++ symbols (0x01 ∷ 0x64 ∷ []) ++ (heard Quiet ∷ []) ++ symbols (0xA9 ∷ []) ++ (heard Quiet ∷ []) ++ symbols (0x02 ∷ [])) (broken 2 0x02 ∷ [])
    -- in the answer that is read again it counts from that one's first symbol
    ∷ row (unanswered ++ symbols (0x01 ∷ 0x64 ∷ 0x55 ∷ 0xFF ∷ 0x01 ∷ 0xA9 ∷ 0x05 ∷ [])) (broken 1 0x05 ∷ [])
    -- in a master part nobody is told: 08 falls silent
    ∷ row (attach 0x08 false ∷ heard (Symbol 0xAA) ∷ symbols (0x10 ∷ 0x08 ∷ 0x50 ∷ 0x02 ∷ 0x01 ∷ 0xA9 ∷ 0x05 ∷ [])) (Silence ∷ [])
    -- 5: the owner, by an NN above 16, at once; in the answer that is read again
    ∷ row (unanswered ++ symbols (0x11 ∷ [])) (Failed OverLong ∷ [])
    ∷ row (unanswered ++ symbols (0xFF ∷ [])) (Failed OverLong ∷ [])
    ∷ row (unanswered ++ symbols (0x00 ∷ 0x55 ∷ 0xFF ∷ 0x11 ∷ [])) (Failed OverLong ∷ [])
    ∷ []

-- each station is told so
pub told_failed : map (λ (f : Failing). tolds f.calls) table ≡ map (λ (f : Failing). f.told) table
unfolding run
told_failed = refl
