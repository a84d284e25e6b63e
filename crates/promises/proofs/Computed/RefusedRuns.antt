-- For each number of 01's list a call that is turned down with it, and beside each limit the call that is not (01, "When a call is
-- turned down"; 6 is not in it any more: AsBefore). Assumes nothing.
use mathlib.Core.Path.{◌≡◌, refl}
use mathlib.Core.Bool.{true, false}
use mathlib.Core.List.{List, [], ◌∷◌, ◌++◌, map}
use Prim.Native.Nat.{ℕ}
use lib.ListN.{take, replicate}
use Rattle.bus.specs.Bus.{powered_on}
use Rattle.bus.specs.Refusal.{refusal_number}
use Rattle.std.specs.Prelude.{Result, Ok, Err, ⊤}
use Rattle.bus.specs.declared.refusal.Refusal.{Refusal}
use Rattle.promises.specs.Calls.{Call, attach, queue, reply, slot, after_calls}
use Rattle.promises.specs.Slots.{verdict_on}
use Rattle.promises.proofs.Computed.Runs.{run}

pub record Turned : Type 0 where
  -- any calls from power-on, and a call more
  pub calls : List Call
  pub call : Call
  -- the number with which it is turned down; 0: it is done
  pub number : ℕ

abbrev row : List Call → Call → ℕ → Turned
row cs c n = record { calls = cs; call = c; number = n }

abbrev pub number_given : Result ⊤ Refusal → ℕ
number_given (Ok tt) = 0
number_given (Err r) = refusal_number r

-- the number that the definitions give
abbrev pub given : Turned → ℕ
given t = number_given (verdict_on (after_calls powered_on t.calls) t.call)

-- master 10 and slave 08
abbrev two : List Call
two = attach 0x10 true ∷ attach 0x08 false ∷ []

-- 32 slaves, from 4A on
abbrev slaves : List Call
slaves = map (λ a. attach a false) (
    0x4A ∷ 0x4B ∷ 0x4C ∷ 0x4D ∷ 0x4E ∷ 0x4F ∷ 0x50 ∷ 0x51 ∷ 0x52 ∷ 0x53 ∷ 0x54 ∷ 0x55 ∷ 0x56 ∷ 0x57 ∷ 0x58 ∷ 0x59 ∷
    0x5A ∷ 0x5B ∷ 0x5C ∷ 0x5D ∷ 0x5E ∷ 0x5F ∷ 0x60 ∷ 0x61 ∷ 0x62 ∷ 0x63 ∷ 0x64 ∷ 0x65 ∷ 0x66 ∷ 0x67 ∷ 0x68 ∷ 0x69 ∷ [])

abbrev telegram : Call
telegram = queue 0x10 0x08 0x50 0x02 []

-- replies of 08 to 50 00, 50 01, ..
abbrev replies : List Call
replies = map (λ sb. reply 0x08 0x50 sb []) (0x00 ∷ 0x01 ∷ 0x02 ∷ 0x03 ∷ 0x04 ∷ 0x05 ∷ 0x06 ∷ 0x07 ∷ [])

abbrev pub table : List Turned
table =
    -- attach: 7, 8, 9, 10
    row (slot ∷ []) (attach 0x10 true) 7
    ∷ row [] (attach 0x11 true) 0
    ∷ row [] (attach 0x12 true) 8
    ∷ row [] (attach 0x11 false) 8
    ∷ row [] (attach 0xFE false) 8
    ∷ row [] (attach 0xA9 false) 8
    ∷ row [] (attach 0xAA false) 8
    ∷ row two (attach 0x10 true) 9
    ∷ row two (attach 0x15 false) 9
    ∷ row two (attach 0x03 true) 9
    ∷ row (attach 0xFF true ∷ []) (attach 0x04 false) 9
    ∷ row (take 31 slaves) (attach 0x10 true) 0
    ∷ row (take 32 slaves) (attach 0x10 true) 10
    -- queue: 1, 2, 3, 4, 5
    ∷ row two (queue 0x30 0x08 0x50 0x02 []) 1
    ∷ row two (queue 0x08 0x10 0x50 0x02 []) 1
    ∷ row two (queue 0x10 0xA9 0x50 0x02 []) 2
    ∷ row two (queue 0x10 0xAA 0x50 0x02 []) 2
    ∷ row two (queue 0x10 0x10 0x50 0x02 []) 2
    ∷ row two (queue 0x10 0x15 0x50 0x02 []) 2
    ∷ row two (queue 0x10 0x09 0x50 0x02 []) 0
    ∷ row two (queue 0x10 0x08 0xA9 0x02 []) 3
    ∷ row two (queue 0x10 0x08 0x50 0xAA []) 3
    ∷ row two (queue 0x10 0x08 0x50 0x02 (replicate 16 0xAA)) 0
    ∷ row two (queue 0x10 0x08 0x50 0x02 (replicate 17 0x00)) 4
    ∷ row (two ++ replicate 3 telegram) telegram 0
    ∷ row (two ++ replicate 4 telegram) telegram 5
    -- reply: 11, 3, 4, 12
    ∷ row two (reply 0x10 0x50 0x02 []) 11
    ∷ row two (reply 0x09 0x50 0x02 []) 11
    ∷ row two (reply 0x15 0x50 0x02 []) 0
    ∷ row two (reply 0x08 0x50 0xA9 []) 3
    ∷ row two (reply 0x08 0x50 0x02 (replicate 17 0x00)) 4
    ∷ row (two ++ take 7 replies) (reply 0x08 0x50 0x08 []) 0
    ∷ row (two ++ replies) (reply 0x08 0x50 0x08 []) 12
    ∷ row (two ++ replies) (reply 0x08 0x50 0x07 []) 0
    ∷ []

-- each is turned down, or done, as 01 says
pub turned_down : map given table ≡ map (λ (t : Turned). t.number) table
unfolding run
turned_down = refl
