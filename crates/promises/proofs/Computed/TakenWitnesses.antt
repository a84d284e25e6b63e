-- Slots in which a station is told Taken while a master owns the wire, computed: the theorem on it speaks of something. Assumes nothing.
use mathlib.Core.Path.{◌≡◌, refl, ap}
use mathlib.Core.Bool.{Bool, true, false}
use mathlib.Core.List.{List, [], ◌∷◌, ◌++◌}
use Prim.Native.Nat.{ℕ}
use native.Mathlib.Omega.{arith}
use borrow.Author.Tests.{ltb-true}
use lib.Dec.{ltb}
use Rattle.station.specs.Phase.{owner}
use Rattle.station.specs.declared.phase.Sound.{Sound}
use Rattle.station.specs.declared.phase.Sound.TheVariants.{Quiet, Symbol}
use Rattle.station.specs.declared.phase.Told.{Told}
use Rattle.station.specs.declared.phase.Told.TheVariants.{Silence, Taken, Given, Answered}
use Rattle.bus.specs.declared.bus.Bus.{Bus}
use Rattle.bus.specs.Bus.{powered_on, turn_at, attached_to}
use Rattle.bus.specs.Slot.{spoken}
use Rattle.promises.specs.Calls.{Call, attach, queue, reply, slot, heard, after_call, after_calls, ByteCalls}
use Rattle.promises.specs.Fit.{station_at}
use Rattle.promises.specs.Slots.{AllHear, undisturbed, disturbed}
use Rattle.promises.specs.Transfers.{HandedOut}
use Rattle.promises.proofs.Computed.Runs.{slots, symbols, tolds, run}
use Rattle.promises.proofs.TakenIsHandedOut.{taken_is_handed_out}
use Rattle.promises.proofs.Shared.Uses.{by_calls}

-- a slot: as the stations make it, or disturbed
pub data Last : Type 0 where
  by_all : Last
  heard_as : Sound → Last

abbrev call_of : Last → Call
call_of by_all = slot
call_of (heard_as h) = heard h

abbrev sound_of : Bus → Last → Sound
sound_of b by_all = spoken b
sound_of b (heard_as h) = h

all_hear : (b : Bus) (l : Last) → AllHear b (call_of l) (sound_of b l)
all_hear b by_all = undisturbed
all_hear b (heard_as h) = disturbed

pub record Taking : Type 0 where
  -- any calls from power-on, and a slot
  pub calls : List Call
  pub last : Last
  -- the station in this seat is told Taken, while the master in that one owns the wire
  pub seat : ℕ
  pub master : ℕ
  -- what each station is told, in attach order
  pub told : List Told

abbrev row : List Call → Last → ℕ → ℕ → List Told → Taking
row cs l i m ts = record { calls = cs; last = l; seat = i; master = m; told = ts }

-- ---- the table

-- masters 10 and 30 and slave 08, which answers 2A to 50 02; 10 sends 50 02 to ZZ, and AA is heard
abbrev begun : ℕ → List Call
begun zz = attach 0x10 true ∷ attach 0x30 true ∷ attach 0x08 false ∷ reply 0x08 0x50 0x02 (0x2A ∷ []) ∷ queue 0x10 zz 0x50 0x02 [] ∷ heard (Symbol 0xAA) ∷ []

abbrev pub table : List Taking
table =
    -- a part to slave 08, its 00; after FF and the repeat; the 00 lost in a quiet slot, and heard in a disturbed one
    row (begun 0x08 ++ slots 6) by_all 0 0 (Taken ∷ Silence ∷ Given ∷ [])
    ∷ row (begun 0x08 ++ slots 6 ++ symbols (0xFF ∷ []) ++ slots 6) by_all 0 0 (Taken ∷ Silence ∷ Given ∷ [])
    ∷ row (begun 0x08 ++ slots 6 ++ (heard Quiet ∷ [])) (heard_as (Symbol 0x00)) 0 0 (Taken ∷ Silence ∷ Given ∷ [])
    -- the answer 01 2A CRC of 08, its 00; after FF and the repeat
    ∷ row (begun 0x08 ++ slots 10) by_all 2 0 (Answered ∷ Silence ∷ Taken ∷ [])
    ∷ row (begun 0x08 ++ slots 10 ++ symbols (0xFF ∷ []) ++ slots 3) by_all 2 0 (Answered ∷ Silence ∷ Taken ∷ [])
    -- a part to master 30, and to 35, the slave address of 30, whose answer then is taken
    ∷ row (begun 0x30 ++ slots 6) by_all 0 0 (Taken ∷ Given ∷ Silence ∷ [])
    ∷ row (begun 0x35 ++ slots 6) by_all 0 0 (Taken ∷ Given ∷ Silence ∷ [])
    ∷ row (begun 0x35 ++ slots 9) by_all 1 0 (Answered ∷ Taken ∷ Silence ∷ [])
    -- a part to 09, at which nobody is attached: 00 is heard, and nobody hands anything out
    ∷ row (begun 0x09 ++ slots 6) (heard_as (Symbol 0x00)) 0 0 (Taken ∷ Silence ∷ Silence ∷ [])
    -- a part to all, its CRC; in a disturbed slot that is heard as that CRC
    ∷ row (begun 0xFE ++ slots 5) by_all 0 0 (Taken ∷ Given ∷ Given ∷ [])
    ∷ row (begun 0xFE ++ slots 5) (heard_as (Symbol 0xFD)) 0 0 (Taken ∷ Given ∷ Given ∷ [])
    ∷ []

-- ---- what is computed

abbrev before : Taking → Bus
before t = after_calls powered_on t.calls

abbrev after : Taking → Bus
after t = after_call (before t) (call_of t.last)

record Shown : Type 0 where
  seat : Bool
  master : Bool
  owns : Bool
  takes : Told
  told : List Told

abbrev shown : Taking → Shown
shown t =
    record {
      seat = ltb t.seat (attached_to (before t));
      master = ltb t.master (attached_to (before t));
      owns = owner (station_at (before t) t.master).phase;
      takes = (turn_at (after t) t.seat).told;
      told = tolds (t.calls ++ (call_of t.last ∷ []));
    }

abbrev written : Taking → Shown
written t = record { seat = true; master = true; owns = true; takes = Taken; told = t.told }

abbrev Each : (Taking → Type 0) → List Taking → Type 0
Each P [] = Unit {0}
Each P (t ∷ ts) = P t × Each P ts

computed : Each (λ t. shown t ≡ written t) table
unfolding run
computed = (refl, (refl, (refl, (refl, (refl, (refl, (refl, (refl, (refl, (refl, (refl, tt)))))))))))

-- ---- so the theorem speaks of each

abbrev Speaks : Taking → Type 0
Speaks t = HandedOut (before t) (after t) t.seat t.master

speaks : (t : Taking) → ByteCalls t.calls → shown t ≡ written t → Speaks t
speaks t k e =
    taken_is_handed_out (by_calls t.calls k) (all_hear (before t) t.last)
    t.seat (ltb-true t.seat (attached_to (before t)) (ap (λ (x : Shown). x.seat) e)) (ap (λ (x : Shown). x.takes) e)
    t.master (ltb-true t.master (attached_to (before t)) (ap (λ (x : Shown). x.master) e)) (ap (λ (x : Shown). x.owns) e)

all_speak : (ts : List Taking) → Each (λ t. ByteCalls t.calls) ts → Each (λ t. shown t ≡ written t) ts → Each Speaks ts
all_speak [] ks es = tt
all_speak (t ∷ ts) ks es = (speaks t ks.0 es.0, all_speak ts ks.1 es.1)

bytes : Each (λ t. ByteCalls t.calls) table
bytes = (omega arith, (omega arith, (omega arith, (omega arith, (omega arith, (omega arith, (omega arith, (omega arith, (omega arith, (omega arith, (omega arith, tt)))))))))))

pub spoken_of : Each Speaks table
spoken_of = all_speak table bytes computed
