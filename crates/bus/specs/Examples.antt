-- The proved examples P1 to P12 in one table (01, "Proved examples"). Assumes nothing.
use Rattle.std.specs.Prelude.{ℕ, zero, suc, true, cond, List, [], ◌∷◌, ◌++◌, map, length}
use Rattle.wire.specs.Examples as wire
use Rattle.station.specs.Phase.{owner}
use Rattle.station.specs.declared.phase.Sound.{Sound}
use Rattle.station.specs.declared.phase.Sound.TheVariants.{Symbol}
use Rattle.station.specs.declared.station.Turn.{Turn}
use Rattle.bus.specs.declared.bus.Bus.{Bus}
use Rattle.bus.specs.Attach.{attaches}
use Rattle.bus.specs.Bus.{powered_on, attached_turns}
use Rattle.bus.specs.Queue.{queues}
use Rattle.bus.specs.Slot.{spoken, slot_run}

-- ---- P8 to P12: masters that all have a telegram waiting

-- a slot after an AA: what all hear in it, and who owns the wire after it
pub record Bid : Type 0 where
  pub word : Sound
  pub owners : List ℕ

pub record Contest : Type 0 where
  -- its number in 01
  pub number : ℕ
  pub masters : List ℕ
  -- the slot after the first AA, the slot after the next one, ..
  pub bids : List Bid

-- the masters attached, in the order written
abbrev pub attached : List ℕ → Bus → Bus
attached [] b = b
attached (m ∷ ms) b = attached ms (attaches b m true).bus

-- and each with one telegram queued: a broadcast with no data
abbrev pub queued : List ℕ → Bus → Bus
queued [] b = b
queued (m ∷ ms) b = queued ms (queues b m 0xFE 0x50 0x02 []).bus

-- so many undisturbed slots
abbrev pub slots : ℕ → Bus → Bus
slots zero b = b
slots (suc n) b = slots n (slot_run b)

abbrev pub owners_of : List Turn → List ℕ
owners_of [] = []
owners_of (t ∷ ts) =
    let others = owners_of ts in
    let one = t.station.address ∷ others in
    cond (owner t.station.phase) one others

-- nine quiet slots and the generator's AA, and the slot after it; so many times
abbrev pub bids_from : ℕ → Bus → List Bid
bids_from zero b = []
bids_from (suc n) b =
    let syn = slots 10 b in
    let next = slot_run syn in
    record { word = spoken syn; owners = owners_of (attached_turns next) } ∷ bids_from n next

-- the bids that the definitions give, from power-on
abbrev pub bids_given : Contest → List Bid
bids_given c = bids_from (length c.bids) (queued c.masters (attached c.masters powered_on))

-- nobody owns the wire, or one master does
abbrev pub lost : ℕ → Bid
lost w = record { word = Symbol w; owners = [] }

abbrev pub won : ℕ → Bid
won a = record { word = Symbol a; owners = a ∷ [] }

-- ---- the table

pub data Example : Type 0 where
  on_wire : wire.Example → Example
  contest : Contest → Example

pub data Shown : Type 0 where
  symbols : List ℕ → Shown
  slots_after : List Bid → Shown

-- what the definitions give
abbrev pub given : Example → Shown
given (on_wire e) = symbols (wire.given e)
given (contest c) = slots_after (bids_given c)

-- what 01 writes
abbrev pub written : Example → Shown
written (on_wire e) = symbols e.wire
written (contest c) = slots_after c.bids

unfoldable pub contests : List Contest
contests =
    -- P8: 00 at once
    record { number = 8; masters = 0x00 ∷ 0x01 ∷ []; bids = won 0x00 ∷ [] }
    -- P9: word 00, then 10
    ∷ record { number = 9; masters = 0x10 ∷ 0x01 ∷ []; bids = lost 0x00 ∷ won 0x10 ∷ [] }
    -- P10: word 10, then 30
    ∷ record { number = 10; masters = 0xF0 ∷ 0x30 ∷ 0x1F ∷ []; bids = lost 0x10 ∷ won 0x30 ∷ [] }
    -- P11: word 11, then 31
    ∷ record { number = 11; masters = 0x31 ∷ 0x13 ∷ []; bids = lost 0x11 ∷ won 0x31 ∷ [] }
    -- P12: 7F at once
    ∷ record { number = 12; masters = 0xFF ∷ 0x7F ∷ []; bids = won 0x7F ∷ [] }
    ∷ []

-- P1 to P12
unfoldable pub examples : List Example
examples = map on_wire wire.examples ++ map contest contests
