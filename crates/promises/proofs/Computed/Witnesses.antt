-- Runs that meet what the theorems ask for, computed: none of them speaks of nothing. Assumes nothing.
use mathlib.Core.Path.{◌≡◌, refl}
use mathlib.Core.Bool.{Bool, true, false}
use mathlib.Core.List.{List, [], ◌∷◌, ◌++◌, Permᴰ as Permutation}
use Prim.Native.Nat.{ℕ}
use native.Mathlib.Omega.{arith}
use Rattle.station.specs.Phase.{owner}
use Rattle.station.specs.Addressed.{for_all}
use Rattle.station.specs.declared.phase.Sound.TheVariants.{Quiet, Symbol}
use Rattle.station.specs.declared.phase.Told.{Told}
use Rattle.station.specs.declared.phase.Told.TheVariants.{Given, Answered}
use Rattle.bus.specs.Bus.{powered_on, attached_to, turn_at}
use Rattle.promises.specs.Calls.{Call, attach, queue, reply, slot, heard, after_calls, Reachable}
use Rattle.promises.specs.Fit.{station_at}
use Rattle.promises.specs.Heard.{heard_since}
use Rattle.promises.specs.Orders.{seats_of}
use Rattle.promises.proofs.Computed.Runs.{symbols, run}
use Rattle.promises.proofs.Shared.Uses.{by_calls}

-- master 10 and slave 08; 10 sends 50 02 to 08, which answers 64
abbrev pub begun : List Call
begun = attach 0x10 true ∷ attach 0x08 false ∷ reply 0x08 0x50 0x02 (0x64 ∷ []) ∷ queue 0x10 0x08 0x50 0x02 [] ∷ []

-- 10 owns the wire two slots after an AA was heard
abbrev pub owning : List Call
owning = begun ++ (heard (Symbol 0xAA) ∷ slot ∷ [])

-- users can bring them about
begun_reachable : Reachable (after_calls powered_on begun)
begun_reachable = by_calls begun (omega arith)

owning_reachable : Reachable (after_calls powered_on owning)
owning_reachable = by_calls owning (omega arith)

pub two_attached : attached_to (after_calls powered_on begun) ≡ 2
unfolding run
two_attached = refl

-- the two may be asked in the other order
other_order : Permutation (1 ∷ 0 ∷ []) (seats_of (after_calls powered_on begun))
unfolding run
other_order = Permutation.swap refl refl

pub ten_owns : owner (station_at (after_calls powered_on owning) 0).phase ≡ true
unfolding run
ten_owns = refl

-- a slot for each symbol of 10 08 50 02 00 38, and one for the 00
abbrev pub given : List Call
given = begun ++ (heard (Symbol 0xAA) ∷ slot ∷ slot ∷ slot ∷ slot ∷ slot ∷ slot ∷ slot ∷ [])

-- the same, and a slot for each of 01 64 FF and the 00
abbrev pub answered_to : List Call
answered_to = given ++ (slot ∷ slot ∷ slot ∷ slot ∷ [])

-- nobody owns the wire: a wrong CRC, FF, a quiet slot, and the repeat
abbrev pub repeated : List Call
repeated =
    attach 0x08 false ∷ symbols (0xAA ∷ 0x10 ∷ 0x08 ∷ 0x50 ∷ 0x02 ∷ 0x00 ∷ 0x39 ∷ 0xFF ∷ [])
    ++ (heard Quiet ∷ symbols (0x10 ∷ 0x08 ∷ 0x50 ∷ 0x02 ∷ 0x00 ∷ 0x38 ∷ 0x00 ∷ []))

-- nobody owns the wire, and the part is for all
abbrev pub to_all : List Call
to_all = attach 0x08 false ∷ symbols (0xAA ∷ 0x10 ∷ 0xFE ∷ 0x50 ∷ 0x02 ∷ 0x00 ∷ 0xFD ∷ [])

-- what the station in a seat was told, and the symbols since its reading began
record Was (cs : List Call) (i : ℕ) (told : Told) (all : Bool) (xs : List ℕ) : Type 0 where
  told_so : (turn_at (after_calls powered_on cs) i).told ≡ told
  zz_for_all : for_all (station_at (after_calls powered_on cs) i).part.zz ≡ all
  symbols_heard : heard_since i cs ≡ xs

eight_gives : Was given 1 Given false (0x10 ∷ 0x08 ∷ 0x50 ∷ 0x02 ∷ 0x00 ∷ 0x38 ∷ 0x00 ∷ [])
unfolding run
eight_gives = record { told_so = refl; zz_for_all = refl; symbols_heard = refl }

ten_has_the_answer : Was answered_to 0 Answered false (0x01 ∷ 0x64 ∷ 0xFF ∷ 0x00 ∷ [])
unfolding run
ten_has_the_answer = record { told_so = refl; zz_for_all = refl; symbols_heard = refl }

eight_gives_the_repeat : Was repeated 0 Given false (0x10 ∷ 0x08 ∷ 0x50 ∷ 0x02 ∷ 0x00 ∷ 0x38 ∷ 0x00 ∷ [])
unfolding run
eight_gives_the_repeat = record { told_so = refl; zz_for_all = refl; symbols_heard = refl }

eight_gives_the_broadcast : Was to_all 0 Given true (0x10 ∷ 0xFE ∷ 0x50 ∷ 0x02 ∷ 0x00 ∷ 0xFD ∷ [])
unfolding run
eight_gives_the_broadcast = record { told_so = refl; zz_for_all = refl; symbols_heard = refl }
