-- What slots hand out and when, from owns to free and outside of a transfer, also across the wrap of the slot number (02, E4).
-- Assumes nothing.
use mathlib.Core.Path.{◌≡◌, refl}
use mathlib.Core.Bool.{Bool, true, false, cond}
use mathlib.Core.List.{List, [], ◌∷◌, ◌++◌, map}
use Prim.Native.Nat.{ℕ}
use lib.ListN.{length, replicate}
use Rattle.station.specs.Events.{Word, owns, taken, failed, free, given, answer, tells}
use Rattle.station.specs.Phase.{owner}
use Rattle.station.specs.declared.phase.Sound.TheVariants.{Quiet, Symbol}
use Rattle.bus.specs.Bus.{powered_on, turn_at}
use Rattle.bus.specs.Events.{Line, tellings, events}
use Rattle.bus.specs.Find.{in_transfer}
use Rattle.bus.specs.Time.{elapsed, time_of}
use Rattle.bus.specs.declared.bus.Bus.{Bus}
use Rattle.promises.specs.Calls.{Call, attach, queue, heard, after_calls}
use Rattle.promises.specs.Elapsed.{is_free, says, recount}
use Rattle.promises.specs.Fit.{station_at}
use Rattle.promises.proofs.Computed.Runs.{slots, symbols, run}
use Rattle.promises.proofs.Computed.Witnesses.{begun}

-- an event: slot, elapsed, station, word
pub record Stamped : Type 0 where
  pub slot : ℕ
  pub elapsed : ℕ
  pub station : ℕ
  pub word : Word

abbrev at : ℕ → ℕ → ℕ → Word → Stamped
at n e a w = record { slot = n; elapsed = e; station = a; word = w }

-- the slot number set at power-on, calls, the last of them a slot, and what it hands out
pub record Timing : Type 0 where
  pub from : ℕ
  pub calls : List Call
  pub handed : List Stamped

abbrev row : ℕ → List Call → List Stamped → Timing
row n cs es = record { from = n; calls = cs; handed = es }

abbrev numbered : ℕ → Bus
numbered n = record { turns = powered_on.turns; count = 0; slot = n; ran = false; quiet = 0; began = 0; waiting = 0 }

abbrev pub handed_out : Timing → List Stamped
handed_out t =
    map (λ (l : Line). at l.time.slot l.time.elapsed l.event.station l.event.word)
    (events (after_calls (numbered t.from) t.calls))

-- master 10 asks 08, which answers: AA in the first slot, its QQ in the second
abbrev asks : ℕ → List Call
asks n = begun ++ (heard (Symbol 0xAA) ∷ slots n)

-- 10's part out as far as its ZZ, a quiet slot, on which it leaves, and the rest of the part all the same
abbrev goes_on : List Call
goes_on = asks 2 ++ (heard Quiet ∷ []) ++ symbols (0x50 ∷ 0x02 ∷ 0x00 ∷ 0x38 ∷ 0x00 ∷ [])

-- from owns to free
abbrev pub inside : List Timing
inside =
    -- owns, taken and given, the answer, free
    row 0 (asks 1) (at 2 0 0x10 owns ∷ [])
    ∷ row 0 (asks 7) (at 8 6 0x10 taken ∷ at 8 6 0x08 given ∷ [])
    ∷ row 0 (asks 11) (at 12 10 0x08 taken ∷ at 12 10 0x10 answer ∷ [])
    ∷ row 0 (asks 12) (at 13 11 0x10 free ∷ [])
    -- over 4,294,967,295 to 0: the owns line before it, in slot 0
    ∷ row 4294967290 (asks 1) (at 4294967292 0 0x10 owns ∷ [])
    ∷ row 4294967290 (asks 7) (at 2 6 0x10 taken ∷ at 2 6 0x08 given ∷ [])
    ∷ row 4294967290 (asks 12) (at 7 11 0x10 free ∷ [])
    ∷ row 4294967294 (asks 1) (at 0 0 0x10 owns ∷ [])
    ∷ row 4294967294 (asks 12) (at 11 11 0x10 free ∷ [])
    -- slots heard as quiet count
    ∷ row 0 (asks 6 ++ replicate 5 (heard Quiet) ++ symbols (0x00 ∷ [])) (at 13 11 0x10 taken ∷ at 13 11 0x08 given ∷ [])
    -- failed and free in one slot
    ∷ row 0 (asks 2 ++ (heard Quiet ∷ [])) (at 4 2 0x10 failed ∷ at 4 2 0x10 free ∷ [])
    -- nobody acknowledges: nine quiet slots and the generator's AA
    ∷ row 0 (attach 0x10 true ∷ queue 0x10 0x08 0x50 0x02 [] ∷ heard (Symbol 0xAA) ∷ slots 16) (at 17 15 0x10 failed ∷ at 17 15 0x10 free ∷ [])
    -- a broadcast
    ∷ row 0 (attach 0x10 true ∷ attach 0x31 true ∷ attach 0x08 false ∷ queue 0x10 0xFE 0x50 0x02 [] ∷ heard (Symbol 0xAA) ∷ slots 6)
    (at 7 5 0x10 taken ∷ at 7 5 0x31 given ∷ at 7 5 0x08 given ∷ [])
    -- two transfers: the second counts from its own owns line
    ∷ row 0 (begun ++ (queue 0x10 0x08 0x50 0x02 [] ∷ heard (Symbol 0xAA) ∷ slots 13)) (at 14 0 0x10 owns ∷ [])
    ∷ row 0 (begun ++ (queue 0x10 0x08 0x50 0x02 [] ∷ heard (Symbol 0xAA) ∷ slots 24)) (at 25 11 0x10 free ∷ [])
    ∷ []

-- the owner has left: what is given to 08, and its answer taken
abbrev pub outside : List Timing
outside =
    row 0 goes_on (at 9 0 0x08 given ∷ [])
    ∷ row 0 (goes_on ++ slots 3 ++ symbols (0x00 ∷ [])) (at 13 0 0x08 taken ∷ [])
    ∷ []

pub times_carried : map handed_out (inside ++ outside) ≡ map (λ (t : Timing). t.handed) (inside ++ outside)
unfolding run in_transfer tells tellings events elapsed time_of
times_carried = refl

-- ---- by the words of `elapsed_is_true`: 10 has the first seat

abbrev after : Timing → Bus
after t = after_calls (numbered t.from) t.calls

abbrev holds : Timing → Bool
holds t = cond (owner (station_at (after t) 0).phase) true (says is_free (tells (turn_at (after t) 0)))

abbrev elapsed_in : List Stamped → ℕ
elapsed_in [] = 0
elapsed_in (e ∷ es) = e.elapsed

pub held_inside : map holds inside ≡ replicate (length inside) true
unfolding run tells
held_inside = refl

pub free_outside : map holds outside ≡ replicate (length outside) false
unfolding run tells
free_outside = refl

pub recounted : map (λ (t : Timing). recount 0 (numbered t.from) 0 t.calls) inside ≡ map (λ (t : Timing). elapsed_in t.handed) inside
unfolding run tells recount
recounted = refl
