-- The bytes of all fills, one after the other until it is done, are exactly the output, for every input and every buffer lent.
-- Assumes nothing.
use mathlib.Core.Path.{◌≡◌}
use mathlib.Core.List.{List, [], ◌∷◌}
use Prim.Native.Nat.{ℕ, zero, suc, ◌<◌}
use native.Mathlib.Omega.{arith}
use lib.ListN.{length, get_or, take}
use Rattle.laws.proofs.FirstIs.{every_map}
use Rattle.station.specs.declared.station.Turn.{Turn}
use Rattle.bus.specs.Bus.{unseated, attached_to, attached_turns, turn_at}
use Rattle.bus.specs.declared.bus.Bus.{Bus}
use Rattle.walk.specs.Field.{Bytes}
use Rattle.walk.specs.Moments.{Now, now}
use Rattle.walk.specs.declared.walk.Moment.{Moment}
use Rattle.walk.specs.declared.walk.Moment.TheVariants.{Called, Told, Passed, Ended}
use Rattle.scenario.specs.Fill.{started}
use Rattle.scenario.specs.Output.{output}
use Rattle.scenario.specs.Pen.{room}
use Rattle.scenario.proofs.Fills.{OnPage, Printed, fills_print}
use Rattle.scenario.proofs.Fits as fits
use Rattle.promises.specs.Calls.{Reachable}
use Rattle.promises.proofs.Taken.Together.{reachable_together}
use Rattle.printed.proofs.Reached.{Reached, moments_reached}

-- the arrays of the first n stations
sized_first : (n : ℕ) (l : List Turn) → ((i : ℕ) → i < n → length (get_or l i unseated).station.part.load.bytes ≡ 16) → fits.Sized (take n l)
sized_first zero l h = fits.none
sized_first (suc n) [] h = fits.none
sized_first (suc n) (t ∷ l) h = fits.one (h 0 (omega arith)) (sized_first n l (λ i j. h (suc i) (omega arith)))

-- of every bus that calls bring about
reached_sized : (b : Bus) → Reachable b → fits.Sized (attached_turns b)
unfolding turn_at
reached_sized b r = sized_first (attached_to b) b.turns (λ i j. ((reachable_together r).each i j).array)

on_page : (n : Now) → Reached n → OnPage n
on_page n r = go n.moment n.bus r
  where
    go : (m : Moment) (b : Bus) → Reachable b → OnPage (now m b)
    go (Called v) b r = fits.verdict_most v
    go Told b r = fits.slot_most b (reached_sized b r)
    go Passed b r = omega arith
    go Ended b r = fits.end_most b.slot

-- so many fills are enough; each of them but the last writes at least one byte, and indeed leaves no room for a page
pub fills_are_output : (s buffer : List ℕ) → Bytes s → length buffer ≡ room → Printed s (started s) buffer (output s)
fills_are_output s buffer bytes whole = fills_print s buffer bytes whole (λ _. every_map on_page (moments_reached s bytes))
