-- The symbol that a sender owes: where there is one, its place lies within the wire buffer. Assumes nothing.
use mathlib.Core.Path.{◌≡◌, refl}
use mathlib.Core.Bool.{Bool, true, false, cond}
use Prim.Native.Nat.{ℕ, ◌<◌}
use native.Mathlib.Omega.{arith}
use borrow.Author.Tests.{ltb-true}
use lib.Dec.{ltb}
use Rattle.wire.specs.Form.{room}
use Rattle.station.specs.declared.phase.Sound.{Sound}
use Rattle.station.specs.declared.phase.Sound.TheVariants.{Quiet, Symbol}
use Rattle.station.specs.declared.station.Station.{Station}
use Rattle.station.specs.Station.{due}

pub due_within : (s : Station) (at : ℕ) {own : ℕ} → due s at ≡ Symbol own → at < room
unfolding due
due_within s at e = by_test (ltb at room) _ refl e
  where
    by_test : (t : Bool) (x : Sound) {own : ℕ} → ltb at room ≡ t → cond t x Quiet ≡ Symbol own → at < room
    by_test true x h e = ltb-true at room h
    by_test false x h e = let z : ◌≡◌ {A = ℕ} 0 1 = cc in absurd (omega arith)
