-- A run leaves fewer slots than it was given. Assumes nothing.
use mathlib.Core.Bool.{Bool, true, false, cond}
use Prim.Native.Nat.{ℕ, zero, suc, ◌≤◌, ◌<◌}
use native.Mathlib.Omega.{arith}
use Rattle.bus.specs.Find.{there_is}
use Rattle.bus.specs.Run.{runs}
use Rattle.bus.specs.Slot.{slot_run}
use Rattle.bus.specs.declared.bus.Bus.{Bus}
use Rattle.bus.specs.declared.find.Query.TheVariants.{WasTold}
use Rattle.bus.specs.Run.{Stop}

either : (n : ℕ) (t : Bool) (x y : Stop) → x.left ≤ n → y.left ≤ n → (cond t x y).left ≤ n
either n true x y p q = p
either n false x y p q = q

at_most : (n : ℕ) (b : Bus) → (runs n b).left ≤ n
unfolding runs
at_most zero b = omega arith
at_most (suc n) b =
    let h = at_most n (slot_run b) in
    either (suc n) (there_is (slot_run b) WasTold) (record { bus = slot_run b; left = n }) (runs n (slot_run b)) (omega arith) (omega arith)

pub run_shorter : (n : ℕ) (b : Bus) → 0 < n → (runs n b).left < n
unfolding runs
run_shorter zero b h = absurd (omega arith)
run_shorter (suc n) b h =
    let l = at_most n (slot_run b) in
    let e : (cond (there_is (slot_run b) WasTold) (record { bus = slot_run b; left = n }) (runs n (slot_run b))).left ≤ n =
    either n (there_is (slot_run b) WasTold) (record { bus = slot_run b; left = n }) (runs n (slot_run b)) (omega arith) l in
    omega arith
