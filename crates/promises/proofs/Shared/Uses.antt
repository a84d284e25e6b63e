-- A run is so many undisturbed slots one after the other, so that calls with runs among them come to calls without; what is reachable
-- is what calls bring about. Assumes nothing.
use mathlib.Core.Path.{◌≡◌, refl, ap, subst, ◌∙◌}
use mathlib.Core.Bool.{Bool, true, false, cond}
use mathlib.Core.List.{List, [], ◌∷◌, ◌++◌, map}
use Prim.Native.Nat.{ℕ, zero, suc, ◌-◌, ◌≤◌}
use native.Mathlib.Omega.{arith}
use lib.ListN.{replicate}
use Rattle.bus.specs.declared.bus.Bus.{Bus}
use Rattle.bus.specs.declared.find.Query.TheVariants.{WasTold}
use Rattle.bus.specs.Run.{Stop}
use Rattle.bus.specs.Bus.{powered_on}
use Rattle.bus.specs.Find.{there_is}
use Rattle.bus.specs.Run.{runs}
use Rattle.bus.specs.Slot.{slot_run}
use Rattle.promises.specs.Calls.{Call, slot, after_call, after_calls, ByteCall, ByteCalls, Use, call, run, after_use, after_uses, ByteUse, ByteUses, calls_of, calls_in, Reachable, by_uses}

-- calls one after the other
pub calls_append : (b : Bus) (cs ds : List Call) → after_calls b (cs ++ ds) ≡ after_calls (after_calls b cs) ds
unfolding after_calls
calls_append b [] ds = refl
calls_append b (c ∷ cs) ds = calls_append (after_call b c) cs ds

pub bytes_append : (cs ds : List Call) → ByteCalls cs → ByteCalls ds → ByteCalls (cs ++ ds)
bytes_append [] ds k j = j
bytes_append (c ∷ cs) ds k j = (k.0, bytes_append cs ds k.1 j)

-- ---- a run

-- a run leaves at most what it was to run, and its bus is that after the others
pub record Ran (n : ℕ) (b : Bus) (s : Stop) : Type 0 where
  pub left : s.left ≤ n
  pub slots : after_calls b (replicate (n - s.left) slot) ≡ s.bus

pub run_is_slots : (n : ℕ) (b : Bus) → Ran n b (runs n b)
unfolding runs after_calls
run_is_slots zero b = record { left = omega arith; slots = refl }
run_is_slots (suc n) b = by_told (there_is (slot_run b) WasTold) (run_is_slots n (slot_run b))
  where
    by_told : (t : Bool) → Ran n (slot_run b) (runs n (slot_run b))
        → Ran (suc n) b (cond t (record { bus = slot_run b; left = n }) (runs n (slot_run b)))
    by_told true w =
        let one : suc n - n ≡ 1 = omega arith in
        record { left = omega arith; slots = ap (λ (k : ℕ). after_calls b (replicate k slot)) one }
    by_told false w =
        let more : suc n - (runs n (slot_run b)).left ≡ suc (n - (runs n (slot_run b)).left) = omega (arith, w.left) in
        record { left = omega (arith, w.left); slots = ap (λ (k : ℕ). after_calls b (replicate k slot)) more ∙ w.slots }

-- ---- any uses

slots_bytes : (k : ℕ) → ByteCalls (replicate k slot)
slots_bytes zero = tt
slots_bytes (suc k) = (tt, slots_bytes k)

use_is_calls : (b : Bus) (u : Use) → after_calls b (calls_of b u) ≡ after_use b u
unfolding after_calls
use_is_calls b (call c) = refl
use_is_calls b (run n) = (run_is_slots n b).slots

use_bytes : (b : Bus) (u : Use) → ByteUse u → ByteCalls (calls_of b u)
use_bytes b (call c) k = (k, tt)
use_bytes b (run n) k = slots_bytes (n - (runs n b).left)

-- calls with runs among them come to calls without
pub uses_are_calls : (b : Bus) (us : List Use) → after_calls b (calls_in b us) ≡ after_uses b us
unfolding after_calls after_uses calls_in
uses_are_calls b [] = refl
uses_are_calls b (u ∷ us) =
    calls_append b (calls_of b u) (calls_in (after_use b u) us)
    ∙ ap (λ (c : Bus). after_calls c (calls_in (after_use b u) us)) (use_is_calls b u) ∙ uses_are_calls (after_use b u) us

pub uses_bytes : (b : Bus) (us : List Use) → ByteUses us → ByteCalls (calls_in b us)
unfolding calls_in
uses_bytes b [] k = tt
uses_bytes b (u ∷ us) k = bytes_append (calls_of b u) (calls_in (after_use b u) us) (use_bytes b u k.0) (uses_bytes (after_use b u) us k.1)

-- ---- reachable

-- what holds after all calls from power-on holds of what is reachable
pub reached : (P : Bus → Type 0) → ((cs : List Call) → ByteCalls cs → P (after_calls powered_on cs)) → {b : Bus} → Reachable b → P b
reached P f (by_uses us k) = subst P (uses_are_calls powered_on us) (f (calls_in powered_on us) (uses_bytes powered_on us k))

calls_are_uses : (b : Bus) (cs : List Call) → after_uses b (map call cs) ≡ after_calls b cs
unfolding after_calls after_uses
calls_are_uses b [] = refl
calls_are_uses b (c ∷ cs) = calls_are_uses (after_call b c) cs

calls_bytes : (cs : List Call) → ByteCalls cs → ByteUses (map call cs)
calls_bytes [] k = tt
calls_bytes (c ∷ cs) k = (k.0, calls_bytes cs k.1)

-- calls alone bring about what is reachable
pub by_calls : (cs : List Call) → ByteCalls cs → Reachable (after_calls powered_on cs)
by_calls cs k = subst Reachable (calls_are_uses powered_on cs) (by_uses (map call cs) (calls_bytes cs k))

pub on_reachable : Reachable powered_on
unfolding after_uses
on_reachable = by_uses [] tt

-- and a call more, or a run
uses_append : (b : Bus) (us : List Use) (u : Use) → after_uses b (us ++ (u ∷ [])) ≡ after_use (after_uses b us) u
unfolding after_uses
uses_append b [] u = refl
uses_append b (v ∷ us) u = uses_append (after_use b v) us u

uses_bytes_more : (us : List Use) (u : Use) → ByteUses us → ByteUse u → ByteUses (us ++ (u ∷ []))
uses_bytes_more [] u k j = (j, tt)
uses_bytes_more (v ∷ us) u k j = (k.0, uses_bytes_more us u k.1 j)

pub reachable_use : {b : Bus} (u : Use) → Reachable b → ByteUse u → Reachable (after_use b u)
reachable_use u (by_uses us k) j = subst Reachable (uses_append powered_on us u) (by_uses (us ++ (u ∷ [])) (uses_bytes_more us u k j))

pub reachable_more : {b : Bus} (c : Call) → Reachable b → ByteCall c → Reachable (after_call b c)
reachable_more c r j = reachable_use (call c) r j
