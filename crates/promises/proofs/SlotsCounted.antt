-- The slot number is the number of slots run, modulo 2^32 (01, "A slot", "How tight the promises are"). Assumes nothing.
use mathlib.Core.Path.{◌≡◌, refl, sym, ap, ◌∙◌}
use mathlib.Core.List.{List, [], ◌∷◌}
use Prim.Native.Nat.{ℕ, ◌+◌, ◌%◌, ◌^◌}
use native.Mathlib.Omega.{arith}
use borrow.Author.Tests.{lt-ltb}
use lib.Dec.{ltb}
use Rattle.station.specs.declared.phase.Sound.{Sound}
use Rattle.bus.specs.declared.bus.Bus.{Bus}
use Rattle.bus.specs.Bus.{Answer}
use Rattle.bus.specs.Bus.{powered_on}
use Rattle.bus.specs.Slot.{spoken, slot_heard, slot_run}
use Rattle.promises.specs.Calls.{Call, attach, queue, reply, slot, heard, after_call, after_calls}
use Rattle.promises.specs.Slots.{slots_of, slots_in}
use Rattle.promises.proofs.Shared.Seats.{Did, refused, attached, queued, replied, did_attach, did_queue, did_reply}

-- so many slots have run: the number says how many, modulo 2^32, and whether any has is a fact of its own
record Ran (n : ℕ) (b : Bus) : Type 0 where
  number : b.slot ≡ n % 2 ^ 32
  any : b.ran ≡ ltb 0 n

one_more : (n : ℕ) → (n % 2 ^ 32 + 1) % 2 ^ 32 ≡ (n + 1) % 2 ^ 32
one_more n = omega arith

answer_ran : {n : ℕ} {b : Bus} {c : Call} {x : Answer} → Did b c x → Ran n b → Ran (n + 0) x.bus
answer_ran {n} (refused r) w = let e : n + 0 ≡ n = omega arith in rw e w
answer_ran {n} (attached _ _ _ _) w = let e : n + 0 ≡ n = omega arith in rw e (record { number = w.number; any = w.any })
answer_ran {n} (queued _ _ _) w = let e : n + 0 ≡ n = omega arith in rw e (record { number = w.number; any = w.any })
answer_ran {n} (replied _ _ _) w = let e : n + 0 ≡ n = omega arith in rw e (record { number = w.number; any = w.any })

slot_ran : {n : ℕ} (b : Bus) (h : Sound) → Ran n b → Ran (n + 1) (slot_heard b h)
unfolding slot_heard
slot_ran {n} b h w =
    record {
      number = ap (λ (k : ℕ). (k + 1) % 2 ^ 32) w.number ∙ one_more n;
      any = sym (lt-ltb 0 (n + 1) (omega arith));
    }

call_ran : {n : ℕ} (b : Bus) (c : Call) → Ran n b → Ran (n + slots_of c) (after_call b c)
unfolding slot_run
call_ran b (attach a m) w = answer_ran (did_attach b a m) w
call_ran b (queue qq zz pb sb bytes) w = answer_ran (did_queue b qq zz pb sb bytes) w
call_ran b (reply a pb sb bytes) w = answer_ran (did_reply b a pb sb bytes) w
call_ran b slot w = slot_ran b (spoken b) w
call_ran b (heard h) w = slot_ran b h w

calls_ran : {n : ℕ} (b : Bus) (cs : List Call) → Ran n b → Ran (n + slots_in cs) (after_calls b cs)
unfolding after_calls
calls_ran {n} b [] w = let e : n + 0 ≡ n = omega arith in rw e w
calls_ran {n} b (c ∷ cs) w =
    let e : n + (slots_of c + slots_in cs) ≡ n + slots_of c + slots_in cs = omega arith in
    rw e (calls_ran {n = n + slots_of c} (after_call b c) cs (call_ran b c w))

from_power_on : (cs : List Call) → Ran (0 + slots_in cs) (after_calls powered_on cs)
unfolding powered_on
from_power_on cs = calls_ran powered_on cs (record { number = refl; any = refl })

-- after any calls from power-on, the slot number is the number of slots among them, modulo 2^32
pub slots_counted : (cs : List Call) → (after_calls powered_on cs).slot ≡ slots_in cs % 2 ^ 32
slots_counted cs = let e : 0 + slots_in cs ≡ slots_in cs = omega arith in rw e at (from_power_on cs).number

-- "has run" is a fact of its own and not slot number 0: it says whether there is a slot among them
pub has_run : (cs : List Call) → (after_calls powered_on cs).ran ≡ ltb 0 (slots_in cs)
has_run cs = let e : 0 + slots_in cs ≡ slots_in cs = omega arith in rw e at (from_power_on cs).any
