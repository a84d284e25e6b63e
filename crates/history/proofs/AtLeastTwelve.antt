-- The twelve-slot clause of demand 3 with twelve slots or more. Assumes nothing.
use mathlib.Core.Path.{◌≡◌, refl, sym, ap, subst}
use mathlib.Core.List.{List, [], ◌∷◌, ◌++◌}
use Prim.Native.Nat.{ℕ, zero, suc, ◌≤◌}
use native.Mathlib.Omega.{arith}
use Rattle.bus.specs.declared.bus.Bus.{Bus}
use Rattle.promises.specs.Calls.{Call, attach, queue, reply, slot, heard, after_call, after_calls, Reachable}
use Rattle.promises.specs.Contest.{SynHeardIn, Between, Undisturbed, by_all, between, Each, Contends, TheLeast, OwnsInOneOf, this_slot, later}
use Rattle.promises.specs.Slots.{slots_in}
use Rattle.promises.proofs.TheLeast.{least_rank_owns_by_the_twelfth}

-- the calls up to the n-th slot, and the others
record Front (n : ℕ) (cs : List Call) : Type 0 where
  front : List Call
  others : List Call
  whole : cs ≡ front ++ others
  each : Each Undisturbed front
  slots : slots_in front ≡ n

front_of : (cs : List Call) → Each Undisturbed cs → (n : ℕ) → n ≤ slots_in cs → Front n cs
front_of cs u zero l = record { front = []; others = cs; whole = refl; each = tt; slots = refl }
front_of [] u (suc n) l = absurd (omega arith)
front_of (slot ∷ cs) u (suc n) l =
    let w = front_of cs u.1 n (omega arith) in
    record { front = slot ∷ w.front; others = w.others; whole = ap (λ (k : List Call). slot ∷ k) w.whole; each = (by_all, w.each); slots = omega (arith, w.slots) }
front_of (queue qq zz pb sb bytes ∷ cs) u (suc n) l =
    let w = front_of cs u.1 (suc n) (omega arith) in
    let c = queue qq zz pb sb bytes in
    record { front = c ∷ w.front; others = w.others; whole = ap (λ (k : List Call). c ∷ k) w.whole; each = (u.0, w.each); slots = omega (arith, w.slots) }
front_of (reply a pb sb bytes ∷ cs) u (suc n) l =
    let w = front_of cs u.1 (suc n) (omega arith) in
    let c = reply a pb sb bytes in
    record { front = c ∷ w.front; others = w.others; whole = ap (λ (k : List Call). c ∷ k) w.whole; each = (u.0, w.each); slots = omega (arith, w.slots) }
front_of (attach a m ∷ cs) u (suc n) l =
    let w = front_of cs u.1 (suc n) (omega arith) in
    let c = attach a m in
    record { front = c ∷ w.front; others = w.others; whole = ap (λ (k : List Call). c ∷ k) w.whole; each = (u.0, w.each); slots = omega (arith, w.slots) }
front_of (heard h ∷ cs) u (suc n) l = absurd (never u.0)
  where
    never : Undisturbed (heard h) → ⊥
    never (between w) = elim w [ ]

-- who owns the wire among the first calls owns it among all
owns_among : {i : ℕ} {b : Bus} {cs : List Call} (others : List Call) → OwnsInOneOf i b cs → OwnsInOneOf i b (cs ++ others)
owns_among others (this_slot w) = this_slot w
owns_among others (later w) = later (owns_among others w)

-- that slot and eleven more, at least, are undisturbed
pub least_rank_owns_by_the_twelfth_of_more : {b : Bus} → Reachable b → (c : Call) → SynHeardIn b c → (before : List Call) → Each Between before
    → (j : ℕ) → Contends (after_calls (after_call b c) before) j → (calls : List Call) → Each Undisturbed calls → 12 ≤ slots_in (slot ∷ calls)
    → (i : ℕ) × TheLeast (after_calls (after_call b c) before) i × OwnsInOneOf i (after_calls (after_call b c) before) (slot ∷ calls)
least_rank_owns_by_the_twelfth_of_more {b} r c s before u j k calls v n =
    let w = front_of calls v 11 (omega arith) in
    let t = least_rank_owns_by_the_twelfth r c s before u j k w.front w.each (omega (arith, w.slots)) in (
      t.0,
      t.1,
      subst (λ (cs : List Call). OwnsInOneOf t.0 (after_calls (after_call b c) before) (slot ∷ cs)) (sym w.whole) (owns_among w.others t.2),
    )
