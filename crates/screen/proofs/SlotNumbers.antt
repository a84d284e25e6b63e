-- Every slot number of a scenario has 32 bits: a call leaves it, a slot counts modulo 2^32. Assumes nothing.
use mathlib.Core.Path.{◌≡◌, refl, ap}
use mathlib.Core.Bool.{Bool, true, false, cond}
use mathlib.Core.List.{List, [], ◌∷◌, ◌++◌}
use Prim.Native.Nat.{ℕ, zero, suc, ◌^◌, ◌<◌}
use native.Mathlib.Omega.{arith}
use lib.Dec.{ltb}
use lib.ListN.{length}
use Rattle.laws.proofs.FirstIs.{Every, none, next, every_append}
use Rattle.station.specs.declared.phase.Sound.{Sound}
use Rattle.station.specs.declared.phase.Sound.TheVariants as sound
use Rattle.bus.specs.Attach.{attaches}
use Rattle.bus.specs.Bus.{powered_on, done}
use Rattle.bus.specs.Find.{there_is}
use Rattle.bus.specs.Queue.{queues}
use Rattle.bus.specs.Reply.{replies}
use Rattle.bus.specs.Slot.{slot_heard, slot_run}
use Rattle.bus.specs.declared.bus.Bus.{Bus}
use Rattle.bus.specs.declared.find.Query.TheVariants.{WasTold}
use Rattle.std.specs.Prelude.{Result, Ok, Err, ⊤}
use Rattle.bus.specs.declared.refusal.Refusal.{Refusal}
use Rattle.bus.proofs.DoneChanges.{attach_done, queue_done, reply_done}
use Rattle.bus.proofs.RefusedChangesNothing.{attach_refused, queue_refused, reply_refused}
use Rattle.walk.specs.Apply.{bytes_from, applied}
use Rattle.walk.specs.Field.{field_at}
use Rattle.walk.specs.Moments.{Now, now, Gone, told_in, ran, gone_as, gone_by, moments_from, moments}
use Rattle.std.specs.Prelude.{Option, Some, None}
use Rattle.walk.specs.declared.field.Field.{Field}
use Rattle.walk.specs.declared.field.Field.TheVariants.{Master, Slave, Reply, Queue, Run, Heard, Quiet}
use Rattle.walk.specs.declared.walk.Moment.TheVariants.{Told, Passed, Ended}

-- ---- a call leaves it as it is

attach_slot : (b : Bus) (a : ℕ) (m : Bool) → (attaches b a m).bus.slot ≡ b.slot
attach_slot b a m = go (attaches b a m).verdict refl
  where
    go : (v : Result ⊤ Refusal) → (attaches b a m).verdict ≡ v → (attaches b a m).bus.slot ≡ b.slot
    go (Ok tt) e = (attach_done b a m e).slot
    go (Err r) e = ap (λ (c : Bus). c.slot) (attach_refused b a m r e)

queue_slot : (b : Bus) (qq zz pb sb : ℕ) (bytes : List ℕ) → (queues b qq zz pb sb bytes).bus.slot ≡ b.slot
queue_slot b qq zz pb sb bytes = go (queues b qq zz pb sb bytes).verdict refl
  where
    go : (v : Result ⊤ Refusal) → (queues b qq zz pb sb bytes).verdict ≡ v → (queues b qq zz pb sb bytes).bus.slot ≡ b.slot
    go (Ok tt) e = (queue_done b qq zz pb sb bytes e).changed.slot
    go (Err r) e = ap (λ (c : Bus). c.slot) (queue_refused b qq zz pb sb bytes r e)

reply_slot : (b : Bus) (a pb sb : ℕ) (bytes : List ℕ) → (replies b a pb sb bytes).bus.slot ≡ b.slot
reply_slot b a pb sb bytes = go (replies b a pb sb bytes).verdict refl
  where
    go : (v : Result ⊤ Refusal) → (replies b a pb sb bytes).verdict ≡ v → (replies b a pb sb bytes).bus.slot ≡ b.slot
    go (Ok tt) e = (reply_done b a pb sb bytes e).changed.slot
    go (Err r) e = ap (λ (c : Bus). c.slot) (reply_refused b a pb sb bytes r e)

-- ---- a slot counts on

abbrev Counted : Bus → Type 0
Counted b = b.slot < 2 ^ 32

-- at a moment
abbrev pub CountedAt : Now → Type 0
CountedAt n = n.bus.slot < 2 ^ 32

heard_counted : (b : Bus) (h : Sound) → Counted (slot_heard b h)
unfolding slot_heard
heard_counted b h = omega arith

run_counted : (b : Bus) → Counted (slot_run b)
unfolding slot_run
run_counted b = heard_counted b _

applied_counted : (f : Field) (b : Bus) (s : List ℕ) (to : ℕ) → Counted b → Counted (applied b f s to).bus
unfolding applied done
applied_counted (Master a) b s to h = omega (arith, attach_slot b a true)
applied_counted (Slave a) b s to h = omega (arith, attach_slot b a false)
applied_counted (Reply a p q from) b s to h = omega (arith, reply_slot b a p q (bytes_from s from to))
applied_counted (Queue q z p r from) b s to h = omega (arith, queue_slot b q z p r (bytes_from s from to))
applied_counted (Run n) b s to h = h
applied_counted (Heard x) b s to h = heard_counted b (sound.Symbol x)
applied_counted Quiet b s to h = heard_counted b sound.Quiet

-- ---- a field, and all of them

-- the bus after some moments, and at each of them
record Through (g : Gone) : Type 0 where
  after : Counted g.bus
  each : Every CountedAt g.moments

told_counted : (b : Bus) {l : List Now} → Counted b → Every CountedAt l → Every CountedAt (told_in b l)
told_counted b {l} h hs = go (there_is b WasTold)
  where
    go : (t : Bool) → Every CountedAt (cond t (now Told b ∷ l) l)
    go true = next h hs
    go false = hs

ran_counted : (n : ℕ) (b : Bus) → Counted b → Through (ran n b)
unfolding ran
ran_counted zero b h = record { after = h; each = none }
ran_counted (suc n) b h =
    let rest = ran_counted n (slot_run b) (run_counted b) in
    record { after = rest.after; each = told_counted (slot_run b) (run_counted b) rest.each }

gone_counted : (f : Field) (b : Bus) (s : List ℕ) (to : ℕ) → Counted (applied b f s to).bus → Through (gone_as f (applied b f s to))
gone_counted (Master a) b s to h = record { after = h; each = next h none }
gone_counted (Slave a) b s to h = record { after = h; each = next h none }
gone_counted (Reply a p q from) b s to h = record { after = h; each = next h none }
gone_counted (Queue q z p r from) b s to h = record { after = h; each = next h none }
gone_counted (Run n) b s to h = ran_counted n (applied b (Run n) s to).bus h
gone_counted (Heard x) b s to h = record { after = h; each = told_counted (applied b (Heard x) s to).bus h none }
gone_counted Quiet b s to h = record { after = h; each = told_counted (applied b Quiet s to).bus h none }

placed_counted : (f : Option Field) (b : Bus) (s : List ℕ) (to : ℕ) → Counted b → Through (gone_by f b s to)
placed_counted (Some f) b s to h = gone_counted f b s to (applied_counted f b s to h)
placed_counted None b s to h = record { after = h; each = none }

from_counted : (k : ℕ) (s : List ℕ) (at : ℕ) (b : Bus) → Counted b → Every CountedAt (moments_from k s at b)
unfolding moments_from
from_counted zero s at b h = next h none
from_counted (suc k) s at b h = go (ltb at (length s)) (from_counted k s to gone.bus through.after)
  where
    f : Option Field
    f = (field_at s at).field

    to : ℕ
    to = (field_at s at).next

    gone : Gone
    gone = gone_by f b s to

    through : Through gone
    through = placed_counted f b s to h

    go : (t : Bool) → Every CountedAt (moments_from k s to gone.bus)
        → Every CountedAt (cond t (gone.moments ++ (now Passed gone.bus ∷ moments_from k s to gone.bus)) (now Ended b ∷ []))
    go true rest = every_append through.each (next through.after rest)
    go false rest = next h none

-- of every input
pub slot_numbers : (s : List ℕ) → Every CountedAt (moments s)
unfolding moments powered_on
slot_numbers s = from_counted (length s) s 0 powered_on (omega arith)
