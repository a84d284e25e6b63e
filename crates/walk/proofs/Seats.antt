-- What a field does leaves as many seats as there were. Assumes nothing.
use mathlib.Core.Path.{◌≡◌, refl, ap, ◌∙◌}
use mathlib.Core.Bool.{Bool, true, false, cond}
use mathlib.Core.List.{List}
use Prim.Native.Nat.{ℕ, zero, suc}
use lib.ListN.{length, length-set}
use Rattle.station.specs.declared.phase.Sound.{Sound}
use Rattle.station.specs.declared.phase.Sound.TheVariants as sound
use Rattle.bus.specs.Attach.{attaches, newcomer}
use Rattle.bus.specs.Bus.{attached_to, done}
use Rattle.bus.specs.Find.{there_is}
use Rattle.bus.specs.Queue.{queues}
use Rattle.bus.specs.Reply.{replies}
use Rattle.bus.specs.Run.{runs}
use Rattle.bus.specs.Slot.{turned, slot_heard, slot_run}
use Rattle.bus.specs.declared.bus.Bus.{Bus}
use Rattle.bus.specs.declared.find.Query.TheVariants.{WasTold}
use Rattle.std.specs.Prelude.{Result, Ok, Err, ⊤}
use Rattle.bus.specs.declared.refusal.Refusal.{Refusal}
use Rattle.bus.proofs.DoneChanges.{attach_done, queue_done, reply_done}
use Rattle.bus.proofs.Loops.{length_map_first}
use Rattle.bus.proofs.RefusedChangesNothing.{attach_refused, queue_refused, reply_refused}
use Rattle.walk.specs.declared.field.Field.{Field}
use Rattle.walk.specs.declared.field.Field.TheVariants.{Master, Slave, Reply, Queue, Run, Heard, Quiet}
use Rattle.walk.specs.Apply.{bytes_from, applied}

abbrev seats_in : Bus → ℕ
seats_in b = length b.turns

attach_seats : (b : Bus) (a : ℕ) (m : Bool) → seats_in (attaches b a m).bus ≡ seats_in b
attach_seats b a m = go (attaches b a m).verdict refl
  where
    go : (v : Result ⊤ Refusal) → (attaches b a m).verdict ≡ v → seats_in (attaches b a m).bus ≡ seats_in b
    go (Ok tt) e = ap length (attach_done b a m e).turns ∙ length-set b.turns b.count (newcomer a m)
    go (Err r) e = ap seats_in (attach_refused b a m r e)

queue_seats : (b : Bus) (qq zz pb sb : ℕ) (bytes : List ℕ) → seats_in (queues b qq zz pb sb bytes).bus ≡ seats_in b
queue_seats b qq zz pb sb bytes = go (queues b qq zz pb sb bytes).verdict refl
  where
    go : (v : Result ⊤ Refusal) → (queues b qq zz pb sb bytes).verdict ≡ v → seats_in (queues b qq zz pb sb bytes).bus ≡ seats_in b
    go (Ok tt) e = ap length (queue_done b qq zz pb sb bytes e).changed.here ∙ length-set b.turns _ _
    go (Err r) e = ap seats_in (queue_refused b qq zz pb sb bytes r e)

reply_seats : (b : Bus) (a pb sb : ℕ) (bytes : List ℕ) → seats_in (replies b a pb sb bytes).bus ≡ seats_in b
reply_seats b a pb sb bytes = go (replies b a pb sb bytes).verdict refl
  where
    go : (v : Result ⊤ Refusal) → (replies b a pb sb bytes).verdict ≡ v → seats_in (replies b a pb sb bytes).bus ≡ seats_in b
    go (Ok tt) e = ap length (reply_done b a pb sb bytes e).changed.here ∙ length-set b.turns _ _
    go (Err r) e = ap seats_in (reply_refused b a pb sb bytes r e)

pub slot_seats : (b : Bus) (h : Sound) → length (slot_heard b h).turns ≡ length b.turns
unfolding slot_heard
slot_seats b h = length_map_first (turned h) (attached_to b) b.turns

pub run_seats : (n : ℕ) (b : Bus) → length (runs n b).bus.turns ≡ length b.turns
unfolding runs slot_run
run_seats zero b = refl
run_seats (suc n) b = go (there_is (slot_run b) WasTold) (run_seats n (slot_run b) ∙ slot_seats b _)
  where
    go : (t : Bool) → length (runs n (slot_run b)).bus.turns ≡ length b.turns
        → length (cond t (record { bus = slot_run b; left = n }) (runs n (slot_run b))).bus.turns ≡ length b.turns
    go true h = slot_seats b _
    go false h = h

pub applied_seats : (f : Field) (b : Bus) (s : List ℕ) (to : ℕ) → length (applied b f s to).bus.turns ≡ length b.turns
unfolding applied done
applied_seats (Master a) b s to = attach_seats b a true
applied_seats (Slave a) b s to = attach_seats b a false
applied_seats (Reply a p q from) b s to = reply_seats b a p q (bytes_from s from to)
applied_seats (Queue q z p r from) b s to = queue_seats b q z p r (bytes_from s from to)
applied_seats (Run n) b s to = refl
applied_seats (Heard x) b s to = slot_seats b (sound.Symbol x)
applied_seats Quiet b s to = slot_seats b sound.Quiet
