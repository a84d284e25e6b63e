-- A call that is turned down changes nothing: whatever the refusal, the bus is the one before. Assumes nothing.
use Rattle.std.proofs.Common.{◌≡◌, ℕ, Bool, true, false, cond, ltb, List, length, refl, ap}
use mathlib.Core.Bool.{false≢true}
use Rattle.std.specs.Prelude.{Option, Some, None}
use Rattle.wire.specs.Load.{load_of}
use Rattle.wire.specs.declared.part.Telegram.{Telegram}
use Rattle.station.specs.Outbox.{accepted}
use Rattle.station.specs.Replies.{written}
use Rattle.station.specs.declared.replies.Reply.{Reply}
use Rattle.bus.specs.declared.bus.Bus.{Bus}
use Rattle.bus.specs.Bus.{Answer}
use Rattle.bus.specs.declared.find.Query.TheVariants.{Master, Slave}
use Rattle.bus.specs.declared.refusal.Refusal.{Refusal}
use Rattle.std.specs.Prelude.{Result, Ok, Err, ⊤}
use Rattle.bus.specs.Attach.{no_such_address, occupied, takes_seat, attaches}
use Rattle.bus.specs.Bus.{seats, turn_at, refused_by, done}
use Rattle.bus.specs.Find.{first_of}
use Rattle.bus.specs.Queue.{no_target, no_command, holds, queues_from, queues_at, queues}
use Rattle.bus.specs.Reply.{writes, replies_from, replies_at, replies}

abbrev is_refused : Result ⊤ Refusal → Bool
is_refused (Ok tt) = false
is_refused (Err r) = true

-- if the call is turned down, the bus is b
record Kept (b : Bus) (x : Answer) : Type 0 where
  bus : (r : Refusal) → x.verdict ≡ Err r → x.bus ≡ b

if_refused : (b : Bus) (r : Refusal) → Kept b (refused_by b r)
unfolding refused_by
if_refused b r = record { bus = λ s e. refl }

if_done : (b c : Bus) → Kept b (done c)
unfolding done
if_done b c = record { bus = λ r e. absurd (false≢true (ap is_refused e)) }

-- both ways of a branch
branch : (b : Bus) (t : Bool) (x y : Answer) → Kept b x → Kept b y → Kept b (cond t x y)
branch b true x y p q = p
branch b false x y p q = q

attach_keeps : (b : Bus) (a : ℕ) (master : Bool) → Kept b (attaches b a master)
unfolding attaches takes_seat
attach_keeps b a master =
    branch b b.ran _ _ (if_refused b _)
    (branch b (no_such_address a master) _ _ (if_refused b _)
    (branch b (occupied b a master) _ _ (if_refused b _)
    (branch b (ltb b.count seats) _ _ (if_done b _) (if_refused b _))))

queue_keeps : (b : Bus) (i zz pb sb : ℕ) (bytes : List ℕ) → Kept b (queues_from b i zz pb sb bytes)
unfolding queues_from holds
queue_keeps b i zz pb sb bytes =
    let t : Telegram = record { qq = (turn_at b i).station.address; zz = zz; pb = pb; sb = sb; load = load_of bytes } in
    branch b (no_target (turn_at b i).station zz) _ _ (if_refused b _)
    (branch b (no_command pb sb) _ _ (if_refused b _)
    (branch b (ltb 16 (length bytes)) _ _ (if_refused b _)
    (branch b (accepted (turn_at b i).station.outbox t).taken _ _ (if_done b _) (if_refused b _))))

queue_keeps_at : (f : Option ℕ) (b : Bus) (zz pb sb : ℕ) (bytes : List ℕ) → Kept b (queues_at f b zz pb sb bytes)
queue_keeps_at (Some i) b zz pb sb bytes = queue_keeps b i zz pb sb bytes
queue_keeps_at None b zz pb sb bytes = if_refused b _

reply_keeps : (b : Bus) (i pb sb : ℕ) (bytes : List ℕ) → Kept b (replies_from b i pb sb bytes)
unfolding replies_from writes
reply_keeps b i pb sb bytes =
    let r : Reply = record { pb = pb; sb = sb; load = load_of bytes } in
    branch b (no_command pb sb) _ _ (if_refused b _)
    (branch b (ltb 16 (length bytes)) _ _ (if_refused b _)
    (branch b (written (turn_at b i).station.replies r).taken _ _ (if_done b _) (if_refused b _)))

reply_keeps_at : (f : Option ℕ) (b : Bus) (pb sb : ℕ) (bytes : List ℕ) → Kept b (replies_at f b pb sb bytes)
reply_keeps_at (Some i) b pb sb bytes = reply_keeps b i pb sb bytes
reply_keeps_at None b pb sb bytes = if_refused b _

-- a refused attach, of a master or of a slave
pub attach_refused : (b : Bus) (a : ℕ) (master : Bool) (r : Refusal) → (attaches b a master).verdict ≡ Err r
    → (attaches b a master).bus ≡ b
attach_refused b a master r e = (attach_keeps b a master).bus r e

-- a refused queue
pub queue_refused : (b : Bus) (qq zz pb sb : ℕ) (bytes : List ℕ) (r : Refusal) → (queues b qq zz pb sb bytes).verdict ≡ Err r
    → (queues b qq zz pb sb bytes).bus ≡ b
unfolding queues
queue_refused b qq zz pb sb bytes r e = (queue_keeps_at (first_of b (Master qq)) b zz pb sb bytes).bus r e

-- a refused reply
pub reply_refused : (b : Bus) (slave pb sb : ℕ) (bytes : List ℕ) (r : Refusal) → (replies b slave pb sb bytes).verdict ≡ Err r
    → (replies b slave pb sb bytes).bus ≡ b
unfolding replies
reply_refused b slave pb sb bytes r e = (reply_keeps_at (first_of b (Slave slave)) b pb sb bytes).bus r e
