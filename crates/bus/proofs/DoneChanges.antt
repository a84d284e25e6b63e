-- A call that is done changes only what it says. Assumes nothing.
use Rattle.std.proofs.Common.{◌≡◌, ℕ, ◌+◌, ◌<◌, Bool, true, false, cond, ltb, ◌≢◌, List, length, set, refl, ap, ◌∙◌, subst, get_or-set_other, ltb-true}
use mathlib.Core.Bool.{false≢true}
use Rattle.std.specs.Prelude.{Option, Some, None}
use Rattle.wire.specs.Load.{load_of}
use Rattle.wire.specs.declared.part.Telegram.{Telegram}
use Rattle.station.specs.Outbox.{accepted}
use Rattle.station.specs.Replies.{written}
use Rattle.station.specs.Turn.{with_outbox}
use Rattle.station.specs.declared.outbox.Outbox.{Outbox}
use Rattle.station.specs.declared.replies.Reply.{Reply}
use Rattle.station.specs.declared.replies.ReplyBook.{ReplyBook}
use Rattle.station.specs.declared.station.Turn.{Turn}
use Rattle.bus.specs.declared.bus.Bus.{Bus}
use Rattle.bus.specs.Bus.{Answer}
use Rattle.bus.specs.declared.find.Query.TheVariants.{Master, Slave}
use Rattle.bus.specs.declared.refusal.Refusal.{Refusal}
use Rattle.std.specs.Prelude.{Result, Ok, Err, ⊤}
use Rattle.bus.specs.Attach.{newcomer, no_such_address, occupied, takes_seat, attaches}
use Rattle.bus.specs.Bus.{seats, unseated, attached_to, attached_turns, turn_at, with_bits, with_turn, refused_by, done}
use Rattle.bus.specs.Conditions.{First, MasterAt, SlaveAt}
use Rattle.bus.specs.Find.{first_of}
use Rattle.bus.specs.Queue.{no_target, no_command, holds, queues_from, queues_at, queues}
use Rattle.bus.specs.Waiting.{with_bid}
use Rattle.bus.specs.Reply.{with_replies, writes, replies_from, replies_at, replies}
use Rattle.bus.proofs.Reflects.{first_holds}
use Rattle.bus.proofs.RefusedQueue.{found_attached, turn_found, master_reflects}
use Rattle.bus.proofs.RefusedReply.{slave_reflects}

abbrev is_done : Result ⊤ Refusal → Bool
is_done (Ok tt) = true
is_done (Err r) = false

not_done : {A : Type 0} (b : Bus) (r : Refusal) → (refused_by b r).verdict ≡ Ok tt → A
unfolding refused_by
not_done b r e = absurd (false≢true (ap is_done e))

-- a line of the table that does not hold is passed
passed : (t : Bool) (b : Bus) (r : Refusal) (y : Answer) → (cond t (refused_by b r) y).verdict ≡ Ok tt
    → (y.verdict ≡ Ok tt) × ((cond t (refused_by b r) y).bus ≡ y.bus)
passed true b r y e = not_done b r e
passed false b r y e = (e, refl)

-- the last line, which is not given where its test passes
taken_last : (t : Bool) (b c : Bus) (r : Refusal) → (cond t (done c) (refused_by b r)).verdict ≡ Ok tt
    → (t ≡ true) × ((cond t (done c) (refused_by b r)).bus ≡ c)
unfolding done
taken_last true b c r e = (refl, refl)
taken_last false b c r e = not_done b r e

-- ---- attach

-- there was a seat; the newcomer takes the one behind the attached stations, and is counted; everything else is as it was
pub record Seated (b : Bus) (a : ℕ) (master : Bool) (c : Bus) : Type 0 where
  pub room : b.count < seats
  pub turns : c.turns ≡ set b.turns b.count (newcomer a master)
  pub count : c.count ≡ b.count + 1
  pub slot : c.slot ≡ b.slot
  pub ran : c.ran ≡ b.ran
  pub quiet : c.quiet ≡ b.quiet
  pub began : c.began ≡ b.began
  pub waiting : c.waiting ≡ b.waiting

pub attach_done : (b : Bus) (a : ℕ) (master : Bool) → (attaches b a master).verdict ≡ Ok tt → Seated b a master (attaches b a master).bus
unfolding attaches takes_seat
attach_done b a master e =
    let p = passed b.ran b _ _ e in
    let q = passed (no_such_address a master) b _ _ p.0 in
    let r = passed (occupied b a master) b _ _ q.0 in
    let s = taken_last (ltb b.count seats) b _ _ r.0 in
    let same = p.1 ∙ q.1 ∙ r.1 ∙ s.1 in
    record {
      room = ltb-true b.count seats s.0;
      turns = ap (λ (x : Bus). x.turns) same;
      count = ap (λ (x : Bus). x.count) same;
      slot = ap (λ (x : Bus). x.slot) same;
      ran = ap (λ (x : Bus). x.ran) same;
      quiet = ap (λ (x : Bus). x.quiet) same;
      began = ap (λ (x : Bus). x.began) same;
      waiting = ap (λ (x : Bus). x.waiting) same;
    }

-- ---- queue and reply

-- one station's turn is t, and everything else is as it was, but for who waits
pub record OneTurn (b : Bus) (i : ℕ) (t : Turn) (c : Bus) : Type 0 where
  pub here : c.turns ≡ set b.turns i t
  pub others : (j : ℕ) → j ≢ i → turn_at c j ≡ turn_at b j
  pub count : c.count ≡ b.count
  pub slot : c.slot ≡ b.slot
  pub ran : c.ran ≡ b.ran
  pub quiet : c.quiet ≡ b.quiet
  pub began : c.began ≡ b.began

one_turn : (b c : Bus) (i : ℕ) (t : Turn) (bits : ℕ) → c ≡ with_bits b i t bits → OneTurn b i t c
unfolding turn_at
one_turn b c i t bits same =
    record {
      here = ap (λ (x : Bus). x.turns) same;
      others = λ j h. ap (λ (x : Bus). turn_at x j) same ∙ get_or-set_other b.turns i j t unseated h;
      count = ap (λ (x : Bus). x.count) same;
      slot = ap (λ (x : Bus). x.slot) same;
      ran = ap (λ (x : Bus). x.ran) same;
      quiet = ap (λ (x : Bus). x.quiet) same;
      began = ap (λ (x : Bus). x.began) same;
    }

-- a turn with another outbox, or another reply book
abbrev pub holding : Turn → Outbox → Turn
holding t o = record { station = with_outbox t.station t.station.phase o; told = t.told }

abbrev pub answering : Turn → ReplyBook → Turn
answering t r = record { station = with_replies t.station r; told = t.told }

-- the source, at place i, holds the telegram behind the others, and the bit of its rank is set while it is admitted; everything
-- else is as it was
pub record Queued (b : Bus) (qq : ℕ) (t : Telegram) (c : Bus) : Type 0 where
  pub place : ℕ
  pub attached : place < attached_to b
  pub source : First (MasterAt qq) (turn_at b place) (attached_turns b)
  pub accepts : (accepted (turn_at b place).station.outbox t).taken ≡ true
  pub changed : OneTurn b place (holding (turn_at b place) (accepted (turn_at b place).station.outbox t).outbox) c
  pub waits : c.waiting ≡ with_bid b.waiting (holding (turn_at b place) (accepted (turn_at b place).station.outbox t).outbox)

pub queue_done : (b : Bus) (qq zz pb sb : ℕ) (bytes : List ℕ) → (queues b qq zz pb sb bytes).verdict ≡ Ok tt
    → Queued b qq (record { qq = qq; zz = zz; pb = pb; sb = sb; load = load_of bytes }) (queues b qq zz pb sb bytes).bus
unfolding queues queues_from holds
queue_done b qq zz pb sb bytes e = go (first_of b (Master qq)) refl e
  where
    telegram : ℕ → Telegram
    telegram a = record { qq = a; zz = zz; pb = pb; sb = sb; load = load_of bytes }

    go : (f : Option ℕ) → first_of b (Master qq) ≡ f → (queues_at f b zz pb sb bytes).verdict ≡ Ok tt
        → Queued b qq (telegram qq) (queues_at f b zz pb sb bytes).bus
    go (Some i) found e =
        let source = turn_found (MasterAt qq) (Master qq) (master_reflects qq) b i found in
        let own = (first_holds source).1 in
        let p = passed (no_target (turn_at b i).station zz) b _ _ e in
        let q = passed (no_command pb sb) b _ _ p.0 in
        let r = passed (ltb 16 (length bytes)) b _ _ q.0 in
        let t = taken_last (accepted (turn_at b i).station.outbox (telegram (turn_at b i).station.address)).taken b _ _ r.0 in
        let then : ℕ → Turn = λ a. holding (turn_at b i) (accepted (turn_at b i).station.outbox (telegram a)).outbox in
        let same = subst (λ (a : ℕ). (queues_from b i zz pb sb bytes).bus ≡ with_bits b i (then a) (with_bid b.waiting (then a))) own (p.1 ∙ q.1 ∙ r.1 ∙ t.1) in
        record {
          place = i;
          attached = found_attached (Master qq) b i found;
          source = source;
          accepts = rw own at t.0;
          changed = one_turn b _ i _ _ same;
          waits = ap (λ (x : Bus). x.waiting) same;
        }
    go None found e = not_done b _ e

-- the slave, at place i, has the reply in its book; everything else is as it was
pub record Replied (b : Bus) (slave : ℕ) (r : Reply) (c : Bus) : Type 0 where
  pub place : ℕ
  pub attached : place < attached_to b
  pub station : First (SlaveAt slave) (turn_at b place) (attached_turns b)
  pub accepts : (written (turn_at b place).station.replies r).taken ≡ true
  pub changed : OneTurn b place (answering (turn_at b place) (written (turn_at b place).station.replies r).book) c
  pub waits : c.waiting ≡ b.waiting

pub reply_done : (b : Bus) (slave pb sb : ℕ) (bytes : List ℕ) → (replies b slave pb sb bytes).verdict ≡ Ok tt
    → Replied b slave (record { pb = pb; sb = sb; load = load_of bytes }) (replies b slave pb sb bytes).bus
unfolding replies replies_from writes with_turn
reply_done b slave pb sb bytes e = go (first_of b (Slave slave)) refl e
  where
    given : Reply
    given = record { pb = pb; sb = sb; load = load_of bytes }

    go : (f : Option ℕ) → first_of b (Slave slave) ≡ f → (replies_at f b pb sb bytes).verdict ≡ Ok tt
        → Replied b slave given (replies_at f b pb sb bytes).bus
    go (Some i) found e =
        let p = passed (no_command pb sb) b _ _ e in
        let q = passed (ltb 16 (length bytes)) b _ _ p.0 in
        let t = taken_last (written (turn_at b i).station.replies given).taken b _ _ q.0 in
        record {
          place = i;
          attached = found_attached (Slave slave) b i found;
          station = turn_found (SlaveAt slave) (Slave slave) (slave_reflects slave) b i found;
          accepts = t.0;
          changed = one_turn b _ i _ _ (p.1 ∙ q.1 ∙ t.1);
          waits = ap (λ (x : Bus). x.waiting) (p.1 ∙ q.1 ∙ t.1);
        }
    go None found e = not_done b _ e
