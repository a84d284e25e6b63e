-- What a call makes of the bus, seat by seat: nothing, a newcomer, a telegram or a reply more, or a slot. Assumes nothing.
use mathlib.Core.Path.{◌≡◌, refl, subst, ◌∙◌}
use mathlib.Core.Logic.{◌≢◌}
use mathlib.Core.Bool.{Bool, true, false, cond, true≢false}
use mathlib.Core.List.{List, [], ◌∷◌}
use Prim.Native.Nat.{ℕ, zero, suc, ◌+◌, ◌<◌}
use native.Mathlib.Omega.{arith}
use native.Mathlib.Nat.{not-suc-le-zero, le_of_suc-le-suc}
use native.Mathlib.Decide.{ℕ_discrete}
use borrow.Author.Tests.{ltb-true}
use lib.Dec.{ltb}
use lib.ListN.{length, get_or, set, length-set}
use lib.Seq.{get_or-set_same, get_or-set_other, get_or-take, length-take-le}
use Rattle.std.specs.Prelude.{Option, Some, None}
use Rattle.wire.specs.Load.{load_of}
use Rattle.wire.specs.Reading.{Sixteen}
use Rattle.wire.specs.declared.part.Telegram.{Telegram}
use Rattle.wire.proofs.Fitting.{load_sixteen}
use Rattle.station.specs.Outbox.{accepted}
use Rattle.station.specs.Replies.{written}
use Rattle.station.specs.Turn.{with_outbox}
use Rattle.station.specs.declared.phase.Sound.{Sound}
use Rattle.station.specs.declared.replies.Reply.{Reply}
use Rattle.station.specs.declared.station.Turn.{Turn}
use Rattle.bus.specs.declared.bus.Bus.{Bus}
use Rattle.bus.specs.Bus.{Answer}
use Rattle.bus.specs.declared.find.Query.TheVariants.{Master, Slave}
use Rattle.bus.specs.declared.refusal.Refusal.{Refusal}
use Rattle.std.specs.Prelude.{Ok, Err}
use Rattle.bus.specs.declared.refusal.Refusal.TheVariants.{NoTarget, NoCommand, TooMuchData, OutboxFull, NoMaster, NoSlave, BookFull, Running, NoSuchAddress, InUse, NoRoom}
use Rattle.bus.specs.Bus.{seats, unseated, powered_on, attached_to, attached_turns, turn_at, with_turn, refused_by, done, with_bits}
use Rattle.bus.specs.Find.{first_of}
use Rattle.bus.specs.Attach.{no_such_address, occupied, newcomer, takes_seat, attaches}
use Rattle.bus.specs.Queue.{no_target, no_command, holds, queues_from, queues_at, queues}
use Rattle.bus.specs.Reply.{with_replies, writes, replies_from, replies_at, replies}
use Rattle.bus.specs.Slot.{spoken, turned, map_first, slot_heard, slot_run}
use Rattle.bus.proofs.Loops.{attached_fit, length_map_first}
use Rattle.laws.proofs.AtMost.{at_most_same}
use Rattle.laws.proofs.FirstIs.{Every, none, next}
use Rattle.promises.specs.Calls.{Call, attach, queue, reply, slot, heard, after_call, after_calls, ByteCall, ByteCalls, Reachable}
use Rattle.promises.proofs.Shared.Uses.{reached}

pub either_false : (s t : Bool) → cond s true t ≡ false → (s ≡ false) × (t ≡ false)
either_false true t e = absurd (true≢false e)
either_false false t e = (refl, e)

-- the bus with a newcomer in the next seat
abbrev pub with_newcomer : Bus → ℕ → Bool → Bus
with_newcomer b a m =
    record { turns = set b.turns b.count (newcomer a m); count = b.count + 1; slot = b.slot; ran = b.ran; quiet = b.quiet; began = b.began; waiting = b.waiting }

-- a seat with a telegram more
abbrev pub holding_more : Turn → Telegram → Turn
holding_more t m =
    record { station = with_outbox t.station t.station.phase (accepted t.station.outbox m).outbox; told = t.told }

-- a seat with a reply more
abbrev pub answering_more : Turn → Reply → Turn
answering_more t r =
    record { station = with_replies t.station (written t.station.replies r).book; told = t.told }

-- what an answered call did: refused, and the bus is as it was; or done (which bits of those who wait are set is said in bus, Gathered)
pub data Did (b : Bus) : Call → Answer → Type 0 where
  refused : {c : Call} (r : Refusal) → Did b c (record { bus = b; verdict = Err r })
  attached : {a : ℕ} {m : Bool} → b.ran ≡ false → no_such_address a m ≡ false → occupied b a m ≡ false → b.count < seats
      → Did b (attach a m) (record { bus = with_newcomer b a m; verdict = Ok tt })
  queued : {qq zz pb sb : ℕ} {bytes : List ℕ} {bits : ℕ} (i : ℕ) (t : Telegram) → Sixteen t.load
      → Did b (queue qq zz pb sb bytes) (record { bus = with_bits b i (holding_more (turn_at b i) t) bits; verdict = Ok tt })
  replied : {a pb sb : ℕ} {bytes : List ℕ} {bits : ℕ} (i : ℕ) (r : Reply) → Sixteen r.load
      → Did b (reply a pb sb bytes) (record { bus = with_bits b i (answering_more (turn_at b i) r) bits; verdict = Ok tt })

module _ (b : Bus) {c : Call} where
  turned_down : (r : Refusal) → Did b c (refused_by b r)
  unfolding refused_by
  turned_down r = refused r

  tested : {u v : Answer} (t : Bool) → (t ≡ true → Did b c u) → (t ≡ false → Did b c v) → Did b c (cond t u v)
  tested true f g = f refl
  tested false f g = g refl

pub did_attach : (b : Bus) (a : ℕ) (m : Bool) → Did b (attach a m) (attaches b a m)
unfolding attaches takes_seat done
did_attach b a m =
    tested b b.ran (λ _. turned_down b Running) λ r.
    tested b (no_such_address a m) (λ _. turned_down b NoSuchAddress) λ n.
    tested b (occupied b a m) (λ _. turned_down b InUse) λ o.
    tested b (ltb b.count seats) (λ h. attached r n o (ltb-true b.count seats h)) λ _. turned_down b NoRoom

pub did_queue : (b : Bus) (qq zz pb sb : ℕ) (bytes : List ℕ) → Did b (queue qq zz pb sb bytes) (queues b qq zz pb sb bytes)
unfolding queues queues_from holds done
did_queue b qq zz pb sb bytes = at (first_of b (Master qq))
  where
    telegram : ℕ → Telegram
    telegram i = record { qq = (turn_at b i).station.address; zz = zz; pb = pb; sb = sb; load = load_of bytes }

    at : (f : Option ℕ) → Did b (queue qq zz pb sb bytes) (queues_at f b zz pb sb bytes)
    at (Some i) =
        tested b (no_target (turn_at b i).station zz) (λ _. turned_down b NoTarget) λ _.
        tested b (no_command pb sb) (λ _. turned_down b NoCommand) λ _.
        tested b (ltb 16 (length bytes)) (λ _. turned_down b TooMuchData) λ _.
        tested b (accepted (turn_at b i).station.outbox (telegram i)).taken (λ _. queued i (telegram i) (load_sixteen bytes)) λ _. turned_down b OutboxFull
    at None = turned_down b NoMaster

pub did_reply : (b : Bus) (a pb sb : ℕ) (bytes : List ℕ) → Did b (reply a pb sb bytes) (replies b a pb sb bytes)
unfolding replies replies_from writes with_turn done
did_reply b a pb sb bytes = at (first_of b (Slave a))
  where
    entry : Reply
    entry = record { pb = pb; sb = sb; load = load_of bytes }

    at : (f : Option ℕ) → Did b (reply a pb sb bytes) (replies_at f b pb sb bytes)
    at (Some i) =
        tested b (no_command pb sb) (λ _. turned_down b NoCommand) λ _.
        tested b (ltb 16 (length bytes)) (λ _. turned_down b TooMuchData) λ _.
        tested b (written (turn_at b i).station.replies entry).taken (λ _. replied i entry (load_sixteen bytes)) λ _. turned_down b BookFull
    at None = turned_down b NoSlave

-- ---- seats

-- the array of seats is whole
abbrev pub Whole : Bus → Type 0
Whole b = length b.turns ≡ seats

pub attached_turn : (b : Bus) (i : ℕ) (t : Turn) (bits : ℕ) → attached_to (with_bits b i t bits) ≡ attached_to b
unfolding attached_to
attached_turn b i t bits = refl

pub attached_slot : (b : Bus) (h : Sound) → attached_to (slot_heard b h) ≡ attached_to b
unfolding attached_to slot_heard
attached_slot b h = refl

every_at : {A : Type 0} {P : A → Type 0} {l : List A} → Every P l → (i : ℕ) (d : A) → i < length l → P (get_or l i d)
every_at none i d h = absurd (not-suc-le-zero h)
every_at (next p ps) zero d h = p
every_at (next p ps) (suc i) d h = every_at ps i d (le_of_suc-le-suc h)

-- what holds of every attached turn holds in every seat
pub every_seat : (P : Turn → Type 0) (b : Bus) → Whole b → Every P (attached_turns b) → (i : ℕ) → i < attached_to b → P (turn_at b i)
unfolding turn_at
every_seat P b w e i h =
    let n : length (attached_turns b) ≡ attached_to b = length-take-le (attached_to b) b.turns (omega (arith, attached_fit b)) in
    subst P (get_or-take (attached_to b) b.turns i unseated h) (every_at e i unseated (omega (arith, n)))

-- before the newcomer so many were attached, and after it one more
pub attached_before : (b : Bus) → b.count < seats → attached_to b ≡ b.count
unfolding attached_to
attached_before b h = at_most_same b.count seats (omega arith)

pub attached_newcomer : (b : Bus) (a : ℕ) (m : Bool) → b.count < seats → attached_to (with_newcomer b a m) ≡ b.count + 1
unfolding attached_to
attached_newcomer b a m h = at_most_same (b.count + 1) seats (omega arith)

-- the seat that a call is about, and the others
pub turn_same : (b : Bus) (i : ℕ) (t : Turn) (bits : ℕ) → Whole b → i < attached_to b → turn_at (with_bits b i t bits) i ≡ t
unfolding turn_at
turn_same b i t bits w h = get_or-set_same b.turns i t unseated (omega (arith, attached_fit b))

pub turn_other : (b : Bus) (i j : ℕ) (t : Turn) (bits : ℕ) → j ≢ i → turn_at (with_bits b i t bits) j ≡ turn_at b j
unfolding turn_at
turn_other b i j t bits n = get_or-set_other b.turns i j t unseated n

pub newcomer_seat : (b : Bus) (a : ℕ) (m : Bool) → Whole b → b.count < seats → turn_at (with_newcomer b a m) b.count ≡ newcomer a m
unfolding turn_at
newcomer_seat b a m w h = get_or-set_same b.turns b.count (newcomer a m) unseated (omega arith)

pub other_seat : (b : Bus) (a : ℕ) (m : Bool) (i : ℕ) → i ≢ b.count → turn_at (with_newcomer b a m) i ≡ turn_at b i
unfolding turn_at
other_seat b a m i n = get_or-set_other b.turns b.count i (newcomer a m) unseated n

get_d_map_first : {A : Type 0} (f : A → A) (n : ℕ) (l : List A) (i : ℕ) (d : A) → i < n → i < length l
    → get_or (map_first f n l) i d ≡ f (get_or l i d)
get_d_map_first f zero l i d h k = absurd (not-suc-le-zero h)
get_d_map_first f (suc n) [] i d h k = absurd (not-suc-le-zero k)
get_d_map_first f (suc n) (a ∷ l) zero d h k = refl
get_d_map_first f (suc n) (a ∷ l) (suc i) d h k = get_d_map_first f n l i d (le_of_suc-le-suc h) (le_of_suc-le-suc k)

-- in a slot every attached station has its turn with the sound that all hear
pub slot_seat : (b : Bus) (h : Sound) (i : ℕ) → Whole b → i < attached_to b → turn_at (slot_heard b h) i ≡ turned h (turn_at b i)
unfolding turn_at slot_heard
slot_seat b h i w l =
    get_d_map_first (turned h) (attached_to b) b.turns i unseated l (omega (arith, attached_fit b))

-- an attached seat after a call that is no slot
pub data Seat (b : Bus) (i : ℕ) : Turn → Type 0 where
  as_it_was : i < attached_to b → Seat b i (turn_at b i)
  newly_taken : (a : ℕ) (m : Bool) → Seat b i (newcomer a m)
  holds_more : i < attached_to b → (t : Telegram) → Sixteen t.load → Seat b i (holding_more (turn_at b i) t)
  answers_more : i < attached_to b → (r : Reply) → Sixteen r.load → Seat b i (answering_more (turn_at b i) r)

other_turn : (b : Bus) (i : ℕ) (t : Turn) (bits : ℕ) → Whole b → (i < attached_to b → Seat b i t) → (j : ℕ) → j < attached_to b
    → Seat b j (turn_at (with_bits b i t bits) j)
other_turn b i t bits w f j l = go (ℕ_discrete j i)
  where
    go : Dec (j ≡ i) → Seat b j (turn_at (with_bits b i t bits) j)
    go (yes e) = let k : i < attached_to b = omega arith in rw (e, turn_same b i t bits w k) (f k)
    go (no d) = rw (turn_other b i j t bits d) (as_it_was l)

pub seat_after : {b : Bus} {c : Call} {x : Answer} → Did b c x → Whole b → (i : ℕ) → i < attached_to x.bus → Seat b i (turn_at x.bus i)
seat_after (refused r) w i l = as_it_was l
seat_after {b} (attached {a = a} {m = m} _ _ _ h) w i l = go (ℕ_discrete i b.count)
  where
    go : Dec (i ≡ b.count) → Seat b i (turn_at (with_newcomer b a m) i)
    go (yes e) = rw (e, newcomer_seat b a m w h) (newly_taken a m)
    go (no d) =
        rw (other_seat b a m i d) (as_it_was (omega (arith, attached_newcomer b a m h, attached_before b h)))
seat_after {b} (queued {bits = n} i t s) w j l =
    other_turn b i (holding_more (turn_at b i) t) n w (λ k. holds_more k t s) j (rw (attached_turn b i (holding_more (turn_at b i) t) n) at l)
seat_after {b} (replied {bits = n} i r s) w j l =
    other_turn b i (answering_more (turn_at b i) r) n w (λ k. answers_more k r s) j (rw (attached_turn b i (answering_more (turn_at b i) r) n) at l)

-- ---- the array stays whole

pub whole_answer : {b : Bus} {c : Call} {x : Answer} → Did b c x → Whole b → Whole x.bus
whole_answer (refused r) w = w
whole_answer {b} (attached {a = a} {m = m} _ _ _ _) w = length-set b.turns b.count (newcomer a m) ∙ w
whole_answer {b} (queued i t _) w = length-set b.turns i (holding_more (turn_at b i) t) ∙ w
whole_answer {b} (replied i r _) w = length-set b.turns i (answering_more (turn_at b i) r) ∙ w

pub whole_slot : (b : Bus) (h : Sound) → Whole b → Whole (slot_heard b h)
unfolding slot_heard
whole_slot b h w = length_map_first (turned h) (attached_to b) b.turns ∙ w

-- ---- every sequence of calls

-- what every call keeps holds after any sequence of them
pub kept_by_calls : (P : Bus → Type 0) → ((b : Bus) (c : Call) → ByteCall c → P b → P (after_call b c))
    → (b : Bus) (cs : List Call) → ByteCalls cs → P b → P (after_calls b cs)
unfolding after_calls
kept_by_calls P f b [] k p = p
kept_by_calls P f b (c ∷ cs) k p = kept_by_calls P f (after_call b c) cs k.1 (f b c k.0 p)

-- and, where it holds at power-on, of every bus that users can bring about
pub of_reachable : (P : Bus → Type 0) → P powered_on → ((b : Bus) (c : Call) → ByteCall c → P b → P (after_call b c))
    → {b : Bus} → Reachable b → P b
of_reachable P p f r = reached P (λ cs k. kept_by_calls P f powered_on cs k p) r

-- a call is shown to keep something by what it did, or by its slot
pub by_call : (P : Bus → Type 0) (b : Bus) → ((c : Call) (x : Answer) → ByteCall c → Did b c x → P x.bus)
    → ((h : Sound) → P (slot_heard b h)) → (c : Call) → ByteCall c → P (after_call b c)
unfolding slot_run
by_call P b f g (attach a m) k = f (attach a m) (attaches b a m) k (did_attach b a m)
by_call P b f g (queue qq zz pb sb bytes) k = f (queue qq zz pb sb bytes) (queues b qq zz pb sb bytes) k (did_queue b qq zz pb sb bytes)
by_call P b f g (reply a pb sb bytes) k = f (reply a pb sb bytes) (replies b a pb sb bytes) k (did_reply b a pb sb bytes)
by_call P b f g slot k = g (spoken b)
by_call P b f g (heard h) k = g h

-- the array is whole, whatever was called
pub whole_on : Whole powered_on
unfolding powered_on
whole_on = refl

pub whole_call : (b : Bus) (c : Call) → ByteCall c → Whole b → Whole (after_call b c)
whole_call b c k w = by_call Whole b (λ c x k d. whole_answer d w) (λ h. whole_slot b h w) c k
