-- The bits that the bus keeps are those that would be gathered from all attached stations, after every call (02, E7). Assumes nothing.
use Rattle.std.proofs.Common.{◌≡◌, ℕ, zero, suc, ◌+◌, ◌<◌, Bool, true, false, cond, ltb, List, [], ◌∷◌, length, get_or, take, set, sym, refl, ap, ◌∙◌, arith, lt-ltb}
use mathlib.Core.Bool.{false≢true}
use Rattle.laws.proofs.AtMost.{at_most_same}
use Rattle.ranks.specs.Bits.{with_rank}
use Rattle.ranks.proofs.LeastRank.{with_twice, with_both}
use Rattle.wire.specs.declared.part.Telegram.{Telegram}
use Rattle.station.specs.Admission.{bids}
use Rattle.station.specs.Outbox.{held_in, accepted, queue_depth}
use Rattle.station.specs.Replies.{written}
use Rattle.station.specs.Station.{fresh}
use Rattle.station.specs.Outbox.{Accepted}
use Rattle.station.specs.declared.outbox.Outbox.{Outbox}
use Rattle.station.specs.declared.phase.Sound.{Sound}
use Rattle.station.specs.declared.replies.Reply.{Reply}
use Rattle.station.specs.declared.station.Turn.{Turn}
use Rattle.bus.specs.declared.bus.Bus.{Bus}
use Rattle.std.specs.Prelude.{Result, Ok, Err, ⊤}
use Rattle.bus.specs.declared.refusal.Refusal.{Refusal}
use Rattle.bus.specs.Attach.{newcomer, attaches}
use Rattle.bus.specs.Bus.{seats, unseated, powered_on, attached_to, turn_at}
use Rattle.bus.specs.Queue.{queues}
use Rattle.bus.specs.Reply.{replies}
use Rattle.bus.specs.Slot.{slot_heard}
use Rattle.bus.specs.Waiting.{with_bid, with_bids, bids_among, gathered}
use Rattle.bus.proofs.DoneChanges.{Seated, Queued, Replied, holding, answering, attach_done, queue_done, reply_done}
use Rattle.bus.proofs.Loops.{attached_fit, bids_set, no_bid, same_count}
use Rattle.bus.proofs.RefusedChangesNothing.{attach_refused, queue_refused, reply_refused}

-- ---- one station's bit

-- in whatever order
bid_both : (bits : ℕ) (t u : Turn) → with_bid (with_bid bits t) u ≡ with_bid (with_bid bits u) t
unfolding with_bid
bid_both bits t u = go (bids t.station) (bids u.station)
  where
    a : ℕ
    a = t.station.address

    c : ℕ
    c = u.station.address

    go : (x y : Bool) → cond y (with_rank (cond x (with_rank bits a) bits) c) (cond x (with_rank bits a) bits)
        ≡ cond x (with_rank (cond y (with_rank bits c) bits) a) (cond y (with_rank bits c) bits)
    go true true = with_both bits a c
    go true false = refl
    go false true = refl
    go false false = refl

bid_through : (bits : ℕ) (l : List Turn) (t : Turn) → with_bid (with_bids bits l) t ≡ with_bids (with_bid bits t) l
bid_through bits [] t = refl
bid_through bits (u ∷ l) t = bid_through (with_bid bits u) l t ∙ ap (λ (w : ℕ). with_bids w l) (bid_both bits u t)

-- who bids already, and with another telegram, has its bit already
pub record Bids-more (t u : Turn) : Type 0 where
  pub address : u.station.address ≡ t.station.address
  pub still : bids t.station ≡ true → bids u.station ≡ true

bid_again : (bits : ℕ) (t u : Turn) → Bids-more t u → with_bid (with_bid bits t) u ≡ with_bid bits u
unfolding with_bid
bid_again bits t u m = go (bids t.station) (bids u.station) m.still
  where
    a : ℕ
    a = t.station.address

    go : (x y : Bool) → (x ≡ true → y ≡ true)
        → cond y (with_rank (cond x (with_rank bits a) bits) u.station.address) (cond x (with_rank bits a) bits) ≡ cond y (with_rank bits u.station.address) bits
    go true true s = rw m.address (with_twice bits a)
    go true false s = absurd (false≢true (s refl))
    go false y s = refl

-- ---- one turn is replaced

-- by one that bids if it did
among_more : (n bits : ℕ) (l : List Turn) (i : ℕ) (u d : Turn) → i < n → i < length l → Bids-more (get_or l i d) u
    → with_bids bits (take n (set l i u)) ≡ with_bid (with_bids bits (take n l)) u
among_more zero bits l i u d h k m = absurd (omega arith)
among_more (suc n) bits [] i u d h k m = absurd (omega arith)
among_more (suc n) bits (t ∷ l) zero u d h k m =
    ap (λ (w : ℕ). with_bids w (take n l)) (sym (bid_again bits t u m)) ∙ sym (bid_through (with_bid bits t) (take n l) u)
among_more (suc n) bits (t ∷ l) (suc i) u d h k m = among_more n (with_bid bits t) l i u d (omega arith) (omega arith) m

-- by one that bids as it did
among_same : (n bits : ℕ) (l : List Turn) (i : ℕ) (u d : Turn) → i < length l → ((w : ℕ) → with_bid w u ≡ with_bid w (get_or l i d))
    → with_bids bits (take n (set l i u)) ≡ with_bids bits (take n l)
among_same zero bits l i u d k m = refl
among_same (suc n) bits [] i u d k m = absurd (omega arith)
among_same (suc n) bits (t ∷ l) zero u d k m = ap (λ (w : ℕ). with_bids w (take n l)) (m bits)
among_same (suc n) bits (t ∷ l) (suc i) u d k m = among_same n (with_bid bits t) l i u d (omega arith) m

-- ---- what a call makes of the one that it is about

-- with room for it or without
abbrev either : Outbox → Telegram → Bool → Accepted
either o m t =
    cond t (record { taken = true; outbox = record { slots = set o.slots o.held m; held = o.held + 1 } }) (record { taken = false; outbox = o })

-- there is room, so a telegram more is held
held_more : (o : Outbox) (m : Telegram) → (accepted o m).taken ≡ true → 0 < held_in (accepted o m).outbox
unfolding accepted held_in
held_more o m = go (ltb o.held queue_depth)
  where
    go : (t : Bool) → (either o m t).taken ≡ true → 0 < (either o m t).outbox.held
    go true e = omega arith
    go false e = absurd (false≢true e)

holding_more : (t : Turn) (o : Outbox) → 0 < held_in o → Bids-more t (holding t o)
unfolding bids
holding_more t o h = record { address = refl; still = go t.station.admitted }
  where
    go : (a : Bool) → cond a (ltb 0 (held_in t.station.outbox)) false ≡ true → cond a (ltb 0 (held_in o)) false ≡ true
    go true e = lt-ltb 0 (held_in o) h
    go false e = e

-- ---- the calls

-- the bus keeps what would be gathered
abbrev pub Gathered : Bus → Type 0
Gathered b = b.waiting ≡ gathered b

pub on_gathered : Gathered powered_on
unfolding powered_on gathered attached_to
on_gathered = refl

-- a slot sets and clears them all
pub slot_gathered : (b : Bus) (h : Sound) → Gathered (slot_heard b h)
unfolding slot_heard gathered attached_to
slot_gathered b h = refl

module _ (b : Bus) (whole : length b.turns ≡ seats) (kept : Gathered b) where
  -- a newcomer is not admitted
  no_newcomer : (a : ℕ) (m : Bool) → bids (newcomer a m).station ≡ false
  unfolding newcomer fresh bids
  no_newcomer a m = refl

  seated_gathered : (a : ℕ) (m : Bool) (c : Bus) → Seated b a m c → Gathered c
  unfolding gathered attached_to
  seated_gathered a m c s =
      let n : attached_to b ≡ b.count = at_most_same b.count seats (omega (arith, s.room)) in
      let k : attached_to c ≡ b.count + 1 = at_most_same c.count seats (omega (arith, s.room, s.count)) ∙ s.count in
      s.waiting ∙ kept ∙ ap (λ (j : ℕ). bids_among j b.turns) n
      ∙ bids_set b.count b.turns (newcomer a m) (omega (arith, s.room, whole)) refl (sym (no_bid (bids_among b.count b.turns) (newcomer a m) (no_newcomer a m)))
      ∙ sym (ap (λ (j : ℕ). bids_among j c.turns) k ∙ ap (bids_among (b.count + 1)) s.turns)

  pub attach_gathered : (a : ℕ) (m : Bool) → Gathered (attaches b a m).bus
  attach_gathered a m = go (attaches b a m).verdict refl
    where
      go : (v : Result ⊤ Refusal) → (attaches b a m).verdict ≡ v → Gathered (attaches b a m).bus
      go (Ok tt) e = seated_gathered a m (attaches b a m).bus (attach_done b a m e)
      go (Err r) e = rw (attach_refused b a m r e) kept

  queued_gathered : (qq : ℕ) (t : Telegram) (c : Bus) → Queued b qq t c → Gathered c
  unfolding gathered turn_at
  queued_gathered qq t c q =
      let i = q.place in
      let u = holding (turn_at b i) (accepted (turn_at b i).station.outbox t).outbox in
      let l : i < length b.turns = omega (arith, q.attached, attached_fit b, whole) in
      let n : attached_to c ≡ attached_to b = sym (same_count b c q.changed.count) in
      q.waits ∙ ap (λ (w : ℕ). with_bid w u) kept
      ∙ sym (among_more (attached_to b) 0 b.turns i u unseated q.attached l
      (holding_more (turn_at b i) (accepted (turn_at b i).station.outbox t).outbox (held_more (turn_at b i).station.outbox t q.accepts)))
      ∙ sym (ap (λ (j : ℕ). bids_among j c.turns) n ∙ ap (bids_among (attached_to b)) q.changed.here)

  pub queue_gathered : (qq zz pb sb : ℕ) (bytes : List ℕ) → Gathered (queues b qq zz pb sb bytes).bus
  queue_gathered qq zz pb sb bytes = go (queues b qq zz pb sb bytes).verdict refl
    where
      go : (v : Result ⊤ Refusal) → (queues b qq zz pb sb bytes).verdict ≡ v → Gathered (queues b qq zz pb sb bytes).bus
      go (Ok tt) e = queued_gathered qq _ (queues b qq zz pb sb bytes).bus (queue_done b qq zz pb sb bytes e)
      go (Err r) e = rw (queue_refused b qq zz pb sb bytes r e) kept

  replied_gathered : (a : ℕ) (r : Reply) (c : Bus) → Replied b a r c → Gathered c
  unfolding gathered turn_at with_bid bids
  replied_gathered a r c q =
      let i = q.place in
      let u = answering (turn_at b i) (written (turn_at b i).station.replies r).book in
      let l : i < length b.turns = omega (arith, q.attached, attached_fit b, whole) in
      let n : attached_to c ≡ attached_to b = sym (same_count b c q.changed.count) in
      q.waits ∙ kept
      ∙ sym (among_same (attached_to b) 0 b.turns i u unseated l (λ w. refl))
      ∙ sym (ap (λ (j : ℕ). bids_among j c.turns) n ∙ ap (bids_among (attached_to b)) q.changed.here)

  pub reply_gathered : (a pb sb : ℕ) (bytes : List ℕ) → Gathered (replies b a pb sb bytes).bus
  reply_gathered a pb sb bytes = go (replies b a pb sb bytes).verdict refl
    where
      go : (v : Result ⊤ Refusal) → (replies b a pb sb bytes).verdict ≡ v → Gathered (replies b a pb sb bytes).bus
      go (Ok tt) e = replied_gathered a _ (replies b a pb sb bytes).bus (reply_done b a pb sb bytes e)
      go (Err r) e = rw (reply_refused b a pb sb bytes r e) kept
