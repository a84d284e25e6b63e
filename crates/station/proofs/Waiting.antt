-- The outbox as a queue of at most 4 telegrams (01, the table's line 5, "Sending", "Release"). Assumes nothing.
use mathlib.Core.Path.{◌≡◌, refl, sym, ap, ◌∙◌}
use mathlib.Core.Bool.{Bool, true, false, cond}
use mathlib.Core.Logic.{◌≢◌}
use mathlib.Core.List.{List, [], ◌∷◌, ◌++◌}
use Prim.Native.Nat.{ℕ, zero, suc, ◌+◌, ◌-◌, ◌≤◌, ◌<◌}
use native.Mathlib.Numerals.{add-one}
use native.Mathlib.Omega.{arith}
use borrow.Author.Tests.{ltb-true, lt-ltb, le-ltb, eq-eqb, ne_eqb}
use lib.Dec.{eqb, ltb}
use lib.ListN.{length, get_or, take, drop, set, length-append, length-drop, length-set}
use lib.Seq.{length-take-le, take-append-le, take-suc-set}
use Rattle.wire.specs.declared.part.Telegram.{Telegram}
use Rattle.station.specs.declared.outbox.Outbox.{Outbox}
use Rattle.station.specs.Outbox.{Accepted}
use Rattle.station.specs.Outbox.{queue_depth, no_telegram, none_held, held_in, waiting, accepted, oldest_of, dropped}

-- an array of 4, and at most 4 held
pub record Kept (o : Outbox) : Type 0 where
  pub array : length o.slots ≡ queue_depth
  pub room : o.held ≤ queue_depth

pub none_kept : Kept none_held
unfolding none_held
none_kept = record { array = refl; room = omega arith }

-- nothing waits at first
pub none_waiting : waiting none_held ≡ []
unfolding waiting none_held
none_waiting = refl

-- as many are held as wait
pub held_waiting : (o : Outbox) → Kept o → held_in o ≡ length (waiting o)
unfolding held_in waiting
held_waiting o k = sym (length-take-le o.held o.slots (omega arith))

-- and that is at most 4
pub waiting_at_most : (o : Outbox) → Kept o → length (waiting o) ≤ queue_depth
unfolding held_in
waiting_at_most o k = omega (arith, held_waiting o k, k.room)

-- one more, behind the others
pub record Queued (o : Outbox) (t : Telegram) (a : Accepted) : Type 0 where
  pub taken : a.taken ≡ true
  pub queue : waiting a.outbox ≡ waiting o ++ (t ∷ [])

pub accepted_queued : (o : Outbox) (t : Telegram) → Kept o → held_in o < queue_depth → Queued o t (accepted o t)
unfolding accepted held_in waiting
accepted_queued o t k h =
    let l : o.held < length o.slots = omega arith in
    rw (lt-ltb o.held queue_depth h) (record { taken = refl; queue = rw (add-one, take-suc-set) })

-- with 4 held it is turned down, and nothing changes
pub accepted_full : (o : Outbox) (t : Telegram) → held_in o ≡ queue_depth → accepted o t ≡ record { taken = false; outbox = o }
unfolding accepted held_in
accepted_full o t h = rw (le-ltb o.held queue_depth (omega arith))

pub accepted_kept : (o : Outbox) (t : Telegram) → Kept o → Kept (accepted o t).outbox
unfolding accepted
accepted_kept o t k = by_room (ltb o.held queue_depth) refl
  where
    by_room : (r : Bool) → ltb o.held queue_depth ≡ r
        → Kept (cond {A = Accepted} r (record { taken = true; outbox = record { slots = set o.slots o.held t; held = o.held + 1 } })
        (record { taken = false; outbox = o })).outbox
    by_room true e =
        record { array = length-set o.slots o.held t ∙ k.array; room = omega (arith, ltb-true o.held queue_depth e) }
    by_room false e = k

-- the first of a queue, and what is left of it
record Split (l : List Telegram) (n : ℕ) (t : Telegram) (ts : List Telegram) : Type 0 where
  some : n ≢ 0
  first : get_or l 0 no_telegram ≡ t
  rest : take (n - 1) (drop 1 l ++ drop 3 l) ≡ ts

split : (l : List Telegram) (n : ℕ) {t : Telegram} {ts : List Telegram} → length l ≡ queue_depth → n ≤ queue_depth → take n l ≡ t ∷ ts → Split l n t ts
split [] n a h e = absurd (omega arith)
split (x ∷ l) zero a h e = let z : ◌≡◌ {A = ℕ} 0 1 = cc in absurd (omega arith)
split (x ∷ l) (suc n) {t} {ts} a h e =
    let p : suc n - 1 ≡ n = omega arith in
    let q : take n (l ++ drop 2 l) ≡ take n l = take-append-le n l (drop 2 l) (omega arith) in
    let r : take n l ≡ ts = cc in
    record { some = omega arith; first = cc; rest = rw p (q ∙ r) }

-- the telegram held longest is the first that waits
pub oldest_first : (o : Outbox) {t : Telegram} {ts : List Telegram} → Kept o → waiting o ≡ t ∷ ts → oldest_of o ≡ t
unfolding waiting oldest_of
oldest_first o k e = (split o.slots o.held k.array k.room e).first

-- it leaves, and the others wait
pub dropped_rest : (o : Outbox) {t : Telegram} {ts : List Telegram} → Kept o → waiting o ≡ t ∷ ts → waiting (dropped o) ≡ ts
unfolding waiting dropped
dropped_rest o k e =
    let w = split o.slots o.held k.array k.room e in
    rw (ne_eqb o.held 0 w.some) w.rest

-- where none waits none leaves
pub dropped_none : (o : Outbox) → Kept o → waiting o ≡ [] → dropped o ≡ o
unfolding dropped held_in
dropped_none o k e = rw (eq-eqb o.held 0 (held_waiting o k ∙ ap length e))

pub dropped_kept : (o : Outbox) → Kept o → Kept (dropped o)
unfolding dropped
dropped_kept o k = by_none (eqb o.held 0)
  where
    by_none : (r : Bool) → Kept (cond {A = Outbox} r o (record { slots = drop 1 o.slots ++ drop 3 o.slots; held = o.held - 1 }))
    by_none true = k
    by_none false =
        record {
          array = simp (length-append, length-drop) (omega (arith, k.array));
          room = omega (arith, k.room);
        }
