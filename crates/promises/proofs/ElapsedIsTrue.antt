-- An event's elapsed count is the number of slots run since its owner's owns line, modulo 2^32, while somebody owns the wire or has
-- left it in this very slot, else 0 (02, E4). Assumes nothing.
use mathlib.Core.Path.{◌≡◌, refl, sym, ap, subst, ◌∙◌}
use mathlib.Core.Bool.{Bool, true, false, cond, false≢true}
use mathlib.Core.List.Memᴰ
use mathlib.Core.List.{List, [], ◌∷◌, map, Memᴰ}
use mathlib.Core.Logic.{◌⊎◌, inl, inr, ⊎_elim}
use Prim.Native.Nat.{ℕ, ◌+◌, ◌-◌, ◌%◌, ◌^◌, ◌<◌}
use native.Mathlib.Nat.{mod-add-mod, not-suc-le-zero}
use native.Mathlib.Omega.{arith}
use Rattle.station.specs.Events.{Event, events_as, tells}
use Rattle.station.specs.Phase.{owner}
use Rattle.station.specs.Station.{fresh, ready}
use Rattle.station.specs.Hear.{hears}
use Rattle.station.specs.declared.phase.Phase.{Phase}
use Rattle.station.specs.declared.phase.Sound.{Sound}
use Rattle.station.specs.declared.phase.Told.{Told}
use Rattle.station.specs.declared.phase.Told.TheVariants.{Silence, Owns, Taken, Failed, Free, FailedFree, Given, Answered}
use Rattle.station.specs.declared.station.Station.{Station}
use Rattle.station.specs.declared.station.Turn.{Turn}
use Rattle.station.proofs.Ownership.{NotOfOwnership, of_nothing, of_taken, of_failed, of_given, of_answer, Ownership, gained, released, failed_and_left, as_it_was, ownership, owns_only_if, ready_ownership}
use Rattle.station.proofs.Possible.{ready_possible}
use Rattle.bus.specs.Attach.{newcomer}
use Rattle.bus.specs.Bus.{powered_on, attached_to, turn_at}
use Rattle.bus.specs.Events.{Line, line, tellings, events}
use Rattle.bus.specs.Find.{in_transfer, meets, first_of, there_is}
use Rattle.bus.specs.Slot.{spoken, slot_heard, slot_run}
use Rattle.bus.specs.Time.{since_owns, elapsed, time_of}
use Rattle.bus.specs.Told as bus
use Rattle.bus.specs.Bus.{Answer}
use Rattle.bus.specs.declared.bus.Bus.{Bus}
use Rattle.bus.specs.declared.find.Query.TheVariants.{ToldOwns, InTransfer}
use Rattle.bus.specs.declared.time.Time.{Time}
use Rattle.promises.specs.Calls.{Call, attach, queue, reply, slot, heard, after_call, after_calls, ByteCall, ByteCalls, Use, after_uses, ByteUses, calls_in, Reachable}
use Rattle.promises.specs.Elapsed.{is_owns, is_free, says, Holds, counted_on, recount, TrueTime}
use Rattle.promises.specs.Fit.{station_at}
use Rattle.promises.proofs.OneOwner.{FirstHeard, nothing, first, ready_follows, Shared, reachable_shared}
use Rattle.promises.proofs.SlotsCounted.{slots_counted}
use Rattle.promises.proofs.Shared.Asked.{asked_one, asked_each}
use Rattle.promises.proofs.Shared.AtPhase.{bidder_admitted}
use Rattle.promises.proofs.Shared.Seats.{Did, refused, attached, queued, replied, Seat, newly_taken, holds_more, answers_more, seat_after, attached_slot, slot_seat, whole_slot, did_attach, did_queue, did_reply}
use Rattle.promises.proofs.Shared.Seats as seats
use Rattle.promises.proofs.Shared.Uses.{uses_are_calls, uses_bytes, on_reachable, reachable_more, by_calls}

-- ---- one station: its lines, and what it is told

owns_line : (t : Turn) → says is_owns (tells t) ≡ bus.is_owns t.told
unfolding tells
owns_line t = go t.told
  where
    go : (s : Told) → says is_owns (events_as s t.station.address t.station.part) ≡ bus.is_owns s
    go Silence = refl
    go Owns = refl
    go Taken = refl
    go (Failed f) = refl
    go Free = refl
    go (FailedFree f) = refl
    go Given = refl
    go Answered = refl

free_line : (t : Turn) → says is_free (tells t) ≡ bus.is_free t.told
unfolding tells
free_line t = go t.told
  where
    go : (s : Told) → says is_free (events_as s t.station.address t.station.part) ≡ bus.is_free s
    go Silence = refl
    go Owns = refl
    go Taken = refl
    go (Failed f) = refl
    go Free = refl
    go (FailedFree f) = refl
    go Given = refl
    go Answered = refl

told_owns : (s : Told) → bus.is_owns s ≡ true → s ≡ Owns
told_owns Silence e = absurd (false≢true e)
told_owns Owns e = refl
told_owns Taken e = absurd (false≢true e)
told_owns (Failed f) e = absurd (false≢true e)
told_owns Free e = absurd (false≢true e)
told_owns (FailedFree f) e = absurd (false≢true e)
told_owns Given e = absurd (false≢true e)
told_owns Answered e = absurd (false≢true e)

-- inside a transfer: it owns the wire or has left it now
holds_inside : (b : Bus) (i : ℕ) → Holds b i → meets InTransfer (turn_at b i) ≡ true
unfolding in_transfer
holds_inside b i (inl o) = rw o
holds_inside b i (inr f) = rw (sym (free_line (turn_at b i)) ∙ f) (go (owner (station_at b i).phase))
  where
    go : (o : Bool) → cond o true true ≡ true
    go true = refl
    go false = refl

inside_holds : (b : Bus) (i : ℕ) → meets InTransfer (turn_at b i) ≡ true → Holds b i
unfolding in_transfer
inside_holds b i e = go (owner (station_at b i).phase) refl e
  where
    go : (o : Bool) → owner (station_at b i).phase ≡ o → cond o true (bus.is_free (turn_at b i).told) ≡ true → Holds b i
    go true q e = inl q
    go false q e = inr (free_line (turn_at b i) ∙ e)

-- ---- a slot

module _ (b : Bus) (h : Sound) where
  began_slot : (slot_heard b h).began ≡ cond (there_is (slot_heard b h) ToldOwns) (slot_heard b h).slot b.began
  unfolding slot_heard there_is first_of attached_to
  began_slot = refl

  -- while one owns the wire nobody comes to own it: who is admitted has heard nothing since AA, and an owner has heard its address
  nobody_wins : Reachable b → (i : ℕ) → i < attached_to b → owner (station_at b i).phase ≡ true → there_is (slot_heard b h) ToldOwns ≡ false
  nobody_wins r i l o =
      let w = reachable_shared r in
      asked_each ToldOwns (slot_heard b h) (whole_slot b h w.array) (λ j k. go w j (rw (attached_slot b h) at k))
    where
      heard_both : {a : ℕ} {f : FirstHeard} → f ≡ first a → f ≡ nothing → ⊥
      heard_both e g = let z : ◌≡◌ {A = ℕ} 0 1 = cc in omega arith

      go : (w : Shared b) (j : ℕ) → j < attached_to b → bus.is_owns (turn_at (slot_heard b h) j).told ≡ false
      go w j k = by (bus.is_owns (turn_at (slot_heard b h) j).told) refl
        where
          s : Station
          s = ready (station_at b j)

          by : (t : Bool) → bus.is_owns (turn_at (slot_heard b h) j).told ≡ t → t ≡ false
          by false e = refl
          by true e =
              let told : (hears s h).told ≡ Owns = ap (λ (t : Turn). t.told) (sym (slot_seat b h j w.array k)) ∙ told_owns _ e in
              let admitted = (bidder_admitted s (owns_only_if s {h = h} told).0).0 in
              absurd (heard_both ((w.each i l).owns o) ((ready_follows (station_at b j) (w.each j k)).admitted admitted))

-- ---- the recount

not_owns : {t : Told} → NotOfOwnership t → bus.is_owns t ≡ false
not_owns of_nothing = refl
not_owns of_taken = refl
not_owns of_failed = refl
not_owns of_given = refl
not_owns of_answer = refl

not_free : {t : Told} → NotOfOwnership t → bus.is_free t ≡ false
not_free of_nothing = refl
not_free of_taken = refl
not_free of_failed = refl
not_free of_given = refl
not_free of_answer = refl

-- owner before, told, owner after: it counts from 0 where it came to own the wire, and on where it owned it
counts : {x z : Bool} {t : Told} (now n : ℕ) → Ownership x t z → (t ≡ Owns → now ≡ 0) → (x ≡ true → now ≡ (n + 1) % 2 ^ 32)
    → (z ≡ true) ⊎ (bus.is_free t ≡ true) → now ≡ cond (bus.is_owns t) 0 (n + 1) % 2 ^ 32
counts now n gained won on w = won refl
counts now n released won on w = on refl
counts now n failed_and_left won on w = on refl
counts now n (as_it_was {o = true} k) won on w = rw (not_owns k) (on refl)
counts now n (as_it_was {o = false} k) won on w =
    absurd (⊎_elim (λ e. false≢true e) (λ e. false≢true (sym (not_free k) ∙ e)) w)

-- a seat that holds the wire has held it for so many slots
record Held (i n : ℕ) (b : Bus) : Type 0 where
  reached : Reachable b
  number : b.slot < 2 ^ 32
  begun : b.began < 2 ^ 32
  held : i < attached_to b → Holds b i → since_owns b ≡ n % 2 ^ 32

one_later : (s c n : ℕ) → (s + c) % 2 ^ 32 ≡ n % 2 ^ 32 → ((s + 1) % 2 ^ 32 + c) % 2 ^ 32 ≡ (n + 1) % 2 ^ 32
one_later s c n e =
    let f : s + 1 + c ≡ s + c + 1 = omega arith in
    mod-add-mod (s + 1) (2 ^ 32) c ∙ ap (λ (k : ℕ). k % 2 ^ 32) f ∙ sym (mod-add-mod (s + c) (2 ^ 32) 1)
    ∙ ap (λ (k : ℕ). (k + 1) % 2 ^ 32) e ∙ mod-add-mod n (2 ^ 32) 1

just_begun : (s : ℕ) → s < 2 ^ 32 → (s + (2 ^ 32 - s)) % 2 ^ 32 ≡ 0
just_begun s h = let e : s + (2 ^ 32 - s) ≡ 2 ^ 32 = omega arith in rw e

module _ {i n : ℕ} (b : Bus) (h : Sound) (r : Reachable (slot_heard b h)) (w : Held i n b) where
  abbrev next : Bus
  next = slot_heard b h

  numbered : next.slot < 2 ^ 32
  unfolding slot_heard
  numbered = omega arith

  begun_small : next.began < 2 ^ 32
  begun_small = rw (began_slot b h) (go (there_is next ToldOwns))
    where
      go : (t : Bool) → cond t next.slot b.began < 2 ^ 32
      go true = numbered
      go false = w.begun

  -- it is told owns: this is the slot
  won_now : i < attached_to b → (turn_at next i).told ≡ Owns → since_owns next ≡ 0
  won_now l e =
      let there = asked_one ToldOwns next (whole_slot b h (reachable_shared w.reached).array) i (rw (attached_slot b h) l) (ap bus.is_owns e) in
      let began : next.began ≡ next.slot = began_slot b h ∙ ap (λ (t : Bool). cond t next.slot b.began) there in
      ap (λ (k : ℕ). (next.slot + (2 ^ 32 - k)) % 2 ^ 32) began ∙ just_begun next.slot numbered

  -- it owned the wire as the slot began: one slot more
  held_on : i < attached_to b → owner (station_at b i).phase ≡ true → since_owns next ≡ (n + 1) % 2 ^ 32
  unfolding slot_heard
  held_on l o =
      let began : next.began ≡ b.began = began_slot b h ∙ ap (λ (t : Bool). cond t next.slot b.began) (nobody_wins b h w.reached i l o) in
      ap (λ (k : ℕ). ((b.slot + 1) % 2 ^ 32 + (2 ^ 32 - k)) % 2 ^ 32) began
      ∙ one_later b.slot (2 ^ 32 - b.began) n (w.held l (inl o))

  slot_held : Held i (cond (says is_owns (tells (turn_at next i))) 0 (n + 1)) next
  slot_held = record { reached = r; number = numbered; begun = begun_small; held = λ l k. go (rw (attached_slot b h) at l) k }
    where
      go : i < attached_to b → Holds next i → since_owns next ≡ cond (says is_owns (tells (turn_at next i))) 0 (n + 1) % 2 ^ 32
      go l k =
          let shared = reachable_shared w.reached in
          let s = station_at b i in
          let seat = slot_seat b h i shared.array l in
          let own : Ownership (owner s.phase) (turn_at next i).told (owner (station_at next i).phase) =
          subst (λ (t : Turn). Ownership (owner s.phase) t.told (owner t.station.phase)) (sym seat)
          (rw (ready_ownership s) at (ownership (ready s) h (ready_possible s (shared.each i l).possible))) in
          let free = ⊎_elim (λ e. inl e) (λ e. inr (sym (free_line (turn_at next i)) ∙ e)) k in
          counts (since_owns next) n own (won_now l) (held_on l) free
          ∙ ap (λ (t : Bool). cond t 0 (n + 1) % 2 ^ 32) (sym (owns_line (turn_at next i)))

-- ---- a call that is no slot

-- told as before, and in the phase that it was in
same_holds : (b c : Bus) (i : ℕ) → (station_at c i).phase ≡ (station_at b i).phase → (turn_at c i).told ≡ (turn_at b i).told → Holds c i → Holds b i
unfolding in_transfer
same_holds b c i p t w =
    inside_holds b i
    (ap (λ (q : Phase). cond (owner q) true (bus.is_free (turn_at b i).told)) (sym p)
    ∙ ap (λ (s : Told). cond (owner (station_at c i).phase) true (bus.is_free s)) (sym t) ∙ holds_inside c i w)

newcomer_outside : (a : ℕ) (m : Bool) → in_transfer (newcomer a m) ≡ false
unfolding in_transfer newcomer fresh
newcomer_outside a m = refl

newcomer_holds_not : (b : Bus) (i a : ℕ) (m : Bool) → turn_at b i ≡ newcomer a m → Holds b i → ⊥
newcomer_holds_not b i a m e w = false≢true (sym (newcomer_outside a m) ∙ ap in_transfer (sym e) ∙ holds_inside b i w)

seat_held : {b : Bus} {i : ℕ} {t : Turn} → Seat b i t → (c : Bus) → turn_at c i ≡ t → Holds c i → (i < attached_to b) × Holds b i
seat_held {b} {i} (seats.as_it_was l) c e w =
    (l, same_holds b c i (ap (λ (t : Turn). t.station.phase) e) (ap (λ (t : Turn). t.told) e) w)
seat_held {b} {i} (newly_taken a m) c e w = absurd (newcomer_holds_not c i a m e w)
seat_held {b} {i} (holds_more l t _) c e w =
    (l, same_holds b c i (ap (λ (t : Turn). t.station.phase) e) (ap (λ (t : Turn). t.told) e) w)
seat_held {b} {i} (answers_more l t _) c e w =
    (l, same_holds b c i (ap (λ (t : Turn). t.station.phase) e) (ap (λ (t : Turn). t.told) e) w)

-- slot number and owns slot are as they were
record SameTimes (b c : Bus) : Type 0 where
  slot : c.slot ≡ b.slot
  began : c.began ≡ b.began

answer_times : {b : Bus} {c : Call} {x : Answer} → Did b c x → SameTimes b x.bus
answer_times (refused r) = record { slot = refl; began = refl }
answer_times (attached _ _ _ _) = record { slot = refl; began = refl }
answer_times (queued _ _ _) = record { slot = refl; began = refl }
answer_times (replied _ _ _) = record { slot = refl; began = refl }

answer_held : {i n : ℕ} {b : Bus} {c : Call} {x : Answer} → Did b c x → Reachable x.bus → Held i n b → Held i n x.bus
answer_held {i} {n} {b} {c} {x} d r w =
    let t = answer_times d in
    let whole = (reachable_shared w.reached).array in
    record {
      reached = r;
      number = rw t.slot w.number;
      begun = rw t.began w.begun;
      held = λ l k.
          let was = seat_held (seat_after d whole i l) x.bus refl k in
          ap (λ (s : ℕ). (s + (2 ^ 32 - x.bus.began)) % 2 ^ 32) t.slot
          ∙ ap (λ (s : ℕ). (b.slot + (2 ^ 32 - s)) % 2 ^ 32) t.began ∙ w.held was.0 was.1;
    }

-- ---- any calls

call_held : {i n : ℕ} (b : Bus) (c : Call) → ByteCall c → Held i n b
    → Held i (counted_on c (says is_owns (tells (turn_at (after_call b c) i))) n) (after_call b c)
unfolding slot_run
call_held b (attach a m) k w = answer_held (did_attach b a m) (reachable_more (attach a m) w.reached k) w
call_held b (queue qq zz pb sb bytes) k w = answer_held (did_queue b qq zz pb sb bytes) (reachable_more (queue qq zz pb sb bytes) w.reached k) w
call_held b (reply a pb sb bytes) k w = answer_held (did_reply b a pb sb bytes) (reachable_more (reply a pb sb bytes) w.reached k) w
call_held b slot k w = slot_held b (spoken b) (reachable_more slot w.reached k) w
call_held b (heard h) k w = slot_held b h (reachable_more (heard h) w.reached k) w

calls_held : (i n : ℕ) (b : Bus) (cs : List Call) → ByteCalls cs → Held i n b → Held i (recount i b n cs) (after_calls b cs)
unfolding after_calls recount
calls_held i n b [] k w = w
calls_held i n b (c ∷ cs) k w = calls_held i (counted_on c (says is_owns (tells (turn_at (after_call b c) i))) n) (after_call b c) cs k.1 (call_held b c k.0 w)

on_held : (i : ℕ) → Held i 0 powered_on
unfolding powered_on attached_to
on_held i = record { reached = on_reachable; number = omega arith; begun = omega arith; held = λ l k. absurd (not-suc-le-zero l) }

-- ---- what an event carries

-- all events of a slot carry the slot's time
of_time : (time : Time) (l : Line) (es : List Event) → Memᴰ l (map (line time) es) → l.time ≡ time
of_time time l [] m = absurd (Memᴰ.not-nil m)
of_time time l (e ∷ es) m = ⊎_elim (λ q. ap (λ (x : Line). x.time) q) (λ k. of_time time l es k) (Memᴰ.cases_cons m)

carries : (b : Bus) (l : Line) → Memᴰ l (events b) → l.time ≡ time_of b
unfolding events
carries b l m = of_time (time_of b) l (tellings b) m

time_slot : (b : Bus) → (time_of b).slot ≡ b.slot
unfolding time_of
time_slot b = refl

time_inside : (b : Bus) → there_is b InTransfer ≡ true → (time_of b).elapsed ≡ since_owns b
unfolding time_of elapsed
time_inside b e = rw e

time_outside : (b : Bus) → there_is b InTransfer ≡ false → (time_of b).elapsed ≡ 0
unfolding time_of elapsed
time_outside b e = rw e

-- after any calls, every event that the last slot handed out
calls_are_true : (cs : List Call) → ByteCalls cs → (l : Line) → Memᴰ l (events (after_calls powered_on cs)) → TrueTime cs l
calls_are_true cs k l m =
    let b = after_calls powered_on cs in
    let whole = (reachable_shared (by_calls cs k)).array in
    let e = carries b l m in
    record {
      slot = ap (λ (t : Time). t.slot) e ∙ time_slot b ∙ slots_counted cs;
      inside = λ i h w.
          ap (λ (t : Time). t.elapsed) e ∙ time_inside b (asked_one InTransfer b whole i h (holds_inside b i w))
          ∙ (calls_held i 0 powered_on cs k (on_held i)).held h w;
      outside = λ none.
          ap (λ (t : Time). t.elapsed) e
          ∙ time_outside b (asked_each InTransfer b whole (λ i h. go b none i h (meets InTransfer (turn_at b i)) refl));
    }
  where
    go : (b : Bus) → ((i : ℕ) → i < attached_to b → Holds b i → ⊥) → (i : ℕ) → i < attached_to b → (t : Bool) → meets InTransfer (turn_at b i) ≡ t → t ≡ false
    go b none i h true e = absurd (none i h (inside_holds b i e))
    go b none i h false e = refl

-- after any calls and runs from power-on, every event that the last slot handed out
pub elapsed_is_true : (us : List Use) → ByteUses us → (l : Line) → Memᴰ l (events (after_uses powered_on us)) → TrueTime (calls_in powered_on us) l
elapsed_is_true us k l m =
    calls_are_true (calls_in powered_on us) (uses_bytes powered_on us k) l
    (subst (λ (b : Bus). Memᴰ l (events b)) (sym (uses_are_calls powered_on us)) m)
