-- Who sits in a seat, which telegrams it holds, oldest first, and what it answers is what the calls brought and the free lines let go.
-- Assumes nothing.
use mathlib.Core.Path.{◌≡◌, refl, sym, ap, ap₂, subst, ◌∙◌, fun_ext}
use mathlib.Core.Bool.{Bool, true, false, cond, false≢true}
use mathlib.Core.List.{List, [], ◌∷◌, ◌++◌}
use mathlib.Core.Logic.{inl, inr}
use Prim.Native.Nat.{ℕ, zero, suc, ◌+◌, ◌≤◌, ◌<◌}
use native.Mathlib.Omega.{arith}
use native.Mathlib.Nat.{not-suc-le-zero, le_of_suc-le-suc}
use native.Mathlib.Decide.{ℕ_discrete}
use borrow.Author.Tests.{eq-eqb, eqb-true, eqb-false}
use lib.Dec.{eqb}
use lib.ListN.{length, get_or, length-append, get_or-append}
use lib.Seq.{get_or_at}
use Rattle.address.specs.Master.{slave_of}
use Rattle.wire.specs.Load.{load_of}
use Rattle.wire.specs.declared.part.Telegram.{Telegram}
use Rattle.station.specs.Addressed.{is_own}
use Rattle.station.specs.Outbox.{waiting}
use Rattle.station.specs.Replies.{no_entries, written, answer_for}
use Rattle.station.specs.Station.{fresh, ready}
use Rattle.station.specs.declared.outbox.Outbox.{Outbox}
use Rattle.station.specs.declared.phase.Sound.{Sound}
use Rattle.station.specs.declared.replies.Reply.{Reply}
use Rattle.station.specs.declared.station.Turn.{Turn}
use Rattle.station.proofs.Book.{written_answers, written_others, none_missing, missing_answer}
use Rattle.station.proofs.Frame.{ready_lasting, ready_outbox, hears_lasting, outbox_after_lem}
use Rattle.station.proofs.Waiting.{none_waiting}
use Rattle.bus.specs.declared.bus.Bus.{Bus}
use Rattle.bus.specs.Bus.{Answer}
use Rattle.std.specs.Prelude.{Result, Ok, Err, ⊤}
use Rattle.bus.specs.declared.refusal.Refusal.{Refusal}
use Rattle.bus.specs.Attach.{newcomer}
use Rattle.bus.specs.Bus.{powered_on, attached_to, turn_at, with_bits}
use Rattle.bus.specs.Conditions.{MasterAt, SlaveAt}
use Rattle.bus.specs.Slot.{spoken, turned, slot_heard, slot_run}
use Rattle.bus.proofs.DoneChanges.{Queued, Replied, queue_done, reply_done}
use Rattle.bus.proofs.Reflects.{first_holds}
use Rattle.promises.specs.Accepted.{telegram_of}
use Rattle.promises.specs.Calls.{Call, attach, queue, reply, slot, heard, after_call, after_calls, ByteCalls, Reachable}
use Rattle.promises.specs.Fit.{station_at}
use Rattle.promises.specs.Slots.{verdict_on}
use Rattle.promises.proofs.AcceptedHeld.{queued_waits, turn_there}
use Rattle.promises.proofs.Shared.FitKept.{reachable_fit, one_address}
use Rattle.promises.proofs.Shared.Stations.{reachable_sane}
use Rattle.promises.proofs.Shared.Uses.{on_reachable, reachable_more}
use Rattle.promises.proofs.Refused.{refused_changes_nothing}
use Rattle.promises.proofs.Shared.Seats.{Did, refused, attached, queued, replied, with_newcomer, holding_more, answering_more, attached_turn, turn_same, turn_other, attached_before, attached_newcomer, newcomer_seat, other_seat, did_attach, did_queue, did_reply, attached_slot, slot_seat}
use Rattle.history.specs.Held.{is_done, Who, attached_after, in_seat, is_source, is_slave, held_after, no_answers, answers_with, answers_after}
use Rattle.history.specs.Lines.{left_by}
use Rattle.history.specs.Moments.{Answers, History}
use Rattle.history.specs.Observer.{Report, silence, owns, taken, free, given, answered, failed, failed_free, report_of}
use Rattle.history.specs.Seen.{Known, unknown, known_call, known_calls, known, held_by, answers_by, nobody, station_by}
use Rattle.history.proofs.HandsOut.{left_are}

-- ---- the stations

abbrev pub who_of : Turn → Who
who_of t = record { address = t.station.address; master = t.station.master }

-- these are the attached stations, in attach order
pub record Seated (b : Bus) (ws : List Who) : Type 0 where
  pub count : length ws ≡ attached_to b
  pub each : (j : ℕ) → j < attached_to b → get_or ws j nobody ≡ who_of (turn_at b j)

in_seat_lem : (i : ℕ) (ws : List Who) (f : Who → Bool) → i < length ws → in_seat i ws f ≡ f (get_or ws i nobody)
in_seat_lem i [] f l = absurd (not-suc-le-zero l)
in_seat_lem zero (w ∷ ws) f l = refl
in_seat_lem (suc i) (w ∷ ws) f l = in_seat_lem i ws f (le_of_suc-le-suc l)

no_seat : (i : ℕ) (ws : List Who) (f : Who → Bool) → length ws ≤ i → in_seat i ws f ≡ false
no_seat i [] f l = refl
no_seat zero (w ∷ ws) f l = absurd (not-suc-le-zero l)
no_seat (suc i) (w ∷ ws) f l = no_seat i ws f (le_of_suc-le-suc l)

its_seat : {b : Bus} {ws : List Who} → Seated b ws → (i : ℕ) → i < attached_to b → (f : Who → Bool) → in_seat i ws f ≡ f (who_of (turn_at b i))
its_seat {b} {ws} w i l f = in_seat_lem i ws f (omega (arith, w.count)) ∙ ap f (w.each i l)

new_who : (a : ℕ) (m : Bool) → who_of (newcomer a m) ≡ record { address = a; master = m }
unfolding newcomer fresh
new_who a m = refl

turn_seated : (b : Bus) (r : Reachable b) {ws : List Who} (j : ℕ) (t : Turn) (bits : ℕ) → who_of t ≡ who_of (turn_at b j) → Seated b ws → Seated (with_bits b j t bits) ws
turn_seated b r {ws} j t bits same w =
    record { count = w.count ∙ sym (attached_turn b j t bits); each = λ i l. by i (rw (attached_turn b j t bits) at l) (ℕ_discrete i j) }
  where
    by : (i : ℕ) → i < attached_to b → Dec (i ≡ j) → get_or ws i nobody ≡ who_of (turn_at (with_bits b j t bits) i)
    by i l (yes e) =
        let k : j < attached_to b = omega arith in
        w.each i l ∙ ap (λ (n : ℕ). who_of (turn_at b n)) e ∙ sym same ∙ ap who_of (sym (turn_same b j t bits (reachable_fit r).array k))
        ∙ ap (λ (n : ℕ). who_of (turn_at (with_bits b j t bits) n)) (sym e)
    by i l (no d) = w.each i l ∙ ap who_of (sym (turn_other b j i t bits d))

module _ (b : Bus) (r : Reachable b) {ws : List Who} (w : Seated b ws) where
  attach_seated : {a : ℕ} {m : Bool} {x : Answer} → Did b (attach a m) x
      → Seated x.bus (cond (is_done x.verdict) (ws ++ (record { address = a; master = m } ∷ [])) ws)
  attach_seated (refused _) = w
  attach_seated (attached {a = a} {m = m} _ _ _ room) =
      record {
        count = length-append ws (who ∷ []) ∙ ap (λ (n : ℕ). n + 1) there ∙ sym (attached_newcomer b a m room);
        each = λ j l. by j (rw (attached_newcomer b a m room) at l) (ℕ_discrete j b.count);
      }
    where
      who : Who
      who = record { address = a; master = m }

      there : length ws ≡ b.count
      there = w.count ∙ attached_before b room

      by : (j : ℕ) → j < b.count + 1 → Dec (j ≡ b.count) → get_or (ws ++ (who ∷ [])) j nobody ≡ who_of (turn_at (with_newcomer b a m) j)
      by j l (yes e) =
          get_or_at ws who [] nobody j (there ∙ sym e) ∙ sym (new_who a m) ∙ ap who_of (sym (newcomer_seat b a m (reachable_fit r).array room))
          ∙ ap (λ (n : ℕ). who_of (turn_at (with_newcomer b a m) n)) (sym e)
      by j l (no d) =
          get_or-append ws (who ∷ []) nobody j (omega (arith, there))
          ∙ w.each j (omega (arith, attached_before b room)) ∙ ap who_of (sym (other_seat b a m j d))

  queue_seated : {qq zz pb sb : ℕ} {bytes : List ℕ} {x : Answer} → Did b (queue qq zz pb sb bytes) x → Seated x.bus ws
  queue_seated (refused _) = w
  queue_seated (queued {bits = n} j t _) = turn_seated b r j (holding_more (turn_at b j) t) n refl w

  reply_seated : {a pb sb : ℕ} {bytes : List ℕ} {x : Answer} → Did b (reply a pb sb bytes) x → Seated x.bus ws
  reply_seated (refused _) = w
  reply_seated (replied {bits = n} j e _) = turn_seated b r j (answering_more (turn_at b j) e) n refl w

  slot_seated : (h : Sound) → Seated (slot_heard b h) ws
  slot_seated h =
      record { count = w.count ∙ sym (attached_slot b h); each = λ j l. by j (rw (attached_slot b h) at l) }
    where
      by : (j : ℕ) → j < attached_to b → get_or ws j nobody ≡ who_of (turn_at (slot_heard b h) j)
      by j l =
          let s = station_at b j in
          w.each j l
          ∙ ap₂ (λ (a : ℕ) (m : Bool). record { address = a; master = m })
          (sym ((hears_lasting (ready s) h).address ∙ (ready_lasting s).address)) (sym ((hears_lasting (ready s) h).master ∙ (ready_lasting s).master))
          ∙ ap who_of (sym (slot_seat b h j (reachable_fit r).array l))

-- ---- an attached station

slave_own : (t : Turn) (a : ℕ) → SlaveAt a t → is_own t.station a ≡ true
unfolding is_own
slave_own t a (inl p) = rw (eq-eqb a t.station.address (sym p.1))
slave_own t a (inr p) = by (eqb a t.station.address)
  where
    by : (q : Bool) → cond q true (cond t.station.master (eqb a (slave_of t.station.address)) false) ≡ true
    by true = refl
    by false = rw p.0 (eq-eqb a (slave_of t.station.address) (sym p.1))

module _ (b : Bus) (r : Reachable b) (i : ℕ) (l : i < attached_to b) where
  abbrev holds : Bus → List Telegram
  holds c = waiting (station_at c i).outbox

  abbrev gives : Bus → Answers
  gives c = answer_for (station_at c i).replies

  abbrev its : Who
  its = who_of (turn_at b i)

  -- the telegram held longest leaves where free is told; answers are as they were
  pub slot_held : (h : Sound) → holds (slot_heard b h) ≡ left_by (report_of (turn_at (slot_heard b h) i).told) (holds b)
  slot_held h =
      let s = station_at b i in
      let same : turn_at (slot_heard b h) i ≡ turned h (turn_at b i) = slot_seat b h i (reachable_fit r).array l in
      ap (λ (t : Turn). waiting t.station.outbox) same
      ∙ ap waiting (outbox_after_lem (ready s) h) ∙ left_are (turned h (turn_at b i)).told (ready s).outbox (rw (ready_outbox s) (reachable_sane r i l).outbox)
      ∙ ap (λ (o : Outbox). left_by (report_of (turned h (turn_at b i)).told) (waiting o)) (ready_outbox s)
      ∙ ap (λ (t : Turn). left_by (report_of t.told) (holds b)) (sym same)

  slot_gives : (h : Sound) → gives (slot_heard b h) ≡ gives b
  slot_gives h =
      let s = station_at b i in
      ap (λ (t : Turn). answer_for t.station.replies) (slot_seat b h i (reachable_fit r).array l)
      ∙ ap answer_for ((hears_lasting (ready s) h).replies ∙ (ready_lasting s).replies)

  -- a call about one seat leaves what it is not about
  kept_turn : {A : Type 0} (f : Turn → A) (j : ℕ) (t : Turn) (bits : ℕ) → f t ≡ f (turn_at b j) → f (turn_at (with_bits b j t bits) i) ≡ f (turn_at b i)
  kept_turn f j t bits e = by (ℕ_discrete i j)
    where
      by : Dec (i ≡ j) → f (turn_at (with_bits b j t bits) i) ≡ f (turn_at b i)
      by (yes q) =
          let k : j < attached_to b = omega arith in
          ap (λ (n : ℕ). f (turn_at (with_bits b j t bits) n)) q ∙ ap f (turn_same b j t bits (reachable_fit r).array k) ∙ e ∙ ap (λ (n : ℕ). f (turn_at b n)) (sym q)
      by (no d) = ap f (turn_other b j i t bits d)

  attach_keeps : {A : Type 0} (f : Turn → A) {a : ℕ} {m : Bool} {x : Answer} → Did b (attach a m) x → f (turn_at x.bus i) ≡ f (turn_at b i)
  attach_keeps f (refused _) = refl
  attach_keeps f (attached {a = a} {m = m} _ _ _ room) = ap f (other_seat b a m i (λ e. omega (arith, attached_before b room)))

  reply_held : {a pb sb : ℕ} {bytes : List ℕ} {x : Answer} → Did b (reply a pb sb bytes) x → holds x.bus ≡ holds b
  reply_held (refused _) = refl
  reply_held (replied {bits = n} j e _) = kept_turn (λ (t : Turn). waiting t.station.outbox) j (answering_more (turn_at b j) e) n refl

  queue_gives : {qq zz pb sb : ℕ} {bytes : List ℕ} {x : Answer} → Did b (queue qq zz pb sb bytes) x → gives x.bus ≡ gives b
  queue_gives (refused _) = refl
  queue_gives (queued {bits = n} j t _) = kept_turn (λ (t : Turn). answer_for t.station.replies) j (holding_more (turn_at b j) t) n refl

  -- queue
  is_source_lem : {qq : ℕ} → MasterAt qq (turn_at b i) → is_source qq its ≡ true
  is_source_lem {qq} w = rw (w.0, eq-eqb (station_at b i).address qq w.1)

  source_is : {qq : ℕ} → is_source qq its ≡ true → (station_at b i).address ≡ qq
  source_is {qq} e = by (station_at b i).master e
    where
      by : (m : Bool) → cond m (eqb (station_at b i).address qq) false ≡ true → (station_at b i).address ≡ qq
      by true e = eqb-true (station_at b i).address qq e
      by false e = absurd (false≢true e)

  queue_held : (qq zz pb sb : ℕ) (bytes : List ℕ)
      → holds (after_call b (queue qq zz pb sb bytes))
      ≡ cond (cond (is_done (verdict_on b (queue qq zz pb sb bytes))) (is_source qq its) false) (holds b ++ (telegram_of qq zz pb sb bytes ∷ [])) (holds b)
  queue_held qq zz pb sb bytes = by (verdict_on b c) refl
    where
      c : Call
      c = queue qq zz pb sb bytes

      more : List Telegram
      more = holds b ++ (telegram_of qq zz pb sb bytes ∷ [])

      done_at : verdict_on b c ≡ Ok tt → (q : Bool) → is_source qq its ≡ q → holds (after_call b c) ≡ cond q more (holds b)
      done_at e q f =
          let w = queued_waits r qq zz pb sb bytes e in
          let d = queue_done b qq zz pb sb bytes e in
          seat q f w d (ℕ_discrete i w.0)
        where
          seat : (q : Bool) → is_source qq its ≡ q
              → (w : (j : ℕ) × (j < attached_to b) × MasterAt qq (turn_at b j)
              × (waiting (station_at (after_call b c) j).outbox ≡ waiting (station_at b j).outbox ++ (telegram_of qq zz pb sb bytes ∷ [])))
              → Queued b qq (telegram_of qq zz pb sb bytes) (after_call b c) → Dec (i ≡ w.0) → holds (after_call b c) ≡ cond q more (holds b)
          seat q f w d (yes j) =
              let mine : MasterAt qq (turn_at b i) = subst (λ (n : ℕ). MasterAt qq (turn_at b n)) (sym j) w.2 in
              let yes-it : true ≡ q = sym (is_source_lem mine) ∙ f in
              subst (λ (n : ℕ). waiting (station_at (after_call b c) n).outbox ≡ waiting (station_at b n).outbox ++ (telegram_of qq zz pb sb bytes ∷ [])) (sym j) w.3
              ∙ ap (λ (q : Bool). cond q more (holds b)) yes-it
          seat true f w d (no n) =
              absurd (n (one_address (reachable_fit r) i w.0 l w.1 (source_is f ∙ sym w.2.1)))
          seat false f w d (no n) =
              let p : d.place ≡ w.0 = one_address (reachable_fit r) d.place w.0 d.attached w.1 ((first_holds d.source).1 ∙ sym w.2.1) in
              ap (λ (t : Turn). waiting t.station.outbox) (d.changed.others i (λ e. n (e ∙ p)))

      by : (v : Result ⊤ Refusal) → verdict_on b c ≡ v → holds (after_call b c) ≡ cond (cond (is_done v) (is_source qq its) false) more (holds b)
      by (Ok tt) e = done_at e (is_source qq its) refl
      by (Err x) e = ap holds (refused_changes_nothing b c e)

  -- reply
  slave_is : {a : ℕ} → is_slave a its ≡ true → SlaveAt a (turn_at b i)
  slave_is {a} e = by (station_at b i).master refl (eqb-true (cond (station_at b i).master (slave_of (station_at b i).address) (station_at b i).address) a e)
    where
      by : (m : Bool) → (station_at b i).master ≡ m → cond m (slave_of (station_at b i).address) (station_at b i).address ≡ a → SlaveAt a (turn_at b i)
      by true f g = inr (f, g)
      by false f g = inl (f, g)

  is_slave_lem : {a : ℕ} → SlaveAt a (turn_at b i) → is_slave a its ≡ true
  is_slave_lem {a} (inl p) = rw p.0 (eq-eqb (station_at b i).address a p.1)
  is_slave_lem {a} (inr p) = rw p.0 (eq-eqb (slave_of (station_at b i).address) a p.1)

  one_slave : (a j : ℕ) → SlaveAt a (turn_at b i) → j < attached_to b → SlaveAt a (turn_at b j) → i ≡ j
  one_slave a j w k v = (reachable_fit r).apart i j a l k (slave_own (turn_at b i) a w) (slave_own (turn_at b j) a v)

  reply_gives : (a pb sb : ℕ) (bytes : List ℕ)
      → gives (after_call b (reply a pb sb bytes))
      ≡ cond (cond (is_done (verdict_on b (reply a pb sb bytes))) (is_slave a its) false) (answers_with (gives b) pb sb (load_of bytes)) (gives b)
  reply_gives a pb sb bytes = by (verdict_on b c) refl
    where
      c : Call
      c = reply a pb sb bytes

      e : Reply
      e = record { pb = pb; sb = sb; load = load_of bytes }

      more : Answers
      more = answers_with (gives b) pb sb (load_of bytes)

      here : (d : Replied b a e (after_call b c)) → i ≡ d.place → (p s : ℕ) → gives (after_call b c) p s ≡ more p s
      here d j p s = after ∙ by_test (eqb pb p) refl (eqb sb s) refl
        where
          after : gives (after_call b c) p s ≡ answer_for (written (station_at b i).replies e).book p s
          after =
              ap (λ (n : ℕ). answer_for (station_at (after_call b c) n).replies p s) j
              ∙ ap (λ (t : Turn). answer_for t.station.replies p s) (turn_there r d.attached d.changed)
              ∙ ap (λ (n : ℕ). answer_for (written (station_at b n).replies e).book p s) (sym j)

          by_test : (t : Bool) → eqb pb p ≡ t → (q : Bool) → eqb sb s ≡ q
              → answer_for (written (station_at b i).replies e).book p s ≡ cond (cond t q false) (load_of bytes) (gives b p s)
          by_test true f true g =
              ap₂ (λ (x y : ℕ). answer_for (written (station_at b i).replies e).book x y) (sym (eqb-true pb p f)) (sym (eqb-true sb s g))
              ∙ written_answers (station_at b i).replies e (reachable_sane r i l).book
              (subst (λ (n : ℕ). (written (station_at b n).replies e).taken ≡ true) (sym j) d.accepts)
          by_test true f false g = written_others (station_at b i).replies e (reachable_sane r i l).book p s (λ z. eqb-false sb s g z.1)
          by_test false f q g = written_others (station_at b i).replies e (reachable_sane r i l).book p s (λ z. eqb-false pb p f z.0)

      done_at : Replied b a e (after_call b c) → (q : Bool) → is_slave a its ≡ q → gives (after_call b c) ≡ cond q more (gives b)
      done_at d q f = seat q f (ℕ_discrete i d.place)
        where
          seat : (q : Bool) → is_slave a its ≡ q → Dec (i ≡ d.place) → gives (after_call b c) ≡ cond q more (gives b)
          seat q f (yes j) =
              let yes-it : true ≡ q = sym (is_slave_lem (subst (λ (n : ℕ). SlaveAt a (turn_at b n)) (sym j) (first_holds d.station))) ∙ f in
              fun_ext (λ p. fun_ext (λ s. here d j p s)) ∙ ap (λ (q : Bool). cond q more (gives b)) yes-it
          seat true f (no n) = absurd (n (one_slave a d.place (slave_is f) d.attached (first_holds d.station)))
          seat false f (no n) = ap (λ (t : Turn). answer_for t.station.replies) (d.changed.others i n)

      by : (v : Result ⊤ Refusal) → verdict_on b c ≡ v → gives (after_call b c) ≡ cond (cond (is_done v) (is_slave a its) false) more (gives b)
      by (Ok tt) v = done_at (reply_done b a pb sb bytes v) (is_slave a its) refl
      by (Err x) v = ap gives (refused_changes_nothing b c v)

  -- after any call
  module _ {ws : List Who} (w : Seated b ws) where
    pub held_after_lem : (c : Call) → holds (after_call b c) ≡ held_after b i ws (holds b) c
    unfolding slot_run
    held_after_lem (attach a m) = attach_keeps (λ (t : Turn). waiting t.station.outbox) (did_attach b a m)
    held_after_lem (queue qq zz pb sb bytes) =
        queue_held qq zz pb sb bytes
        ∙ ap (λ (q : Bool). cond (cond (is_done (verdict_on b (queue qq zz pb sb bytes))) q false) (holds b ++ (telegram_of qq zz pb sb bytes ∷ [])) (holds b))
        (sym (its_seat w i l (is_source qq)))
    held_after_lem (reply a pb sb bytes) = reply_held (did_reply b a pb sb bytes)
    held_after_lem slot = slot_held (spoken b)
    held_after_lem (heard h) = slot_held h

    pub answers_after_lem : (c : Call) → gives (after_call b c) ≡ answers_after b i ws (gives b) c
    unfolding slot_run
    answers_after_lem (attach a m) = attach_keeps (λ (t : Turn). answer_for t.station.replies) (did_attach b a m)
    answers_after_lem (queue qq zz pb sb bytes) = queue_gives (did_queue b qq zz pb sb bytes)
    answers_after_lem (reply a pb sb bytes) =
        reply_gives a pb sb bytes
        ∙ ap (λ (q : Bool). cond (cond (is_done (verdict_on b (reply a pb sb bytes))) q false) (answers_with (gives b) pb sb (load_of bytes)) (gives b))
        (sym (its_seat w i l (is_slave a)))
    answers_after_lem slot = slot_gives (spoken b)
    answers_after_lem (heard h) = slot_gives h

-- ---- from power-on

left_none : (r : Report) → left_by r [] ≡ []
left_none silence = refl
left_none owns = refl
left_none taken = refl
left_none free = refl
left_none given = refl
left_none answered = refl
left_none (failed n x) = refl
left_none (failed_free n x) = refl

not_its : {A : Type 0} (d : Bool) {q : Bool} (x y : A) → q ≡ false → cond (cond d q false) x y ≡ y
not_its true x y e = rw e
not_its false x y e = refl

new_holds : (a : ℕ) (m : Bool) → waiting (newcomer a m).station.outbox ≡ []
unfolding newcomer fresh
new_holds a m = none_waiting

new_gives : (a : ℕ) (m : Bool) → answer_for (newcomer a m).station.replies ≡ no_answers
unfolding newcomer fresh
new_gives a m = fun_ext (λ pb. fun_ext (λ sb. missing_answer no_entries pb sb (none_missing pb sb)))

module _ (i : ℕ) where
  -- of seat i is known what its station holds and answers, and before it is taken nothing
  pub record Account (b : Bus) (k : Known) : Type 0 where
    pub seated : Seated b k.attached
    held_before : attached_to b ≤ i → k.held ≡ []
    answers_before : attached_to b ≤ i → k.answers ≡ no_answers
    pub held : i < attached_to b → k.held ≡ waiting (station_at b i).outbox
    pub answers : i < attached_to b → k.answers ≡ answer_for (station_at b i).replies

  module _ (b : Bus) (r : Reachable b) (k : Known) (w : Account b k) where
    abbrev ws : List Who
    ws = k.attached

    untaken : attached_to b ≤ i → (f : Who → Bool) → in_seat i ws f ≡ false
    untaken l f = no_seat i ws f (omega (arith, w.seated.count))

    none_held : attached_to b ≤ i → (c : Call) → held_after b i ws [] c ≡ []
    none_held l (attach a m) = refl
    none_held l (queue qq zz pb sb bytes) =
        not_its (is_done (verdict_on b (queue qq zz pb sb bytes))) (telegram_of qq zz pb sb bytes ∷ []) [] (untaken l (is_source qq))
    none_held l (reply a pb sb bytes) = refl
    none_held l slot = left_none (report_of (turn_at (slot_run b) i).told)
    none_held l (heard h) = left_none (report_of (turn_at (slot_heard b h) i).told)

    none_answered : attached_to b ≤ i → (c : Call) → answers_after b i ws no_answers c ≡ no_answers
    none_answered l (attach a m) = refl
    none_answered l (queue qq zz pb sb bytes) = refl
    none_answered l (reply a pb sb bytes) =
        not_its (is_done (verdict_on b (reply a pb sb bytes))) (answers_with no_answers pb sb (load_of bytes)) no_answers (untaken l (is_slave a))
    none_answered l slot = refl
    none_answered l (heard h) = refl

    -- a call that attaches nobody
    same_account : (c : Call) → attached_to (after_call b c) ≡ attached_to b → Seated (after_call b c) (attached_after b ws c)
        → Account (after_call b c) (known_call i b k c)
    same_account c e s =
        record {
          seated = s;
          held_before = λ l. let n : attached_to b ≤ i = omega arith in ap (λ (ts : List Telegram). held_after b i ws ts c) (w.held_before n) ∙ none_held n c;
          answers_before = λ l. let n : attached_to b ≤ i = omega arith in ap (λ (f : Answers). answers_after b i ws f c) (w.answers_before n) ∙ none_answered n c;
          held = λ l.
              let n : i < attached_to b = omega arith in
              ap (λ (ts : List Telegram). held_after b i ws ts c) (w.held n) ∙ sym (held_after_lem b r i n w.seated c);
          answers = λ l.
              let n : i < attached_to b = omega arith in
              ap (λ (f : Answers). answers_after b i ws f c) (w.answers n) ∙ sym (answers_after_lem b r i n w.seated c);
        }

    queue_count : {qq zz pb sb : ℕ} {bytes : List ℕ} {x : Answer} → Did b (queue qq zz pb sb bytes) x → attached_to x.bus ≡ attached_to b
    queue_count (refused _) = refl
    queue_count (queued {bits = n} j t _) = attached_turn b j (holding_more (turn_at b j) t) n

    reply_count : {a pb sb : ℕ} {bytes : List ℕ} {x : Answer} → Did b (reply a pb sb bytes) x → attached_to x.bus ≡ attached_to b
    reply_count (refused _) = refl
    reply_count (replied {bits = n} j e _) = attached_turn b j (answering_more (turn_at b j) e) n

    -- a newcomer holds nothing and has no answers
    attach_account : {a : ℕ} {m : Bool} {x : Answer} → Did b (attach a m) x → Seated x.bus (attached_after b ws (attach a m))
        → (g : History) → Account x.bus (record { attached = attached_after b ws (attach a m); held = k.held; answers = k.answers; history = g })
    attach_account (refused _) s g =
        record { seated = s; held_before = w.held_before; answers_before = w.answers_before; held = w.held; answers = w.answers }
    attach_account (attached {a = a} {m = m} _ _ _ room) s g =
        record {
          seated = s;
          held_before = λ l. w.held_before (omega (arith, attached_before b room, attached_newcomer b a m room));
          answers_before = λ l. w.answers_before (omega (arith, attached_before b room, attached_newcomer b a m room));
          held = λ l. held_in l (ℕ_discrete i b.count);
          answers = λ l. answers_in l (ℕ_discrete i b.count);
        }
      where
        held_in : i < attached_to (with_newcomer b a m) → Dec (i ≡ b.count) → k.held ≡ waiting (station_at (with_newcomer b a m) i).outbox
        held_in l (yes e) =
            w.held_before (omega (arith, attached_before b room)) ∙ sym (new_holds a m)
            ∙ ap (λ (t : Turn). waiting t.station.outbox) (sym (newcomer_seat b a m (reachable_fit r).array room))
            ∙ ap (λ (n : ℕ). waiting (station_at (with_newcomer b a m) n).outbox) (sym e)
        held_in l (no d) =
            w.held (omega (arith, attached_before b room, attached_newcomer b a m room))
            ∙ ap (λ (t : Turn). waiting t.station.outbox) (sym (other_seat b a m i d))

        answers_in : i < attached_to (with_newcomer b a m) → Dec (i ≡ b.count) → k.answers ≡ answer_for (station_at (with_newcomer b a m) i).replies
        answers_in l (yes e) =
            w.answers_before (omega (arith, attached_before b room)) ∙ sym (new_gives a m)
            ∙ ap (λ (t : Turn). answer_for t.station.replies) (sym (newcomer_seat b a m (reachable_fit r).array room))
            ∙ ap (λ (n : ℕ). answer_for (station_at (with_newcomer b a m) n).replies) (sym e)
        answers_in l (no d) =
            w.answers (omega (arith, attached_before b room, attached_newcomer b a m room))
            ∙ ap (λ (t : Turn). answer_for t.station.replies) (sym (other_seat b a m i d))

    pub account_call : (c : Call) → Account (after_call b c) (known_call i b k c)
    unfolding slot_run
    account_call (attach a m) = attach_account (did_attach b a m) (attach_seated b r w.seated (did_attach b a m)) k.history
    account_call (queue qq zz pb sb bytes) =
        same_account (queue qq zz pb sb bytes) (queue_count (did_queue b qq zz pb sb bytes)) (queue_seated b r w.seated (did_queue b qq zz pb sb bytes))
    account_call (reply a pb sb bytes) =
        same_account (reply a pb sb bytes) (reply_count (did_reply b a pb sb bytes)) (reply_seated b r w.seated (did_reply b a pb sb bytes))
    account_call slot = same_account slot (attached_slot b (spoken b)) (slot_seated b r w.seated (spoken b))
    account_call (heard h) = same_account (heard h) (attached_slot b h) (slot_seated b r w.seated h)

  pub on_account : Account powered_on unknown
  unfolding powered_on attached_to
  on_account =
      record {
        seated = record { count = refl; each = λ j l. absurd (not-suc-le-zero l) };
        held_before = λ _. refl;
        answers_before = λ _. refl;
        held = λ l. absurd (not-suc-le-zero l);
        answers = λ l. absurd (not-suc-le-zero l);
      }

  calls_account : (b : Bus) (k : Known) (cs : List Call) → Reachable b → ByteCalls cs → Account b k → Account (after_calls b cs) (known_calls i b k cs)
  unfolding after_calls known_calls
  calls_account b k [] r y w = w
  calls_account b k (c ∷ cs) r y w =
      calls_account (after_call b c) (known_call i b k c) cs (reachable_more c r y.0) y.1 (account_call b r k w c)

  pub account : (cs : List Call) → ByteCalls cs → Account (after_calls powered_on cs) (known i cs)
  account cs y = calls_account powered_on unknown cs on_reachable y on_account

-- any calls from power-on, and an attached station
module _ (cs : List Call) (bytes : ByteCalls cs) (i : ℕ) (attached : i < attached_to (after_calls powered_on cs)) where
  abbrev bus : Bus
  bus = after_calls powered_on cs

  -- it is the one of the i-th attach that was done
  pub station_by_calls : who_of (turn_at bus i) ≡ station_by i cs
  station_by_calls = sym ((account i cs bytes).seated.each i attached)

  -- it holds the telegrams that the calls brought and no free line let go
  pub held_by_calls : waiting (station_at bus i).outbox ≡ held_by i cs
  held_by_calls = sym ((account i cs bytes).held attached)

  -- its answer for PB and SB is that of the last reply call that was done for them, else NN 0
  pub answers_by_calls : (pb sb : ℕ) → answer_for (station_at bus i).replies pb sb ≡ answers_by i cs pb sb
  answers_by_calls pb sb = ap (λ (f : Answers). f pb sb) (sym ((account i cs bytes).answers attached))
