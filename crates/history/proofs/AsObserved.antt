-- Demand 2 by what is heard: after any calls from power-on, what every attached station says in the next slot, and what it is
-- told in it, whatever is heard, is what the observer says from its slots and from the calls that brought its address, its
-- telegrams and its answers; no state of the station stands there (01, "A slot" to "Release"). Assumes nothing.
use mathlib.Core.Path.{◌≡◌, refl, sym, ap, ap₂, subst, subst₂, ◌∙◌}
use mathlib.Core.Bool.{Bool, false, true≢false}
use mathlib.Core.List.{List, [], ◌∷◌}
use Prim.Native.Nat.{ℕ, ◌<◌}
use native.Mathlib.Omega.{arith}
use native.Mathlib.Nat.{not-suc-le-zero}
use native.Mathlib.Decide.{ℕ_discrete}
use Rattle.station.specs.Events.{tells}
use Rattle.wire.specs.declared.part.Telegram.{Telegram}
use Rattle.station.specs.Outbox.{waiting}
use Rattle.station.specs.Replies.{answer_for}
use Rattle.station.specs.Station.{fresh, ready}
use Rattle.station.specs.declared.phase.Sound.{Sound}
use Rattle.station.specs.declared.station.Station.{Station}
use Rattle.station.specs.declared.station.Turn.{Turn}
use Rattle.station.proofs.Frame.{ready_lasting, hears_lasting}
use Rattle.bus.specs.declared.bus.Bus.{Bus}
use Rattle.bus.specs.Bus.{Answer}
use Rattle.bus.specs.Bus.{powered_on, attached_to, turn_at, with_bits}
use Rattle.bus.specs.Attach.{newcomer}
use Rattle.bus.specs.Slot.{said_by, spoken, turned, slot_heard, slot_run}
use Rattle.promises.specs.Calls.{Call, attach, queue, reply, slot, heard, after_call, after_calls, ByteCalls, Reachable}
use Rattle.promises.specs.Fit.{station_at}
use Rattle.promises.proofs.Shared.Arrays.{answer_full}
use Rattle.promises.proofs.Shared.FitKept.{reachable_fit}
use Rattle.promises.proofs.Shared.Seats.{Did, refused, attached, queued, replied, with_newcomer, holding_more, answering_more, attached_turn, turn_same, turn_other, attached_before, attached_newcomer, newcomer_seat, other_seat, did_attach, did_queue, did_reply, attached_slot, slot_seat}
use Rattle.promises.proofs.Shared.Stations.{reachable_sane}
use Rattle.promises.proofs.Shared.Uses.{by_calls, on_reachable, reachable_more}
use Rattle.promises.proofs.Taken.Together.{reachable_together}
use Rattle.history.specs.Moments.{Answers, History, nothing}
use Rattle.history.specs.Held.{Who}
use Rattle.history.specs.Seen.{Known, unknown, moment_in, later, seen_call, known_call, known_calls, seen, held_by, answers_by, station_by}
use Rattle.history.specs.Observer as observer
use Rattle.history.proofs.Matches.{MatchesIn}
use Rattle.history.proofs.Matches as matches
use Rattle.history.proofs.Observed.{Observed, says_now, tells_now, hands_now, observed_later}
use Rattle.history.proofs.Slots.{moment}
use Rattle.history.specs.Lines.{lines, HandsOut, left_by}
use Rattle.history.specs.Observer.{report_of, Report}
use Rattle.history.proofs.HandsOut.{lines_are}
use Rattle.history.proofs.HeldByCalls.{who_of, slot_held, Account, account_call, on_account, account, held_by_calls}
use Rattle.history.proofs.Shares.{none_admitted}

-- ---- an attached station of a reachable bus

abbrev pub TurnObserved : History → Turn → Type 0
TurnObserved g t = Observed t.station.address t.station.master g t.station

abbrev pub SeatObserved : Bus → ℕ → History → Type 0
SeatObserved b i g = TurnObserved g (turn_at b i)

newcomer_observed : (a : ℕ) (m : Bool) → TurnObserved nothing (newcomer a m)
unfolding newcomer fresh observer.share_of
newcomer_observed a m =
    record { address = refl; master = refl; admitted = sym (none_admitted a m); marked = refl; since = refl; share = matches.is_over }

module _ (b : Bus) (r : Reachable b) (i : ℕ) (l : i < attached_to b) (g : History) (w : SeatObserved b i g) where
  abbrev s : Station
  s = station_at b i

  pub seat_says : said_by (turn_at b i) ≡ observer.says s.address s.master g (waiting s.outbox) (answer_for s.replies)
  seat_says =
      let k = reachable_sane r i l in
      let f = (reachable_together r).each i l in
      says_now s k.outbox f.array k.possible (λ pb sb. answer_full s.replies pb sb k.entries) f.outgoing
      ((reachable_fit r).addressed i l).master_address g w

  pub seat_tells : (h : Sound) → report_of (turned h (turn_at b i)).told ≡ observer.tells s.address s.master g (waiting s.outbox) (answer_for s.replies) h
  seat_tells h =
      let k = reachable_sane r i l in
      let f = (reachable_together r).each i l in
      tells_now s k.outbox f.array k.possible (λ pb sb. answer_full s.replies pb sb k.entries) f.outgoing
      ((reachable_fit r).addressed i l).master_address g w h

  pub seat_hands : (h : Sound)
      → HandsOut (observer.share_of s.address s.master g) h (observer.tells s.address s.master g (waiting s.outbox) (answer_for s.replies) h) (turned h (turn_at b i)).station.part
  seat_hands h =
      let k = reachable_sane r i l in
      let f = (reachable_together r).each i l in
      hands_now s k.outbox f.array k.possible (λ pb sb. answer_full s.replies pb sb k.entries) f.outgoing
      ((reachable_fit r).addressed i l).master_address g w h

  -- its lines
  pub seat_lines : (h : Sound)
      → tells (turned h (turn_at b i)) ≡ lines s.address (observer.tells s.address s.master g (waiting s.outbox) (answer_for s.replies) h) (turned h (turn_at b i)).station.part
  unfolding tells
  seat_lines h =
      let t = turned h (turn_at b i) in
      lines_are t.told t.station.address t.station.part
      ∙ ap₂ (λ (a : ℕ) (r : Report). lines a r t.station.part) ((hears_lasting (ready s) h).address ∙ (ready_lasting s).address) (seat_tells h)

  seat_later : (h : Sound) → Observed s.address s.master (later g (moment (waiting s.outbox) (answer_for s.replies) h)) (turned h (turn_at b i)).station
  seat_later h =
      let k = reachable_sane r i l in
      let f = (reachable_together r).each i l in
      observed_later s k.outbox f.array k.possible (λ pb sb. answer_full s.replies pb sb k.entries) f.outgoing
      ((reachable_fit r).addressed i l).master_address g w h

  turn_later : (h : Sound) → TurnObserved (later g (moment (waiting s.outbox) (answer_for s.replies) h)) (turned h (turn_at b i))
  turn_later h =
      let t = ready (station_at b i) in
      subst₂ (λ (a : ℕ) (m : Bool). Observed a m (later g (moment (waiting s.outbox) (answer_for s.replies) h)) (turned h (turn_at b i)).station)
      (sym ((hears_lasting t h).address ∙ (ready_lasting s).address)) (sym ((hears_lasting t h).master ∙ (ready_lasting s).master)) (seat_later h)

-- ---- any calls

module _ (i : ℕ) where
  pub record Followed (b : Bus) (g : History) : Type 0 where
    -- before the first slot nothing was heard
    pub idle : b.ran ≡ false → g ≡ nothing
    pub observed : i < attached_to b → SeatObserved b i g

  module _ (b : Bus) (r : Reachable b) {g : History} (w : Followed b g) where
    -- a call about one seat
    one_turn : (j : ℕ) (t : Turn) (bits : ℕ) → (j < attached_to b → SeatObserved b j g → Observed t.station.address t.station.master g t.station)
        → Followed (with_bits b j t bits) g
    one_turn j t bits f = record { idle = w.idle; observed = λ l. by_seat (rw (attached_turn b j t bits) at l) (ℕ_discrete i j) }
      where
        by_seat : i < attached_to b → Dec (i ≡ j) → SeatObserved (with_bits b j t bits) i g
        by_seat l (yes e) =
            let k : j < attached_to b = omega arith in
            rw e (subst (TurnObserved g) (sym (turn_same b j t bits (reachable_fit r).array k)) (f k (subst (λ (n : ℕ). SeatObserved b n g) e (w.observed l))))
        by_seat l (no d) = subst (TurnObserved g) (sym (turn_other b j i t bits d)) (w.observed l)

    attach_followed : {a : ℕ} {m : Bool} {x : Answer} → Did b (attach a m) x → Followed x.bus g
    attach_followed (refused _) = w
    attach_followed (attached {a = a} {m = m} ran _ _ room) =
        record { idle = w.idle; observed = λ l. by_seat l (ℕ_discrete i b.count) }
      where
        by_seat : i < attached_to (with_newcomer b a m) → Dec (i ≡ b.count) → SeatObserved (with_newcomer b a m) i g
        by_seat l (yes e) =
            rw e (subst (TurnObserved g) (sym (newcomer_seat b a m (reachable_fit r).array room)) (rw (w.idle ran) (newcomer_observed a m)))
        by_seat l (no d) =
            subst (TurnObserved g) (sym (other_seat b a m i d)) (w.observed (omega (arith, attached_newcomer b a m room, attached_before b room)))

    queue_followed : {qq zz pb sb : ℕ} {bytes : List ℕ} {x : Answer} → Did b (queue qq zz pb sb bytes) x → Followed x.bus g
    queue_followed (refused _) = w
    queue_followed (queued {bits = n} j t _) =
        one_turn j (holding_more (turn_at b j) t) n
        (λ l v. record { address = v.address; master = v.master; admitted = v.admitted; marked = v.marked; since = v.since; share = v.share })

    reply_followed : {a pb sb : ℕ} {bytes : List ℕ} {x : Answer} → Did b (reply a pb sb bytes) x → Followed x.bus g
    reply_followed (refused _) = w
    reply_followed (replied {bits = n} j e _) =
        one_turn j (answering_more (turn_at b j) e) n
        (λ l v. record { address = v.address; master = v.master; admitted = v.admitted; marked = v.marked; since = v.since; share = v.share })

  module _ (b : Bus) (r : Reachable b) (k : Known) (v : Account i b k) (w : Followed b k.history) where
    slot_followed : (h : Sound) → Followed (slot_heard b h) (later k.history (moment_in k h))
    unfolding slot_heard
    slot_followed h =
        record {
          idle = λ e. absurd (true≢false e);
          observed = λ l.
              let l = rw (attached_slot b h) at l in
              subst₂ (λ (ts : List Telegram) (f : Answers). TurnObserved (later k.history (moment ts f h)) (turn_at (slot_heard b h) i))
              (sym (v.held l)) (sym (v.answers l))
              (subst (TurnObserved (later k.history (moment (waiting (station_at b i).outbox) (answer_for (station_at b i).replies) h)))
              (sym (slot_seat b h i (reachable_fit r).array l)) (turn_later b r i l k.history (w.observed l) h));
        }

    pub call_followed : (c : Call) → Followed (after_call b c) (seen_call b k c)
    unfolding slot_run
    call_followed (attach a m) = attach_followed b r w (did_attach b a m)
    call_followed (queue qq zz pb sb bytes) = queue_followed b r w (did_queue b qq zz pb sb bytes)
    call_followed (reply a pb sb bytes) = reply_followed b r w (did_reply b a pb sb bytes)
    call_followed slot = slot_followed (spoken b)
    call_followed (heard h) = slot_followed h

  calls_followed : (b : Bus) (k : Known) (cs : List Call) → Reachable b → ByteCalls cs → Account i b k → Followed b k.history
      → Followed (after_calls b cs) (known_calls i b k cs).history
  unfolding after_calls known_calls
  calls_followed b k [] r y v w = w
  calls_followed b k (c ∷ cs) r y v w =
      calls_followed (after_call b c) (known_call i b k c) cs (reachable_more c r y.0) y.1 (account_call i b r k v c) (call_followed b r k v w c)

  pub on_followed : Followed powered_on nothing
  unfolding powered_on attached_to
  on_followed = record { idle = λ _. refl; observed = λ l. absurd (not-suc-le-zero l) }

  followed : (cs : List Call) → ByteCalls cs → Followed (after_calls powered_on cs) (seen i cs)
  followed cs y = calls_followed powered_on unknown cs on_reachable y (on_account i) on_followed

-- ---- the theorem

-- any calls from power-on, and an attached station
module _ (cs : List Call) (bytes : ByteCalls cs) (i : ℕ) (attached : i < attached_to (after_calls powered_on cs)) where
  abbrev bus : Bus
  bus = after_calls powered_on cs

  -- who it is, by the calls
  abbrev its : Who
  its = station_by i cs

  -- its state is what the calls brought
  by_its_calls : (P : Who → List Telegram → Answers → Type 0)
      → P (who_of (turn_at bus i)) (waiting (station_at bus i).outbox) (answer_for (station_at bus i).replies) → P its (held_by i cs) (answers_by i cs)
  by_its_calls P p =
      let v = account i cs bytes in
      subst₂ (λ (ts : List Telegram) (f : Answers). P its ts f) (sym (v.held attached)) (sym (v.answers attached))
      (subst (λ (w : Who). P w (waiting (station_at bus i).outbox) (answer_for (station_at bus i).replies)) (sym (v.seated.each i attached)) p)

  -- its state is as its share says
  pub share_matches : MatchesIn (station_at bus i) (observer.share_of its.address its.master (seen i cs))
  share_matches =
      by_its_calls (λ w ts f. MatchesIn (station_at bus i) (observer.share_of w.address w.master (seen i cs)))
      ((followed i cs bytes).observed attached).share

  -- what it says in the next slot
  pub says_as_observed : said_by (turn_at bus i) ≡ observer.says its.address its.master (seen i cs) (held_by i cs) (answers_by i cs)
  says_as_observed =
      by_its_calls (λ w ts f. said_by (turn_at bus i) ≡ observer.says w.address w.master (seen i cs) ts f)
      (seat_says bus (by_calls cs bytes) i attached (seen i cs) ((followed i cs bytes).observed attached))

  abbrev report : Sound → Report
  report h = observer.tells its.address its.master (seen i cs) (held_by i cs) (answers_by i cs) h

  abbrev after : Sound → Turn
  after h = turn_at (slot_heard bus h) i

  same_turn : (h : Sound) → after h ≡ turned h (turn_at bus i)
  same_turn h = slot_seat bus h i (reachable_fit (by_calls cs bytes)).array attached

  -- what it is told in it, whatever all hear
  pub tells_as_observed : (h : Sound)
      → report_of (turn_at (slot_heard bus h) i).told ≡ observer.tells its.address its.master (seen i cs) (held_by i cs) (answers_by i cs) h
  tells_as_observed h =
      ap (λ (t : Turn). report_of t.told) (same_turn h)
      ∙ by_its_calls (λ w ts f. report_of (turned h (turn_at bus i)).told ≡ observer.tells w.address w.master (seen i cs) ts f h)
      (seat_tells bus (by_calls cs bytes) i attached (seen i cs) ((followed i cs bytes).observed attached) h)

  -- what it hands out was heard: the symbols are exactly the wire form of the part in its line
  pub handed_out_as_heard : (h : Sound) → HandsOut (observer.share_of its.address its.master (seen i cs)) h (report h) (after h).station.part
  handed_out_as_heard h =
      subst (λ (t : Turn). HandsOut (observer.share_of its.address its.master (seen i cs)) h (report h) t.station.part) (sym (same_turn h))
      (by_its_calls
      (λ w ts f.
      HandsOut (observer.share_of w.address w.master (seen i cs)) h (observer.tells w.address w.master (seen i cs) ts f h)
      (turned h (turn_at bus i)).station.part)
      (seat_hands bus (by_calls cs bytes) i attached (seen i cs) ((followed i cs bytes).observed attached) h))

  -- its lines are those of the report, with its address and that part
  pub lines_as_observed : (h : Sound) → tells (after h) ≡ lines its.address (report h) (after h).station.part
  lines_as_observed h =
      subst (λ (t : Turn). tells t ≡ lines its.address (report h) t.station.part) (sym (same_turn h))
      (by_its_calls
      (λ w ts f.
      tells (turned h (turn_at bus i)) ≡ lines w.address (observer.tells w.address w.master (seen i cs) ts f h) (turned h (turn_at bus i)).station.part)
      (seat_lines bus (by_calls cs bytes) i attached (seen i cs) ((followed i cs bytes).observed attached) h))

  -- the telegram held longest leaves its queue exactly where free is told
  pub left_as_observed : (h : Sound) → waiting (after h).station.outbox ≡ left_by (report h) (held_by i cs)
  left_as_observed h =
      slot_held bus (by_calls cs bytes) i attached h
      ∙ ap₂ left_by (tells_as_observed h) (held_by_calls cs bytes i attached)
