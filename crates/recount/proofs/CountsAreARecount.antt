-- For every sequence of calls from power-on, with a table that listens from any moment on: after whatever is called and cleared then, its
-- records and its others are a recount of all transfers that ended since, from the lines alone (02, E9). Assumes nothing.
use mathlib.Core.Path.{◌≡◌, refl, sym, subst, ◌∙◌}
use mathlib.Core.Bool.{true, false, false≢true}
use mathlib.Core.List.{List, [], ◌∷◌, ◌++◌}
use mathlib.Core.Logic.{◌↔◌}
use Prim.Native.Nat.{ℕ}
use lib.ListN.{length}
use Rattle.station.specs.Events.{Event}
use Rattle.station.specs.Phase.{owner}
use Rattle.station.specs.Station.{fresh}
use Rattle.station.specs.declared.phase.Sound.{Sound}
use Rattle.station.specs.declared.station.Turn.{Turn}
use Rattle.bus.specs.Attach.{newcomer}
use Rattle.bus.specs.Bus.{powered_on}
use Rattle.bus.specs.Bus.{Answer}
use Rattle.bus.specs.declared.bus.Bus.{Bus}
use Rattle.promises.specs.Calls.{Call, attach, queue, reply, slot, heard, after_call, after_calls, ByteCall, ByteCalls, Reachable}
use Rattle.promises.specs.Fit.{station_at}
use Rattle.promises.specs.Slots.{AllHear, undisturbed, disturbed}
use Rattle.promises.proofs.OneOwner.{reachable_shared}
use Rattle.promises.proofs.Shared.Seats.{Did, Seat, as_it_was, newly_taken, holds_more, answers_more, seat_after, did_attach, did_queue, did_reply}
use Rattle.promises.proofs.Shared.Uses.{by_calls, reachable_more}
use Rattle.pairs.specs.Counts.{records, uncounted, fresh as unheard, cleared}
use Rattle.pairs.specs.Ended.{ended_in, free_lines}
use Rattle.pairs.specs.Hear as Hear
use Rattle.pairs.specs.Hear.{heard_of}
use Rattle.pairs.specs.Recount.{ends, among, recorded, answer_of}
use Rattle.pairs.specs.Table.{counts_after, count_in, ask_of, listened}
use Rattle.pairs.specs.Tallied.{Tallied}
use Rattle.pairs.specs.Total.{total, NoneStopped}
use Rattle.std.specs.Prelude.{Option, Some, None, Err}
use Rattle.pairs.specs.declared.AskError.TheVariants.{NoRecord}
use Rattle.pairs.specs.declared.Counts.{Counts}
use Rattle.pairs.specs.declared.Heard.{Heard}
use Rattle.pairs.specs.declared.Pair.{Pair}
use Rattle.pairs.specs.declared.Transfer.{Transfer}
use Rattle.pairs.specs.declared.UnderWay.{UnderWay}
use Rattle.pairs.proofs.Asking.{asked_is_recounted, refused_20}
use Rattle.pairs.proofs.EachOnce.{each_transfer_once, ended_count}
use Rattle.pairs.proofs.Recounted.{fresh_tallied, counted_current, one_more, none_more}
use Rattle.recount.specs.Listening.{Act, call, clear, Beside, beside, listens, after_act, after_acts, begins, Lines, lines, lines_of, lines_after, bus_after, heard_by, ended_since, calls_among}
use Rattle.recount.proofs.Follows.{Follows, from_nothing}
use Rattle.recount.proofs.SlotHeard.{Heeds, grown, rightly_heard}
use Rattle.recount.proofs.Station.{may_yet}

-- the bus is one that calls bring about, what is known of an owner's transfer is what its lines tell, and the counts are a recount
pub record Right (w : Beside) (l : Lines) : Type 0 where
  pub reached : Reachable w.bus
  pub heeds : Heeds w.bus w.counts.current (l.since ++ l.earlier)
  pub tallied : Tallied w.table w.counts (ended_in l.since l.earlier)

-- ---- a slot

-- counted as it was heard
module _ (t : List Pair) (c : Counts) (xs : List Transfer) (h : Tallied t c xs) where
  counted_right : (x : Heard) → x.before ≡ c → Tallied (count_in t x).table (counts_after (count_in t x).kept) (grown x.freed xs)
  counted_right x e =
      subst
      (λ (d : Counts). Tallied (count_in t (Hear.heard d x.current x.freed)).table (counts_after (count_in t (Hear.heard d x.current x.freed)).kept) (grown x.freed xs))
      (sym e) (go x.freed)
    where
      go : (f : Option Transfer) → Tallied (count_in t (Hear.heard c x.current f)).table (counts_after (count_in t (Hear.heard c x.current f)).kept) (grown f xs)
      go None = none_more t c x.current xs h
      go (Some y) = one_more t c x.current xs y h

pub slot_right : {w : Beside} {l : Lines} {c : Call} {h : Sound} → Reachable (after_call w.bus c) → AllHear w.bus c h → Right w l
    → Right (listens w (after_call w.bus c)) (lines (lines_of (after_call w.bus c) l.since) l.earlier)
slot_right {w} {l} {c} reached hear r =
    let xs = ended_in l.since l.earlier in
    let after = after_call w.bus c in
    let g = rightly_heard r.reached hear w.counts l.since l.earlier xs refl r.heeds in
    record {
      reached = reached;
      heeds =
          subst (λ (u : UnderWay). Heeds after u (lines_of after l.since ++ l.earlier)) (sym (counted_current w.table (heard_of w.counts after).before (heard_of w.counts after).current r.tallied.whole (heard_of w.counts after).freed))
          g.heeds;
      tallied =
          subst (λ (ys : List Transfer). Tallied (listened w.table w.counts after).table (counts_after (listened w.table w.counts after).kept) ys) (sym g.ended)
          (counted_right w.table w.counts xs r.tallied (heard_of w.counts after) g.before);
    }

-- ---- a call that is no slot

-- who owned the wire owns it, and nobody else
seat_heeds : {b : Bus} {i : ℕ} {t : Turn} {u : UnderWay} {back : List Event} → Seat b i t → Heeds b u back → owner t.station.phase ≡ true
    → Follows t.station.address (may_yet t.station.phase) u back
unfolding newcomer fresh
seat_heeds {i = i} (as_it_was l) w o = w i l o
seat_heeds (newly_taken a m) w o = absurd (false≢true o)
seat_heeds {i = i} (holds_more l t _) w o = w i l o
seat_heeds {i = i} (answers_more l t _) w o = w i l o

answer_heeds : {b : Bus} {c : Call} {x : Answer} {u : UnderWay} {back : List Event} → Did b c x → Reachable b → Heeds b u back → Heeds x.bus u back
answer_heeds d r w i l o = seat_heeds (seat_after d (reachable_shared r).array i l) w o

pub answer_right : {w : Beside} {l : Lines} {c : Call} {x : Answer} → Did w.bus c x → Reachable x.bus → Right w l → Right (beside x.bus w.table w.counts) l
answer_right d k r = record { reached = k; heeds = answer_heeds d r.reached r.heeds; tallied = r.tallied }

-- ---- whatever is done

ByteAct : Act → Type 0
ByteAct (call c) = ByteCall c
ByteAct clear = Unit {0}

clear_right : {w : Beside} {l : Lines} → Right w l → Right (beside w.bus w.table (cleared w.counts)) (lines [] (l.since ++ l.earlier))
unfolding cleared uncounted ended_in
clear_right {w} r =
    record { reached = r.reached; heeds = r.heeds; tallied = fresh_tallied w.table w.counts.current r.tallied.whole }

act_right : {w : Beside} {l : Lines} (a : Act) → ByteAct a → Right w l → Right (after_act w a) (lines_after w.bus l a)
unfolding ByteAct
act_right {w} (call (attach a m)) k r = answer_right (did_attach w.bus a m) (reachable_more (attach a m) r.reached k) r
act_right {w} (call (queue qq zz pb sb bytes)) k r =
    answer_right (did_queue w.bus qq zz pb sb bytes) (reachable_more (queue qq zz pb sb bytes) r.reached k) r
act_right {w} (call (reply a pb sb bytes)) k r = answer_right (did_reply w.bus a pb sb bytes) (reachable_more (reply a pb sb bytes) r.reached k) r
act_right (call slot) k r = slot_right (reachable_more slot r.reached k) undisturbed r
act_right (call (heard h)) k r = slot_right (reachable_more (heard h) r.reached k) disturbed r
act_right clear k r = clear_right r

same_bus : (w : Beside) (a : Act) → (after_act w a).bus ≡ bus_after w.bus a
same_bus w (call (attach a m)) = refl
same_bus w (call (queue qq zz pb sb bytes)) = refl
same_bus w (call (reply a pb sb bytes)) = refl
same_bus w (call slot) = refl
same_bus w (call (heard h)) = refl
same_bus w clear = refl

acts_right : (w : Beside) (l : Lines) (acts : List Act) → ByteCalls (calls_among acts) → Right w l → Right (after_acts w acts) (heard_by w.bus l acts)
unfolding after_acts heard_by calls_among ByteAct
acts_right w l [] k r = r
acts_right w l (call c ∷ acts) k r =
    subst (λ (b : Bus). Right (after_acts (after_act w (call c)) acts) (heard_by b (lines_after w.bus l (call c)) acts)) (same_bus w (call c))
    (acts_right (after_act w (call c)) (lines_after w.bus l (call c)) acts k.1 (act_right (call c) k.0 r))
acts_right w l (clear ∷ acts) k r = acts_right (after_act w clear) (lines_after w.bus l clear) acts k (act_right clear tt r)

pub begins_right : (b : Bus) (t : List Pair) → Reachable b → length t ≡ records → Right (begins b t) (lines [] [])
unfolding unheard ended_in uncounted
begins_right b t r e =
    record {
      reached = r;
      heeds = λ i l o. from_nothing (station_at b i).address (may_yet (station_at b i).phase);
      tallied = fresh_tallied t unheard.current e;
    }

-- ---- the table beside any calls

module _ (cs : List Call) (k : ByteCalls cs)
    -- any calls from power-on; then listening begins, with a table of 64 records, whatever they hold
    (t : List Pair) (whole : length t ≡ records)
    -- then any calls, and clearings among them
    (acts : List Act) (n : ByteCalls (calls_among acts)) where
  abbrev began : Bus
  began = after_calls powered_on cs

  -- the table and the counts at the end, and the transfers that ended since the last clearing
  abbrev pub at_end : Beside
  at_end = after_acts (begins began t) acts

  abbrev pub all_ended : List Transfer
  all_ended = ended_since began acts

  pub counts_are_a_recount : Tallied at_end.table at_end.counts all_ended
  counts_are_a_recount = (acts_right (begins began t) (lines [] []) acts n (begins_right began t (by_calls cs k) whole)).tallied

  -- so is what is answered of a pair; 20 exactly where it is none of the first 64
  pub answers_are_a_recount : (qq zz : ℕ) → ask_of at_end.table at_end.counts qq zz ≡ answer_of all_ended qq zz
  answers_are_a_recount qq zz = asked_is_recounted at_end.table at_end.counts qq zz all_ended counts_are_a_recount

  pub no_record_exactly_when : (qq zz : ℕ) → (ask_of at_end.table at_end.counts qq zz ≡ Err NoRecord) ↔ (among (ends qq zz) (recorded all_ended) ≡ false)
  no_record_exactly_when qq zz = refused_20 at_end.table at_end.counts qq zz all_ended counts_are_a_recount

  -- where no count has stopped, all counts together are the free lines since
  pub each_once : NoneStopped at_end.table at_end.counts → total at_end.table at_end.counts ≡ free_lines (heard_by began (lines [] []) acts).since
  each_once s =
      each_transfer_once at_end.table at_end.counts all_ended counts_are_a_recount s
      ∙ ended_count (heard_by began (lines [] []) acts).since (heard_by began (lines [] []) acts).earlier
