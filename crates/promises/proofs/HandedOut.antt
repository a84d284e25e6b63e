-- The scorched bale: whatever a station hands out, with an owner or without, on the first reading or on the repeat, is the
-- message whose wire form is exactly the symbols heard since its last reading began (01, "Reading", "Acknowledgement",
-- "Broadcast", "Answer", "Errors that look right"). Assumes nothing.
use mathlib.Core.Path.{◌≡◌, refl, sym, ap, subst, ◌∙◌}
use mathlib.Core.Bool.{Bool, false}
use mathlib.Core.List.{List, [], ◌∷◌}
use Prim.Native.Nat.{ℕ, ◌<◌}
use native.Mathlib.Nat.{not-suc-le-zero}
use borrow.Author.Tests.{eq-eqb}
use Rattle.wire.specs.Symbol.{kind_of}
use Rattle.wire.specs.declared.symbol.Kind.TheVariants.{Syn}
use Rattle.wire.proofs.SoFar.{start}
use Rattle.wire.proofs.SymbolKind.{kind_syn}
use Rattle.station.specs.Outbox.{none_held}
use Rattle.station.specs.Station.{syn, fresh, answering, ready}
use Rattle.station.proofs.AfterSyn.{told_by_syn, after_syn, syn_told}
use Rattle.station.specs.Hear.{hears}
use Rattle.wire.specs.declared.part.Part.TheVariants.{MasterPart, AnswerPart}
use Rattle.station.specs.declared.phase.Attempt.TheVariants.{First}
use Rattle.station.specs.declared.phase.Phase.{Phase}
use Rattle.station.specs.declared.phase.Phase.TheVariants.{Silent, Reading, Sending, Awaiting, Judging, Owing, Releasing}
use Rattle.station.specs.declared.phase.Sound.{Sound}
use Rattle.station.specs.declared.phase.Sound.TheVariants.{Quiet, Symbol}
use Rattle.station.specs.declared.station.Station.{Station}
use Rattle.station.specs.declared.station.Turn.{Turn}
use Rattle.station.proofs.Aa.{IsSyn, aa, NoSyn, quiet, symbol, by_sound}
use Rattle.station.proofs.Frame.{Begins, as_it_stood, answers, ready_begins, ready_outbox, outbox_after_lem}
use Rattle.station.proofs.Turned.{moves_of}
use Rattle.bus.specs.declared.bus.Bus.{Bus}
use Rattle.bus.specs.Bus.{Answer}
use Rattle.bus.specs.Bus.{powered_on, attached_to, turn_at}
use Rattle.bus.specs.Attach.{newcomer}
use Rattle.bus.specs.Slot.{spoken, turned, slot_heard, slot_run}
use Rattle.promises.specs.Calls.{Call, attach, queue, reply, slot, heard, after_call, after_calls}
use Rattle.promises.specs.Fit.{station_at}
use Rattle.promises.specs.Heard.{since_after, since_call, since_calls, heard_since, WasHeard}
use Rattle.promises.proofs.Shared.Arrays.{AllFull, none_full, oldest_full, accepted_full, after_full}
use Rattle.promises.proofs.Shared.InStep.{InStep, silent, reading, sending, hands_out, nothing_out, in_step_array, Next, quiet_next, symbol_next}
use Rattle.promises.proofs.Shared.PartAfter.{part_after}
use Rattle.promises.proofs.Shared.Seats.{Whole, Did, Seat, as_it_was, newly_taken, holds_more, answers_more, seat_after, did_attach, did_queue, did_reply, attached_slot, slot_seat, whole_answer, whole_slot, whole_on}

-- ---- a station

record Follows (t : Turn) (xs : List ℕ) : Type 0 where
  step : InStep t.station.part xs t.station.phase
  out : WasHeard t.told t.station.part xs
  outbox : AllFull t.station.outbox

newcomer_follows : (a : ℕ) (m : Bool) (xs : List ℕ) → Follows (newcomer a m) xs
unfolding newcomer fresh
newcomer_follows a m xs = record { step = silent (oldest_full none_held none_full); out = nothing_out refl; outbox = none_full }

-- as a slot begins
ready_in_step : (s : Station) {xs : List ℕ} → InStep s.part xs s.phase → InStep (ready s).part xs (ready s).phase
unfolding answering
ready_in_step s {xs} w = begun (ready_begins s)
  where
    begun : {x : Station} → Begins s x → InStep x.part xs x.phase
    begun as_it_stood = w
    begun (answers _) = sending (in_step_array w)

ready_since : (s : Station) (xs : List ℕ) (h : Sound) → since_after (ready s).phase xs h ≡ since_after s.phase xs h
unfolding answering
ready_since s xs h = begun (ready_begins s)
  where
    same : (h : Sound) {p q : Phase} → p ≡ q → since_after p xs h ≡ since_after q xs h
    same h e = ap (λ (p : Phase). since_after p xs h) e

    owes : (h : Sound) → since_after (Sending 0 AnswerPart First) xs h ≡ since_after Owing xs h
    owes Quiet = refl
    owes (Symbol b) = refl

    begun : {x : Station} → Begins s x → since_after x.phase xs h ≡ since_after s.phase xs h
    begun as_it_stood = refl
    begun (answers e) = owes h ∙ same h (sym e)

-- AA: nothing is handed out, and every station reads from the start
syn_out : (p : Phase) → hands_out (told_by_syn p) ≡ false
syn_out Silent = refl
syn_out (Reading c MasterPart a) = refl
syn_out (Reading c AnswerPart a) = refl
syn_out (Sending i MasterPart a) = refl
syn_out (Sending i AnswerPart a) = refl
syn_out (Awaiting MasterPart a) = refl
syn_out (Awaiting AnswerPart a) = refl
syn_out (Judging MasterPart a m k) = refl
syn_out (Judging AnswerPart a m k) = refl
syn_out Owing = refl
syn_out Releasing = refl

syn_since : (p : Phase) (xs : List ℕ) (b : ℕ) → kind_of b ≡ Syn → since_after p xs (Symbol b) ≡ []
syn_since p xs b e = rw (eq-eqb b syn ((kind_syn b).0 e))

module _ (s : Station) (xs : List ℕ) (w : InStep s.part xs s.phase) (o : AllFull s.outbox) where
  abbrev AfterTurn : Sound → Type 0
  AfterTurn h = Next (hears s h).told (hears s h).station.part (since_after s.phase xs h) (hears s h).station.phase

  by_syn : {h : Sound} → IsSyn h → AfterTurn h
  by_syn (aa {b} e) =
      let i = after_syn s (aa e) in
      record {
        step = rw (i.phase, i.part, syn_since s.phase xs b e) (reading (start MasterPart s.part (in_step_array w)));
        out = nothing_out (ap hands_out (syn_told s (aa e)) ∙ syn_out s.phase);
      }

  by_row : {h : Sound} → NoSyn h → AfterTurn h
  by_row quiet = quiet_next (oldest_full s.outbox o) (moves_of s quiet) (part_after s quiet) w
  by_row (symbol n) = symbol_next (oldest_full s.outbox o) n (moves_of s (symbol n)) (part_after s (symbol n)) w

  hears_next : (h : Sound) → AfterTurn h
  hears_next h = by_sound h by_syn by_row

turned_follows : (t : Turn) (xs : List ℕ) (h : Sound) → Follows t xs → Follows (turned h t) (since_after t.station.phase xs h)
turned_follows t xs h w =
    let s = ready t.station in
    let o : AllFull s.outbox = rw (ready_outbox t.station) w.outbox in
    let g = rw (ready_since t.station xs h) at (hears_next s xs (ready_in_step t.station w.step) o h) in
    record {
      step = g.step;
      out = g.out;
      outbox = rw (outbox_after_lem s h) (after_full (hears s h).told s.outbox o);
    }

-- ---- the bus, seen from a seat

module _ (i : ℕ) where
  record Seated (b : Bus) (xs : List ℕ) : Type 0 where
    array : Whole b
    follows : i < attached_to b → Follows (turn_at b i) xs

  answer_seated : {b : Bus} {c : Call} {x : Answer} {xs : List ℕ} → Did b c x → Seated b xs → Seated x.bus xs
  answer_seated {b} {xs = xs} d w =
      record { array = whole_answer d w.array; follows = λ l. of_seat (seat_after d w.array i l) }
    where
      of_seat : {t : Turn} → Seat b i t → Follows t xs
      of_seat (as_it_was l) = w.follows l
      of_seat (newly_taken a m) = newcomer_follows a m xs
      of_seat (holds_more l t f) =
          let g = w.follows l in
          record { step = g.step; out = g.out; outbox = accepted_full (station_at b i).outbox t f g.outbox }
      of_seat (answers_more l r _) = let g = w.follows l in record { step = g.step; out = g.out; outbox = g.outbox }

  slot_seated : (b : Bus) (h : Sound) {xs : List ℕ} → Seated b xs → Seated (slot_heard b h) (since_after (station_at b i).phase xs h)
  slot_seated b h {xs} w =
      record {
        array = whole_slot b h w.array;
        follows = λ l.
            let l = rw (attached_slot b h) at l in
            subst (λ (t : Turn). Follows t (since_after (station_at b i).phase xs h)) (sym (slot_seat b h i w.array l))
            (turned_follows (turn_at b i) xs h (w.follows l));
      }

  call_seated : (b : Bus) (xs : List ℕ) (c : Call) → Seated b xs → Seated (after_call b c) (since_call i b xs c)
  unfolding slot_run
  call_seated b xs (attach a m) w = answer_seated (did_attach b a m) w
  call_seated b xs (queue qq zz pb sb bytes) w = answer_seated (did_queue b qq zz pb sb bytes) w
  call_seated b xs (reply a pb sb bytes) w = answer_seated (did_reply b a pb sb bytes) w
  call_seated b xs slot w = slot_seated b (spoken b) w
  call_seated b xs (heard h) w = slot_seated b h w

  calls_seated : (b : Bus) (xs : List ℕ) (cs : List Call) → Seated b xs → Seated (after_calls b cs) (since_calls i b xs cs)
  unfolding after_calls since_calls
  calls_seated b xs [] w = w
  calls_seated b xs (c ∷ cs) w = calls_seated (after_call b c) (since_call i b xs c) cs (call_seated b xs c w)

  on_seated : Seated powered_on []
  unfolding powered_on attached_to
  on_seated = record { array = whole_on; follows = λ l. absurd (not-suc-le-zero l) }

-- after any calls from power-on, what an attached station was told in the last slot, and its part: if it hands the part out,
-- the symbols that it heard since its last reading began, quiet left out, are the wire form of that part
pub handed_out_was_heard :
    -- any calls from power-on
    (cs : List Call)
    -- an attached station
    (i : ℕ) → i < attached_to (after_calls powered_on cs)
    -- what it was told, its part, and the symbols that it heard since its last reading began
    → WasHeard (turn_at (after_calls powered_on cs) i).told (station_at (after_calls powered_on cs) i).part (heard_since i cs)
handed_out_was_heard cs i l = ((calls_seated i powered_on [] cs (on_seated i)).follows l).out
