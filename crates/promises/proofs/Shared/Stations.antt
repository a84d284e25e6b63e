-- What holds of every attached station, whatever was called: shown of a newcomer, and kept by a telegram more, a reply more and
-- every slot. Assumes nothing.
use mathlib.Core.Path.{◌≡◌, sym, ap, subst, ◌∙◌}
use mathlib.Core.Bool.{Bool}
use Prim.Native.Nat.{ℕ, ◌<◌}
use native.Mathlib.Nat.{not-suc-le-zero}
use Rattle.wire.specs.Reading.{Sixteen}
use Rattle.wire.specs.declared.part.Telegram.{Telegram}
use Rattle.station.specs.Hear.{hears}
use Rattle.station.specs.Station.{fresh, ready}
use Rattle.station.specs.declared.outbox.Outbox.{Outbox}
use Rattle.station.specs.declared.phase.Sound.{Sound}
use Rattle.station.specs.declared.phase.Told.{Told}
use Rattle.station.specs.declared.phase.Told.TheVariants.{Silence, Owns, Taken, Failed, Free, FailedFree, Given, Answered}
use Rattle.station.specs.declared.replies.Reply.{Reply}
use Rattle.station.specs.declared.station.Station.{Station}
use Rattle.station.specs.declared.station.Turn.{Turn}
use Rattle.station.proofs.Book.{Filed, none_filed, written_filed}
use Rattle.station.proofs.Frame.{ready_lasting, ready_outbox, hears_lasting, outbox_after_lem}
use Rattle.station.proofs.Possible.{Possible, fresh_possible, ready_possible, hears_possible}
use Rattle.station.proofs.Turned.{outbox_after}
use Rattle.station.proofs.Waiting.{Kept, none_kept, accepted_kept, dropped_kept}
use Rattle.bus.specs.declared.bus.Bus.{Bus}
use Rattle.bus.specs.Bus.{Answer}
use Rattle.bus.specs.Bus.{powered_on, attached_to, turn_at}
use Rattle.bus.specs.Attach.{newcomer}
use Rattle.bus.specs.Slot.{turned, slot_heard}
use Rattle.promises.specs.Calls.{Call, Reachable}
use Rattle.promises.specs.Fit.{station_at}
use Rattle.promises.proofs.Shared.Arrays.{AllFull, none_full, accepted_full, after_full, AllEntriesFull, no_entries_full, written_full}
use Rattle.promises.proofs.Shared.Seats.{Whole, Did, Seat, as_it_was, newly_taken, holds_more, answers_more, holding_more, answering_more, seat_after, attached_slot, slot_seat, whole_answer, whole_slot, whole_on, of_reachable, by_call}

module _ (P : Turn → Type 0) (new : (a : ℕ) (m : Bool) → P (newcomer a m))
    (telegram : (t : Turn) (m : Telegram) → Sixteen m.load → P t → P (holding_more t m))
    (entry : (t : Turn) (r : Reply) → Sixteen r.load → P t → P (answering_more t r))
    (slot : (t : Turn) (h : Sound) → P t → P (turned h t)) where
  record Each (b : Bus) : Type 0 where
    array : Whole b
    each : (i : ℕ) → i < attached_to b → P (turn_at b i)

  each_answer : {b : Bus} {c : Call} {x : Answer} → Did b c x → Each b → Each x.bus
  each_answer {b} d w = record { array = whole_answer d w.array; each = λ i l. of_seat (seat_after d w.array i l) }
    where
      of_seat : {i : ℕ} {t : Turn} → Seat b i t → P t
      of_seat {i} (as_it_was l) = w.each i l
      of_seat (newly_taken a m) = new a m
      of_seat {i} (holds_more l t f) = telegram (turn_at b i) t f (w.each i l)
      of_seat {i} (answers_more l r f) = entry (turn_at b i) r f (w.each i l)

  each_slot : (b : Bus) (h : Sound) → Each b → Each (slot_heard b h)
  each_slot b h w =
      record {
        array = whole_slot b h w.array;
        each = λ i l.
            let l = rw (attached_slot b h) at l in
            subst P (sym (slot_seat b h i w.array l)) (slot (turn_at b i) h (w.each i l));
      }

  each_on : Each powered_on
  unfolding powered_on attached_to
  each_on = record { array = whole_on; each = λ i l. absurd (not-suc-le-zero l) }

  pub each_station : {b : Bus} → Reachable b → (i : ℕ) → i < attached_to b → P (turn_at b i)
  each_station r i l =
      (of_reachable Each each_on (λ b c k w. by_call Each b (λ c x k d. each_answer d w) (λ h. each_slot b h w) c k) r).each i l

-- ---- what its parts are like

pub record Sane (s : Station) : Type 0 where
  -- the phase, and when it is admitted
  pub possible : Possible s
  -- at most 4 telegrams held, each with an array of 16 bytes
  pub outbox : Kept s.outbox
  pub telegrams : AllFull s.outbox
  -- at most 8 replies, each with an array of 16 bytes
  pub book : Filed s.replies
  pub entries : AllEntriesFull s.replies

abbrev SaneTurn : Turn → Type 0
SaneTurn t = Sane t.station

new_sane : (a : ℕ) (m : Bool) → SaneTurn (newcomer a m)
unfolding newcomer fresh
new_sane a m =
    record { possible = fresh_possible a m; outbox = none_kept; telegrams = none_full; book = none_filed; entries = no_entries_full }

after_kept : (t : Told) (o : Outbox) → Kept o → Kept (outbox_after t o)
after_kept Silence o w = w
after_kept Owns o w = w
after_kept Taken o w = w
after_kept (Failed f) o w = w
after_kept Free o w = dropped_kept o w
after_kept (FailedFree f) o w = dropped_kept o w
after_kept Given o w = w
after_kept Answered o w = w

telegram_sane : (t : Turn) (m : Telegram) → Sixteen m.load → SaneTurn t → SaneTurn (holding_more t m)
telegram_sane t m f w =
    record {
      possible = w.possible;
      outbox = accepted_kept t.station.outbox m w.outbox;
      telegrams = accepted_full t.station.outbox m f w.telegrams;
      book = w.book;
      entries = w.entries;
    }

entry_sane : (t : Turn) (r : Reply) → Sixteen r.load → SaneTurn t → SaneTurn (answering_more t r)
entry_sane t r f w =
    record {
      possible = w.possible;
      outbox = w.outbox;
      telegrams = w.telegrams;
      book = written_filed t.station.replies w.book r;
      entries = written_full t.station.replies r f w.entries;
    }

slot_sane : (t : Turn) (h : Sound) → SaneTurn t → SaneTurn (turned h t)
slot_sane t h w =
    let s = ready t.station in
    let o : s.outbox ≡ t.station.outbox = ready_outbox t.station in
    let p : (hears s h).station.outbox ≡ outbox_after (hears s h).told t.station.outbox = outbox_after_lem s h ∙ ap (outbox_after (hears s h).told) o in
    let q : (hears s h).station.replies ≡ t.station.replies = (hears_lasting s h).replies ∙ (ready_lasting t.station).replies in
    record {
      possible = hears_possible s h (ready_possible t.station w.possible);
      outbox = rw p (after_kept (hears s h).told t.station.outbox w.outbox);
      telegrams = rw p (after_full (hears s h).told t.station.outbox w.telegrams);
      book = rw q w.book;
      entries = rw q w.entries;
    }

-- after any calls from power-on, so is every attached station
pub reachable_sane : {b : Bus} → Reachable b → (i : ℕ) → i < attached_to b → Sane (station_at b i)
reachable_sane r i l = each_station SaneTurn new_sane telegram_sane entry_sane slot_sane r i l
