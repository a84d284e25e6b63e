-- After any calls, what was heard since the last AA, the same for all: every attached station follows it. Assumes nothing.
use mathlib.Core.Path.{◌≡◌, refl, sym, subst, ◌∙◌}
use mathlib.Core.Bool.{Bool, false, true≢false, false≢true}
use mathlib.Core.List.{List, []}
use Prim.Native.Nat.{ℕ, ◌<◌}
use native.Mathlib.Omega.{arith}
use native.Mathlib.Nat.{not-suc-le-zero}
use native.Mathlib.Decide.{ℕ_discrete}
use Rattle.wire.specs.Reading.{Sixteen}
use Rattle.wire.specs.Symbol.{kind_of}
use Rattle.wire.specs.declared.part.Telegram.{Telegram}
use Rattle.wire.specs.declared.symbol.Kind.TheVariants.{Syn}
use Rattle.wire.proofs.Endings.{array_kept}
use Rattle.station.specs.Outbox.{none_held}
use Rattle.station.specs.Station.{fresh, answering, ready}
use Rattle.station.specs.Hear.{hears}
use Rattle.station.specs.declared.phase.Phase.{Phase}
use Rattle.station.specs.declared.phase.Sound.{Sound}
use Rattle.station.specs.declared.phase.Sound.TheVariants.{Quiet, Symbol}
use Rattle.station.specs.declared.phase.Told.{Told}
use Rattle.station.specs.declared.station.Station.{Station}
use Rattle.station.specs.declared.station.Turn.{Turn}
use Rattle.station.proofs.Aa.{IsSyn, NoSyn, quiet, symbol, by_sound}
use Rattle.station.proofs.AfterSyn.{after_syn}
use Rattle.station.proofs.Frame.{Begins, as_it_stood, answers, ready_begins, ready_lasting, ready_outbox, hears_lasting, outbox_after_lem, admission_over}
use Rattle.station.proofs.Possible.{ready_possible}
use Rattle.bus.specs.declared.bus.Bus.{Bus}
use Rattle.bus.specs.Bus.{Answer}
use Rattle.bus.specs.Bus.{powered_on, attached_to, turn_at, with_bits}
use Rattle.bus.specs.Attach.{newcomer}
use Rattle.bus.specs.Slot.{spoken, slot_heard, slot_run}
use Rattle.promises.specs.Calls.{Call, attach, queue, reply, slot, heard, after_call, Reachable}
use Rattle.promises.specs.Fit.{station_at}
use Rattle.promises.proofs.Shared.Arrays.{none_full, oldest_full}
use Rattle.promises.proofs.Shared.FitKept.{reachable_fit}
use Rattle.promises.proofs.Taken.OthersRead.{none_before, symbol_listens, quiet_listens, start_listens}
use Rattle.promises.proofs.Shared.Outgoing.{by_reachable, AllOut, none_out, accepted_out, after_out, QueueDid, turned_away, took, queue_did}
use Rattle.promises.proofs.Shared.PartAfter.{PartAfter, is_oldest, is_read, reading_kept, silent_kept, sending_kept, awaiting_kept, judging_kept, owing_kept, releasing_kept, part_after}
use Rattle.promises.proofs.Shared.Seats.{Did, refused, attached, replied, with_newcomer, holding_more, answering_more, did_attach, did_reply, attached_turn, attached_slot, attached_before, attached_newcomer, turn_same, turn_other, newcomer_seat, other_seat, slot_seat}
use Rattle.promises.proofs.Taken.SenderHeard.{quiet_sends, symbol_sends}
use Rattle.promises.proofs.Shared.Stations.{Sane, reachable_sane}
use Rattle.promises.proofs.Taken.Upto.{Since, before, since, since_next, other, Follows}

-- ---- a station

fresh_follows : (a : ℕ) (m : Bool) → Follows before (fresh a m)
unfolding fresh
fresh_follows a m =
    record {
      outgoing = none_out a m;
      admitted = λ e. absurd (false≢true e);
      array = oldest_full none_held none_full;
      sends = other refl;
      listens =
          record {
            reads = λ t n xs y ys o e u f. absurd (none_before u);
            judges = λ t n xs o e one u f. absurd (none_before u);
            deaf = λ t n xs ys o e u f a. absurd (none_before u);
          };
    }

-- as a slot begins
pub ready_follows : {h : Since} (s : Station) → Follows h s → Follows h (ready s)
unfolding answering
ready_follows {h} s w = begun (ready_begins s)
  where
    begun : {x : Station} → Begins s x → Follows h x
    begun as_it_stood = w
    begun (answers q) =
        record {
          outgoing = w.outgoing;
          admitted = w.admitted;
          array = w.array;
          sends = other refl;
          listens =
              record {
                reads = λ t n xs y ys o e u f. let r = (w.listens.reads t n xs y ys o e u f).phase in let z : ◌≡◌ {A = ℕ} 0 1 = cc (q, r) in absurd (omega arith);
                judges = λ t n xs o e one u f. let r = (w.listens.judges t n xs o e one u f).phase in let z : ◌≡◌ {A = ℕ} 0 1 = cc (q, r) in absurd (omega arith);
                deaf = λ t n xs ys o e u f a. let r = w.listens.deaf t n xs ys o e u f a in let z : ◌≡◌ {A = ℕ} 0 1 = cc (q, r) in absurd (omega arith);
              };
        }

pub ready_sane : (s : Station) → Sane s → Sane (ready s)
ready_sane s w =
    record {
      possible = ready_possible s w.possible;
      outbox = rw (ready_outbox s) w.outbox;
      telegrams = rw (ready_outbox s) w.telegrams;
      book = rw (ready_lasting s).replies w.book;
      entries = rw (ready_lasting s).replies w.entries;
    }

part_array : {part oldest after : Telegram} {p q : Phase} {h : Sound} {t : Told} → Sixteen part.load → Sixteen oldest.load
    → PartAfter part oldest p h t q after → Sixteen after.load
part_array {part} f g is_oldest = g
part_array {part} f g (is_read {c = c} {b = b} _) = array_kept c part b ∙ f
part_array f g reading_kept = f
part_array f g silent_kept = f
part_array f g sending_kept = f
part_array f g awaiting_kept = f
part_array f g judging_kept = f
part_array f g owing_kept = f
part_array f g releasing_kept = f

module _ {h : Since} (s : Station) (sane : Sane s) (w : Follows h s) where
  out_after : (x : Sound) → AllOut (hears s x).station.address (hears s x).station.master (hears s x).station.outbox
  out_after x =
      let l = hears_lasting s x in
      rw (l.address, l.master, outbox_after_lem s x)
      (after_out s.address s.master (hears s x).told s.outbox sane.outbox w.outgoing)

  array_after : {x : Sound} → NoSyn x → Sixteen (hears s x).station.part.load
  array_after n = part_array w.array (oldest_full s.outbox sane.telegrams) (part_after s n)

  syn_follows : {x : Sound} → IsSyn x → Follows (since []) (hears s x).station
  syn_follows {x} i =
      let r = after_syn s i in
      record {
        outgoing = out_after x;
        admitted = λ _. refl;
        array = rw r.part w.array;
        sends = rw r.phase (other refl);
        listens = rw (r.phase, r.part) (start_listens (hears s x).station.address (hears s x).station.master s.part w.array);
      }

  quiet_follows : Follows h (hears s Quiet).station
  quiet_follows =
      let l = hears_lasting s Quiet in
      record {
        outgoing = out_after Quiet;
        admitted = λ e. absurd (false≢true (sym (admission_over s quiet) ∙ e));
        array = array_after quiet;
        sends = (quiet_sends s h sane.possible sane.outbox w.outgoing w.admitted w.sends).now;
        listens = rw (l.address, l.master) (quiet_listens s h w.listens);
      }

  symbol_follows : (b : ℕ) → (kind_of b ≡ Syn → ⊥) → Follows (since_next h b) (hears s (Symbol b)).station
  symbol_follows b n =
      let l = hears_lasting s (Symbol b) in
      record {
        outgoing = out_after (Symbol b);
        admitted = λ e. absurd (false≢true (sym (admission_over s (symbol n)) ∙ e));
        array = array_after (symbol n);
        sends = (symbol_sends s h sane.possible sane.outbox w.outgoing w.admitted w.sends b n).now;
        listens = rw (l.address, l.master) (symbol_listens s h w.admitted w.array w.listens b n);
      }

-- ---- the bus

pub record Together (b : Bus) : Type 0 where
  -- what all have heard
  pub so_far : Since
  -- before the first slot, nothing
  pub idle : b.ran ≡ false → so_far ≡ before
  pub each : (i : ℕ) → i < attached_to b → Follows so_far (station_at b i)

module _ (b : Bus) (r : Reachable b) (w : Together b) where
  one_turn : (i : ℕ) (t : Turn) (bits : ℕ) → (i < attached_to b → Follows w.so_far t.station) → Together (with_bits b i t bits)
  one_turn i t bits f =
      record {
        so_far = w.so_far;
        idle = w.idle;
        each = λ j l. by_seat j (rw (attached_turn b i t bits) at l) (ℕ_discrete j i);
      }
    where
      by_seat : (j : ℕ) → j < attached_to b → Dec (j ≡ i) → Follows w.so_far (turn_at (with_bits b i t bits) j).station
      by_seat j l (yes e) =
          let k : i < attached_to b = omega arith in
          rw (e, turn_same b i t bits (reachable_fit r).array k) (f k)
      by_seat j l (no d) = rw (turn_other b i j t bits d) (w.each j l)

  attach_together : {a : ℕ} {m : Bool} {x : Answer} → Did b (attach a m) x → Together x.bus
  unfolding newcomer
  attach_together (refused _) = w
  attach_together (attached {a = a} {m = m} ran _ _ room) =
      record { so_far = w.so_far; idle = w.idle; each = λ i l. by_seat i l (ℕ_discrete i b.count) }
    where
      by_seat : (i : ℕ) → i < attached_to (with_newcomer b a m) → Dec (i ≡ b.count) → Follows w.so_far (turn_at (with_newcomer b a m) i).station
      by_seat i l (yes e) = rw (e, newcomer_seat b a m (reachable_fit r).array room, w.idle ran) (fresh_follows a m)
      by_seat i l (no d) =
          rw (other_seat b a m i d) (w.each i (omega (arith, attached_newcomer b a m room, attached_before b room)))

  queue_together : {x : Answer} → QueueDid b x → Together x.bus
  queue_together (turned_away _) = w
  queue_together (took {bits = n} i t l g) = one_turn i (holding_more (turn_at b i) t) n after
    where
      after : i < attached_to b → Follows w.so_far (holding_more (turn_at b i) t).station
      after l =
          let f = w.each i l in
          record {
            outgoing =
                accepted_out (station_at b i).address (station_at b i).master (station_at b i).outbox t (reachable_sane r i l).outbox g f.outgoing;
            admitted = f.admitted;
            array = f.array;
            sends = f.sends;
            listens = f.listens;
          }

  reply_together : {a pb sb : ℕ} {bytes : List ℕ} {x : Answer} → Did b (reply a pb sb bytes) x → Together x.bus
  reply_together (refused _) = w
  reply_together (replied {bits = n} i e _) = one_turn i (answering_more (turn_at b i) e) n after
    where
      after : i < attached_to b → Follows w.so_far (answering_more (turn_at b i) e).station
      after l =
          let f = w.each i l in
          record { outgoing = f.outgoing; admitted = f.admitted; array = f.array; sends = f.sends; listens = f.listens }

  all_follow : (x : Sound) (h : Since) → ((s : Station) → Sane s → Follows w.so_far s → Follows h (hears s x).station) → Together (slot_heard b x)
  unfolding slot_heard
  all_follow x h step =
      record {
        so_far = h;
        idle = λ e. absurd (true≢false e);
        each = λ i l.
            let l = rw (attached_slot b x) at l in
            subst (λ (t : Turn). Follows h t.station) (sym (slot_seat b x i (reachable_fit r).array l))
            (step (ready (station_at b i)) (ready_sane (station_at b i) (reachable_sane r i l)) (ready_follows (station_at b i) (w.each i l)));
      }

  no_syn_together : {x : Sound} → NoSyn x → Together (slot_heard b x)
  no_syn_together quiet = all_follow Quiet w.so_far quiet_follows
  no_syn_together (symbol {b = c} n) = all_follow (Symbol c) (since_next w.so_far c) (λ s g f. symbol_follows s g f c n)

  slot_together : (x : Sound) → Together (slot_heard b x)
  slot_together x = by_sound x (λ i. all_follow x (since []) (λ s g f. syn_follows s g f i)) (λ n. no_syn_together n)

  call_together : (c : Call) → Together (after_call b c)
  unfolding slot_run
  call_together (attach a m) = attach_together (did_attach b a m)
  call_together (queue qq zz pb sb bytes) = queue_together (queue_did b qq zz pb sb bytes (reachable_fit r))
  call_together (reply a pb sb bytes) = reply_together (did_reply b a pb sb bytes)
  call_together slot = slot_together (spoken b)
  call_together (heard x) = slot_together x

on_together : Reachable powered_on → Together powered_on
unfolding powered_on attached_to
on_together r = record { so_far = before; idle = λ _. refl; each = λ i l. absurd (not-suc-le-zero l) }

-- so it is after any calls from power-on
pub reachable_together : {b : Bus} → Reachable b → Together b
reachable_together r = by_reachable Together on_together (λ b c r k w. call_together b r w c) r

-- ---- as a slot begins

-- the station in a seat, made ready for the slot
abbrev pub ready_seat : Bus → ℕ → Station
ready_seat b j = ready (station_at b j)

pub follows : {b : Bus} (r : Reachable b) (j : ℕ) → j < attached_to b → Follows (reachable_together r).so_far (ready_seat b j)
follows {b} r j k = ready_follows (station_at b j) ((reachable_together r).each j k)
