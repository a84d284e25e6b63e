-- After an AA, with no telegram held by anybody, nine undisturbed slots are quiet and the tenth is the generator's AA (01, "Generator").
-- Assumes nothing.
use mathlib.Core.Path.{◌≡◌, refl, sym, ap, subst, ◌∙◌}
use mathlib.Core.Bool.{Bool, true, false, cond}
use Prim.Native.Nat.{ℕ, zero, suc, ◌+◌, ◌≤◌, ◌<◌}
use native.Mathlib.Omega.{arith}
use lib.Dec.{ltb}
use lib.ListN.{length, replicate}
use Rattle.station.specs.Admission.{over_now, bids, say_bid}
use Rattle.station.specs.Hear.{hear_quiet, hears}
use Rattle.station.specs.Outbox.{held_in}
use Rattle.station.specs.Station.{syn, ready, says_at, says}
use Rattle.station.specs.Table.{row, heard_nothing}
use Rattle.station.specs.Turn.{goes}
use Rattle.station.specs.declared.phase.Phase.{Phase}
use Rattle.station.specs.declared.phase.Phase.TheVariants.{Silent, Reading, Sending, Awaiting, Judging, Owing, Releasing}
use Rattle.station.specs.declared.phase.Sound.TheVariants.{Quiet, Symbol}
use Rattle.station.specs.declared.station.Station.{Station}
use Rattle.bus.specs.declared.bus.Bus.{Bus}
use Rattle.bus.specs.Bus.{seats}
use Rattle.bus.specs.Slot.{generator_says, spoken, slot_heard, slot_run}
use Rattle.bus.proofs.Generator.{silent_before_nine, sends_after_nine, count_after_quiet}
use Rattle.promises.specs.Calls.{Call, slot, after_call, after_calls, Reachable}
use Rattle.promises.specs.Contest.{SynHeardIn}
use Rattle.promises.specs.Silence.{NobodySays, NobodyHolds}
use Rattle.promises.proofs.Contest.Round.{Mute, silent, reading, Starts, mute_ready}
use Rattle.promises.proofs.Contest.Twelfth.{Begun, begun_heard, hears_word}
use Rattle.promises.proofs.Contest.Word.{InEverySeat, word_quiet, array_after, seats_after}
use Rattle.promises.proofs.Shared.FitKept.{reachable_fit}

-- if nobody says anything, all hear the generator
pub silent_word : (b : Bus) → NobodySays b → spoken b ≡ generator_says b.quiet
silent_word b q = word_quiet b q

-- ---- a station that reads or is silent, and holds nothing

record Calm (s : Station) : Type 0 where
  mute : Mute s.phase
  holds : held_in s.outbox ≡ 0

calm_says : {s : Station} → Calm s → says (ready s) ≡ Quiet
unfolding says say_bid bids
calm_says {s} l = rw (mute_ready s l.mute) (by_phase s.phase l.mute)
  where
    no_bid : (admitted : Bool) → cond (cond admitted (ltb 0 (held_in s.outbox)) false) (Symbol s.address) Quiet ≡ Quiet
    no_bid true = rw l.holds
    no_bid false = refl

    by_phase : (p : Phase) → Mute p → says_at p s ≡ Quiet
    by_phase Silent silent = refl
    by_phase (Reading c p k) reading = no_bid s.admitted
    by_phase (Sending _ _ _) m = elim m [ ]
    by_phase (Awaiting _ _) m = elim m [ ]
    by_phase (Judging _ _ _ _) m = elim m [ ]
    by_phase Owing m = elim m [ ]
    by_phase Releasing m = elim m [ ]

calm_at : {s : Station} → Calm s → {p : Phase} → Mute p → Calm (row p heard_nothing (bids s) (over_now s)).station
unfolding goes
calm_at l silent = record { mute = silent; holds = l.holds }
calm_at l reading = record { mute = reading; holds = l.holds }

calm_quiet : {s : Station} → Calm s → Calm (hears s Quiet).station
unfolding hears hear_quiet
calm_quiet l = calm_at l l.mute

starts_calm : {s : Station} → Starts s → held_in s.outbox ≡ 0 → Calm s
starts_calm st h = record { mute = subst Mute (sym st.opens.phase) reading; holds = h }

-- ---- k quiet slots since

record Quieted (k : ℕ) (b : Bus) : Type 0 where
  array : length b.turns ≡ seats
  quiet : b.quiet ≡ k
  each : InEverySeat Calm b

quieted_word : {k : ℕ} {b : Bus} → Quieted k b → spoken b ≡ generator_says k
quieted_word {b = b} l = silent_word b (λ j h. calm_says (l.each j h)) ∙ ap generator_says l.quiet

one_more : (k : ℕ) (b : Bus) → k < 9 → Quieted k b → Quieted (suc k) (slot_run b)
one_more k b h l = rw (hears_word b Quiet (quieted_word l ∙ silent_before_nine k h)) after
  where
    after : Quieted (suc k) (slot_heard b Quiet)
    after =
        record {
          array = array_after b Quiet l.array;
          quiet = count_after_quiet b (omega (arith, l.quiet)) ∙ omega (arith, l.quiet);
          each = seats_after Calm Calm b Quiet l.array (λ s e. rw (mute_ready s e.mute) (calm_quiet e)) l.each;
        }

more : (n k : ℕ) (b : Bus) → k + n ≤ 9 → Quieted k b → Quieted (k + n) (after_calls b (replicate n slot))
unfolding after_calls
more zero k b h l = subst (λ (m : ℕ). Quieted m b) (omega arith) l
more (suc n) k b h l =
    subst (λ (m : ℕ). Quieted m (after_calls (slot_run b) (replicate n slot))) (omega arith)
    (more n (suc k) (slot_run b) (omega arith) (one_more k b (omega arith) l))

-- ---- the theorem

-- any calls from power-on, then a slot in which AA is heard, however it came about; nobody holds a telegram after it
module _ {b : Bus} (r : Reachable b) (c : Call) (s : SynHeardIn b c) (none : NobodyHolds (after_call b c)) where
  quieted : Quieted 0 (after_call b c)
  quieted =
      let g : Begun (after_call b c) = begun_heard b (reachable_fit r) s in
      record { array = g.array; quiet = g.quiet; each = λ j h. starts_calm (g.each j h) (none j h) }

  -- after eight undisturbed slots at most, the next is quiet
  pub nine_quiet : (n : ℕ) → n ≤ 8 → spoken (after_calls (after_call b c) (replicate n slot)) ≡ Quiet
  nine_quiet n h = quieted_word (more n 0 (after_call b c) (omega arith) quieted) ∙ silent_before_nine (0 + n) (omega arith)

  -- after nine it is AA
  pub tenth_is_aa : spoken (after_calls (after_call b c) (replicate 9 slot)) ≡ Symbol syn
  tenth_is_aa = quieted_word (more 9 0 (after_call b c) (omega arith) quieted) ∙ sends_after_nine 9 (omega arith)
