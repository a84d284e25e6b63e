-- A slot's lines heard one after the other, station by station in two passes. Assumes nothing.
use mathlib.Core.Path.{◌≡◌, refl, sym, subst}
use mathlib.Core.Bool.{Bool, true, false}
use mathlib.Core.List.{List, [], ◌∷◌, ◌++◌}
use Prim.Native.Nat.{ℕ, zero, suc, ◌<◌}
use native.Mathlib.Omega.{arith}
use lib.ListN.{length, get_or}
use lib.Seq.{get_or-take, length-take-le}
use Rattle.station.specs.Events.{Event, events_as, tells}
use Rattle.station.specs.declared.phase.Told.{Told}
use Rattle.station.specs.declared.station.Turn.{Turn}
use Rattle.bus.specs.Bus.{unseated, attached_to, attached_turns, turn_at}
use Rattle.bus.specs.Events.{those, lines_of, tellings, events}
use Rattle.bus.specs.declared.bus.Bus.{Bus}
use Rattle.bus.proofs.EventsTold.{untimed}
use Rattle.bus.proofs.Loops.{attached_fit}
use Rattle.promises.proofs.Shared.Seats.{Whole}
use Rattle.pairs.specs.Ended.{in_front}
use Rattle.pairs.specs.Hear.{heard_events, events_in}
use Rattle.pairs.specs.declared.Heard.{Heard}
use Rattle.pairs.proofs.HeardLines.{heard_append}

-- what holds of what was heard, and of the lines, latest first
abbrev pub Fact : Type 1
Fact = Heard → List Event → Type 0

-- these lines lead from P to Q
pub record Goes (P Q : Fact) (es : List Event) : Type 0 where
  pub leads : (h : Heard) (since : List Event) → P h since → Q (heard_events h es) (in_front es since)

front_on : (es fs since : List Event) → in_front (es ++ fs) since ≡ in_front fs (in_front es since)
unfolding in_front
front_on [] fs since = refl
front_on (e ∷ es) fs since = front_on es fs (e ∷ since)

pub goes_on : {P Q R : Fact} (es fs : List Event) → Goes P Q es → Goes Q R fs → Goes P R (es ++ fs)
goes_on es fs f g =
    record { leads = λ h since p. rw (sym (heard_append h es fs), front_on es fs since) (g.leads (heard_events h es) (in_front es since) (f.leads h since p)) }

pub goes_none : {P : Fact} → Goes P P []
unfolding heard_events in_front
goes_none = record { leads = λ h since p. p }

-- ---- one pass over some stations

module _ (last : Bool) where
  abbrev pub lines_at : Turn → List Event
  lines_at t = those last (tells t)

  all_go : {P : Fact} (ts : List Turn) → ((j : ℕ) → j < length ts → Goes P P (lines_at (get_or ts j unseated))) → Goes P P (lines_of last ts)
  all_go [] f = goes_none
  all_go (t ∷ ts) f = goes_on (lines_at t) (lines_of last ts) (f 0 (omega arith)) (all_go ts (λ j l. f (suc j) (omega arith)))

  -- one of them leads from P to Q, those before it keep P, those behind it Q
  through : {P Q : Fact} (ts : List Turn) (i : ℕ) → i < length ts
      → ((j : ℕ) → j < i → Goes P P (lines_at (get_or ts j unseated)))
      → Goes P Q (lines_at (get_or ts i unseated))
      → ((j : ℕ) → j < length ts → i < j → Goes Q Q (lines_at (get_or ts j unseated)))
      → Goes P Q (lines_of last ts)
  through [] i l f g k = absurd (omega arith)
  through (t ∷ ts) zero l f g k = goes_on (lines_at t) (lines_of last ts) g (all_go ts (λ j l. k (suc j) (omega arith) (omega arith)))
  through (t ∷ ts) (suc i) l f g k =
      goes_on (lines_at t) (lines_of last ts) (f 0 (omega arith))
      (through ts i (omega arith) (λ j l. f (suc j) (omega arith)) g (λ j l d. k (suc j) (omega arith) (omega arith)))

-- ---- the slot

slot_events : (b : Bus) → events_in (events b) ≡ lines_of false (attached_turns b) ++ lines_of true (attached_turns b)
unfolding tellings
slot_events b = untimed b

module _ (b : Bus) (w : Whole b) where
  taken_seats : length (attached_turns b) ≡ attached_to b
  taken_seats = length-take-le (attached_to b) b.turns (omega (arith, attached_fit b))

  in_seat : (j : ℕ) → j < attached_to b → get_or (attached_turns b) j unseated ≡ turn_at b j
  unfolding turn_at
  in_seat j l = get_or-take (attached_to b) b.turns j unseated l

  at_seat : {P Q : Fact} (last : Bool) (j : ℕ) → j < attached_to b → Goes P Q (lines_at last (turn_at b j)) → Goes P Q (lines_at last (get_or (attached_turns b) j unseated))
  at_seat {P} {Q} last j l g = subst (λ (t : Turn). Goes P Q (lines_at last t)) (sym (in_seat j l)) g

  both : {P Q R : Fact} → Goes P Q (lines_of false (attached_turns b)) → Goes Q R (lines_of true (attached_turns b)) → Goes P R (events_in (events b))
  both {P} {Q} {R} f g =
      subst (λ (es : List Event). Goes P R es) (sym (slot_events b)) (goes_on (lines_of false (attached_turns b)) (lines_of true (attached_turns b)) f g)

  -- every station keeps P
  pub each_keeps : {P : Fact} → ((last : Bool) (j : ℕ) → j < attached_to b → Goes P P (lines_at last (turn_at b j))) → Goes P P (events_in (events b))
  each_keeps {P} f = both (pass false) (pass true)
    where
      pass : (last : Bool) → Goes P P (lines_of last (attached_turns b))
      pass last = all_go last (attached_turns b) (λ j l. let k : j < attached_to b = omega (arith, taken_seats) in at_seat last j k (f last j k))

  -- one station leads from P to Q in the first pass and from Q to R in the second, every other keeps them
  pub one_leads : {P Q R : Fact} (i : ℕ) → i < attached_to b
      → ((j : ℕ) → j < attached_to b → (j ≡ i → ⊥) → Goes P P (lines_at false (turn_at b j)) × Goes Q Q (lines_at false (turn_at b j)))
      → Goes P Q (lines_at false (turn_at b i))
      → ((j : ℕ) → j < attached_to b → (j ≡ i → ⊥) → Goes Q Q (lines_at true (turn_at b j)) × Goes R R (lines_at true (turn_at b j)))
      → Goes Q R (lines_at true (turn_at b i))
      → Goes P R (events_in (events b))
  one_leads {P} {Q} {R} i l f p g q = both (pass false f p) (pass true g q)
    where
      pass : {A B : Fact} (last : Bool)
          → ((j : ℕ) → j < attached_to b → (j ≡ i → ⊥) → Goes A A (lines_at last (turn_at b j)) × Goes B B (lines_at last (turn_at b j)))
          → Goes A B (lines_at last (turn_at b i)) → Goes A B (lines_of last (attached_turns b))
      pass last f p =
          through last (attached_turns b) i (omega (arith, taken_seats))
          (λ j k. let m : j < attached_to b = omega arith in at_seat last j m (f j m (λ e. omega arith)).0)
          (at_seat last i l p)
          (λ j k d. let m : j < attached_to b = omega (arith, taken_seats) in at_seat last j m (f j m (λ e. omega arith)).1)

-- the lines of one station, by what it is told
pub by_told : {P Q : Fact} (last : Bool) (t : Turn) (s : Told) → t.told ≡ s
    → Goes P Q (those last (events_as s t.station.address t.station.part)) → Goes P Q (lines_at last t)
unfolding tells
by_told {P} {Q} last t s e g =
    subst (λ (x : Told). Goes P Q (those last (events_as x t.station.address t.station.part))) (sym e) g
