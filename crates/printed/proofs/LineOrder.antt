-- The events of every bus stand in 01's order, and nothing that a station is told is left out. Assumes nothing.
use mathlib.Core.Path.{◌≡◌, refl, ap}
use mathlib.Core.Bool.{Bool, true, false, cond}
use mathlib.Core.Logic.{◌⊎◌, inl, inr, ⊎_elim}
use mathlib.Core.List.{List, [], ◌∷◌, ◌++◌, map, append_assoc, append-nil, Memᴰ}
use Prim.Native.Nat.{ℕ, zero, suc, ◌+◌, ◌*◌, ◌≤◌, ◌<◌}
use native.Mathlib.Omega.{arith}
use lib.ListN.{length, get_or, length-take}
use lib.Seq.{get_or-take}
use Rattle.wire.specs.declared.part.Telegram.{Telegram}
use Rattle.station.specs.Events.{Event, events_as, tells}
use Rattle.station.specs.declared.phase.Told.{Told}
use Rattle.station.specs.declared.phase.Told.TheVariants.{Silence, Owns, Taken, Failed, Free, FailedFree, Given, Answered}
use Rattle.station.specs.declared.station.Turn.{Turn}
use Rattle.bus.specs.Bus.{unseated, attached_to, attached_turns, turn_at}
use Rattle.bus.specs.Events.{comes_last, those, lines_of, tellings, Line, line, events}
use Rattle.bus.specs.Time.{time_of}
use Rattle.bus.specs.declared.bus.Bus.{Bus}
use Rattle.bus.proofs.EventsTold.{untimed}
use Rattle.bus.proofs.Loops.{attached_fit}
use Rattle.printed.specs.Order.{rank, TellsAt, InOrder, none, next}

-- where a pass begins
abbrev pass : Bool → ℕ
pass false = 0
pass true = 1000

here : {e : Event} {es : List Event} → Memᴰ e (e ∷ es)
here = mathlib.Core.List.Memᴰ.head refl

module _ (b : Bus) where
  earlier : {m n : ℕ} {es : List Event} → n ≤ m → InOrder b m es → InOrder b n es
  earlier l none = none
  earlier {m} {n} l (next {e = e} i t k w) = let k : n ≤ rank e.word i = omega arith in next i t k w

  -- a line that comes next, and behind it what may come later
  comes : {n m : ℕ} {e : Event} {es : List Event} (i : ℕ) → TellsAt b i e → n ≤ rank e.word i → rank e.word i < m → InOrder b m es → InOrder b n (e ∷ es)
  comes i t k l w = next i t k (earlier l w)

  -- one station in one pass, and behind it the next stations
  station_order : (last : Bool) (told : Told) (a : ℕ) (p : Telegram) (i : ℕ) {n : ℕ} {rest : List Event} → ((e : Event) → Memᴰ e (events_as told a p) → TellsAt b i e)
      → n ≤ pass last + i * 10 → InOrder b (pass last + (i + 1) * 10) rest → InOrder b n (those last (events_as told a p) ++ rest)
  station_order last Silence a p i t l w = earlier (omega arith) w
  station_order true Owns a p i t l w = earlier (omega arith) w
  station_order false Owns a p i t l w = comes i (t _ here) (omega arith) (omega arith) w
  station_order true Taken a p i t l w = earlier (omega arith) w
  station_order false Taken a p i t l w = comes i (t _ here) (omega arith) (omega arith) w
  station_order true (Failed f) a p i t l w = earlier (omega arith) w
  station_order false (Failed f) a p i t l w = comes i (t _ here) (omega arith) (omega arith) w
  station_order true Free a p i t l w = earlier (omega arith) w
  station_order false Free a p i t l w = comes i (t _ here) (omega arith) (omega arith) w
  station_order true (FailedFree f) a p i t l w = earlier (omega arith) w
  station_order false (FailedFree f) a p i t l w =
      comes {m = i * 10 + 3} i (t _ here) (omega arith) (omega arith) (comes i (t _ (mathlib.Core.List.Memᴰ.tail here)) (omega arith) (omega arith) w)
  station_order true Given a p i t l w = comes i (t _ here) (omega arith) (omega arith) w
  station_order false Given a p i t l w = earlier (omega arith) w
  station_order true Answered a p i t l w = comes i (t _ here) (omega arith) (omega arith) w
  station_order false Answered a p i t l w = earlier (omega arith) w

  -- stations in seats one after the other
  record Seats (from : ℕ) (ts : List Turn) : Type 0 where
    within : (k : ℕ) → k < length ts → from + k < attached_to b
    sits : (k : ℕ) → k < length ts → turn_at b (from + k) ≡ get_or ts k unseated

  first : {i : ℕ} {t : Turn} {ts : List Turn} → Seats i (t ∷ ts) → (e : Event) → Memᴰ e (tells t) → TellsAt b i e
  first {i} {t} s e m =
      let q : i + 0 ≡ i = omega arith in
      record { attached = omega (arith, s.within 0 (omega arith)); tells_it = rw (← q, s.sits 0 (omega arith)) m }

  others : {i : ℕ} {t : Turn} {ts : List Turn} → Seats i (t ∷ ts) → Seats (i + 1) ts
  others {i} s =
      record {
        within = λ k l. omega (arith, s.within (suc k) (omega arith));
        sits = λ k l. let q : i + 1 + k ≡ i + suc k = omega arith in rw q (s.sits (suc k) (omega arith));
      }

  pass_order : (last : Bool) (ts : List Turn) (i : ℕ) {n : ℕ} {rest : List Event} → Seats i ts
      → n ≤ pass last + i * 10 → InOrder b (pass last + (i + length ts) * 10) rest → InOrder b n (lines_of last ts ++ rest)
  unfolding tells
  pass_order last [] i s l w = earlier (omega arith) w
  pass_order last (t ∷ ts) i s l w =
      rw append_assoc
      (station_order last t.told t.station.address t.station.part i (first s) l (pass_order last ts (i + 1) (others s) (omega arith) (earlier (omega arith) w)))

  seated : Seats 0 (attached_turns b)
  unfolding turn_at
  seated =
      record {
        within = λ k l. omega (arith, length-take (attached_to b) b.turns);
        sits = λ k l.
            let q : 0 + k ≡ k = omega arith in
            let j : k < attached_to b = omega (arith, length-take (attached_to b) b.turns) in
            rw (q, get_or-take (attached_to b) b.turns k unseated j);
      }

  -- every bus
  pub tellings_in_order : InOrder b 0 (tellings b)
  unfolding tellings
  tellings_in_order =
      let ts = attached_turns b in
      let n : length ts ≤ 32 = omega (arith, length-take (attached_to b) b.turns, attached_fit b) in
      pass_order false ts 0 seated (omega arith)
      (rw append-nil at (pass_order true ts 0 {n = pass false + (0 + length ts) * 10} {rest = []} seated (omega arith) none))

  -- and so its events, all of one time
  pub events_in_order : InOrder b 0 (map (λ (l : Line). l.event) (events b))
  events_in_order = rw (untimed b) tellings_in_order

-- ---- nothing is left out

-- a line is one of the first or one of the last
either : {e : Event} (es : List Event) → Memᴰ e es → Memᴰ e (those false es) ⊎ Memᴰ e (those true es)
either [] m = absurd (mathlib.Core.List.Memᴰ.not-nil m)
either {e} (x ∷ es) m = by (comes_last x.word) (mathlib.Core.List.Memᴰ.cases_cons m) (either es)
  where
    by : (t : Bool) → (e ≡ x) ⊎ Memᴰ e es → (Memᴰ e es → Memᴰ e (those false es) ⊎ Memᴰ e (those true es))
        → Memᴰ e (cond t (those false es) (x ∷ those false es)) ⊎ Memᴰ e (cond t (x ∷ those true es) (those true es))
    by true (inl q) on = inr (mathlib.Core.List.Memᴰ.head q)
    by false (inl q) on = inl (mathlib.Core.List.Memᴰ.head q)
    by true (inr m) on = ⊎_elim (λ f. inl f) (λ l. inr (mathlib.Core.List.Memᴰ.tail l)) (on m)
    by false (inr m) on = ⊎_elim (λ f. inl (mathlib.Core.List.Memᴰ.tail f)) (λ l. inr l) (on m)

of_station : {e : Event} (last : Bool) (ts : List Turn) (k : ℕ) → k < length ts → Memᴰ e (those last (tells (get_or ts k unseated))) → Memᴰ e (lines_of last ts)
of_station last [] k l m = absurd (omega arith)
of_station last (t ∷ ts) zero l m = mathlib.Core.List.Memᴰ.append_left (lines_of last ts) m
of_station last (t ∷ ts) (suc k) l m = mathlib.Core.List.Memᴰ.append_right (those last (tells t)) (of_station last ts k (omega arith) m)

-- who is told something has a seat
has_seat : {e : Event} (ts : List Turn) (k : ℕ) → Memᴰ e (tells (get_or ts k unseated)) → k < length ts
unfolding tells
has_seat [] k m = absurd (mathlib.Core.List.Memᴰ.not-nil m)
has_seat (t ∷ ts) zero m = omega arith
has_seat (t ∷ ts) (suc k) m = omega (arith, has_seat ts k m)

tellings_all : (b : Bus) (seat : ℕ) (e : Event) → TellsAt b seat e → Memᴰ e (tellings b)
unfolding tellings turn_at
tellings_all b seat e t =
    let ts = attached_turns b in
    let m : Memᴰ e (tells (get_or ts seat unseated)) = rw (get_or-take (attached_to b) b.turns seat unseated t.attached) t.tells_it in
    let l = has_seat ts seat m in
    ⊎_elim (λ f. mathlib.Core.List.Memᴰ.append_left (lines_of true ts) (of_station false ts seat l f)) (λ f. mathlib.Core.List.Memᴰ.append_right (lines_of false ts) (of_station true ts seat l f))
    (either (tells (get_or ts seat unseated)) m)

mem_map : {A B : Type 0} (f : A → B) {x : A} (l : List A) → Memᴰ x l → Memᴰ (f x) (map f l)
mem_map f [] m = absurd (mathlib.Core.List.Memᴰ.not-nil m)
mem_map f (y ∷ l) m = ⊎_elim (λ q. mathlib.Core.List.Memᴰ.head (ap f q)) (λ k. mathlib.Core.List.Memᴰ.tail (mem_map f l k)) (mathlib.Core.List.Memᴰ.cases_cons m)

-- what a station is told is among the events, with the slot's time
pub events_all : (b : Bus) (seat : ℕ) (e : Event) → TellsAt b seat e → Memᴰ (line (time_of b) e) (events b)
unfolding events
events_all b seat e t = mem_map (line (time_of b)) (tellings b) (tellings_all b seat e t)
