-- A turn of `run`'s loop, whole tens at once or one slot, is as many slots, one after the other. Assumes nothing.
use Rattle.std.proofs.Common.{◌≡◌, ℕ, suc, ◌+◌, ◌-◌, ◌%◌, ◌^◌, ◌<◌, ◌≤◌, Bool, true, false, cond, ltb, List, sym, ap, ◌∙◌, arith, ltb-true}
use Rattle.station.specs.declared.phase.Sound.{Sound}
use Rattle.station.specs.declared.station.Turn.{Turn}
use Rattle.bus.specs.declared.bus.Bus.{Bus}
use Rattle.bus.specs.declared.find.Query.TheVariants.{WasTold, Restless}
use Rattle.bus.specs.Bus.{attached_to}
use Rattle.bus.specs.Find.{there_is}
use Rattle.bus.specs.Run.{runs}
use Rattle.bus.specs.Slot.{generator_next, spoken, turned, map_first, turns_after, owns_among, latest, began_after, waiting_after, slot_heard, slot_run}
use Rattle.bus.specs.Waiting.{bids_among}
use Rattle.bus.specs.Strides.{rests_with, at_rest, by_tens}
use Rattle.bus.proofs.Tens.{and_second, slots_later, tens}

-- ---- whole tens

tens_mean : (b : Bus) (restless : Bool) (left : ℕ) → restless ≡ there_is b Restless → by_tens b.quiet restless left ≡ true
    → (9 < left) × (at_rest b ≡ true)
unfolding by_tens at_rest
tens_mean b restless left e h =
    let f = and_second (ltb 9 left) _ h in
    (ltb-true 9 left f.0, ap (rests_with b.quiet) (sym e) ∙ f.1)

pub tens_on : (b : Bus) (restless : Bool) (left : ℕ) → restless ≡ there_is b Restless → by_tens b.quiet restless left ≡ true
    → runs left b ≡ runs (left % 10) (slots_later b (left - left % 10))
tens_on b restless left e h =
    let m = tens_mean b restless left e h in
    tens left b m.1 m.0

pub tens_less : (b : Bus) (restless : Bool) (left : ℕ) → restless ≡ there_is b Restless → by_tens b.quiet restless left ≡ true
    → left % 10 < left
tens_less b restless left e h = omega (arith, (tens_mean b restless left e h).0)

-- ---- one slot

-- the bus after a slot, field by field
pub heard_is : (b next : Bus) (word : Sound) → next.turns ≡ map_first (turned word) (attached_to b) b.turns → next.count ≡ b.count
    → next.slot ≡ (b.slot + 1) % 2 ^ 32 → next.ran ≡ true → next.quiet ≡ generator_next b.quiet word → next.began ≡ began_after b word
    → next.waiting ≡ waiting_after b word → next ≡ slot_heard b word
unfolding slot_heard
heard_is b next word t c s r q o w = λ i. record { turns = t i; count = c i; slot = s i; ran = r i; quiet = q i; began = o i; waiting = w i }

-- the slot of the latest owns line, as the loop over the stations finds it
pub began_is : (b : Bus) (word : Sound) (turns : List Turn) (j : ℕ) {owns : Bool} {slot began r : ℕ} → j ≡ attached_to b → turns ≡ turns_after b word
    → owns ≡ owns_among j turns → slot ≡ (b.slot + 1) % 2 ^ 32 → began ≡ b.began → r ≡ latest owns slot began → r ≡ began_after b word
began_is b word turns j e t o s p q = rw (q, o, s, p, t, e)

-- who waits, as the loop over the stations finds it
pub waiting_is : (b : Bus) (word : Sound) (turns : List Turn) (j : ℕ) {bits : ℕ} → j ≡ attached_to b → turns ≡ turns_after b word
    → bits ≡ bids_among j turns → bits ≡ waiting_after b word
waiting_is b word turns j e t o = rw (o, t, e)

-- all hear what is said: an undisturbed one
pub slot_spoken : (b : Bus) {word : Sound} → word ≡ spoken b → slot_heard b word ≡ slot_run b
unfolding slot_run
slot_spoken b w = ap (slot_heard b) w

-- ---- one slot of the run

module _ (b next : Bus) (left : ℕ) (some : 0 < left) (e : next ≡ slot_run b) where
  one : (n : ℕ) → runs (suc n) b ≡ cond (there_is next WasTold) (record { bus = next; left = n }) (runs n next)
  unfolding runs
  one n = rw e

  one_left : runs left b ≡ cond (there_is next WasTold) (record { bus = next; left = left - 1 }) (runs (left - 1) next)
  one_left =
      let f : suc (left - 1) ≡ left = omega arith in
      ap (λ (k : ℕ). runs k b) (sym f) ∙ one (left - 1)

  -- somebody was told something: the run stops there
  pub stops : there_is next WasTold ≡ true → runs left b ≡ record { bus = next; left = left - 1 }
  stops t = one_left ∙ rw t

  -- nobody was: it goes on from there
  pub continues : there_is next WasTold ≡ false → runs left b ≡ runs (left - 1) next
  continues t = one_left ∙ rw t

-- nothing is left
pub ends : (b : Bus) (left : ℕ) → left ≤ 0 → runs left b ≡ record { bus = b; left = left }
unfolding runs
ends b left h =
    let e : left ≡ 0 = omega arith in
    rw e
