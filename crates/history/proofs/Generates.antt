-- The generator says what the run of quiet slots says, after any calls from power-on; with silent stations all hear it. Assumes nothing.
use mathlib.Core.Path.{◌≡◌, refl, ap, ◌∙◌}
use mathlib.Core.Bool.{Bool, true, false, cond}
use mathlib.Core.List.{List, [], ◌∷◌}
use Prim.Native.Nat.{ℕ, suc, ◌+◌, ◌%◌, ◌<◌, ◌≤◌}
use native.Mathlib.Omega.{arith}
use borrow.Author.Tests.{ltb-true, ltb-false, eq-eqb, ne_eqb}
use lib.Dec.{eqb, ltb}
use Rattle.station.specs.declared.phase.Sound.{Sound}
use Rattle.station.specs.declared.phase.Sound.TheVariants.{Quiet, Symbol}
use Rattle.bus.specs.declared.bus.Bus.{Bus}
use Rattle.bus.specs.Bus.{Answer}
use Rattle.bus.specs.Bus.{powered_on}
use Rattle.bus.specs.Slot.{generator_says, generator_next, spoken, slot_heard, slot_run}
use Rattle.promises.specs.Calls.{Call, attach, queue, reply, slot, heard, after_call, after_calls}
use Rattle.promises.specs.Silence.{NobodySays}
use Rattle.promises.proofs.Silence.{silent_word}
use Rattle.promises.proofs.Shared.Seats.{Did, refused, attached, queued, replied, did_attach, did_queue, did_reply}
use Rattle.history.specs.Generator.{sounds_call, sounds_calls, sounds, quiet_run, generates}

-- one quiet slot more
one_more : (r q : ℕ) → q ≡ r % 10 → q < 9 → q + 1 ≡ suc r % 10
one_more r q e l = omega arith

ten : (r q : ℕ) → q ≡ r % 10 → 9 ≤ q → 0 ≡ suc r % 10
ten r q e l = omega arith

next_quiet : (r q : ℕ) → q ≡ r % 10 → generator_next q Quiet ≡ suc r % 10
next_quiet r q e = by (ltb q 9) refl
  where
    by : (t : Bool) → ltb q 9 ≡ t → cond t (q + 1) 0 ≡ suc r % 10
    by true i = one_more r q e (ltb-true q 9 i)
    by false i = ten r q e (ltb-false q 9 i)

next_run : (hs : List Sound) (q : ℕ) → q ≡ quiet_run hs % 10 → (h : Sound) → generator_next q h ≡ quiet_run (h ∷ hs) % 10
next_run hs q e Quiet = next_quiet (quiet_run hs) q e
next_run hs q e (Symbol s) = refl

-- a call that is no slot leaves the count
did_quiet : {b : Bus} {c : Call} {x : Answer} → Did b c x → x.bus.quiet ≡ b.quiet
did_quiet (refused _) = refl
did_quiet (attached _ _ _ _) = refl
did_quiet (queued _ _ _) = refl
did_quiet (replied _ _ _) = refl

pub call_counts : (b : Bus) (hs : List Sound) → b.quiet ≡ quiet_run hs % 10 → (c : Call) → (after_call b c).quiet ≡ quiet_run (sounds_call b hs c) % 10
unfolding slot_run slot_heard
call_counts b hs e (attach a m) = did_quiet (did_attach b a m) ∙ e
call_counts b hs e (queue qq zz pb sb bytes) = did_quiet (did_queue b qq zz pb sb bytes) ∙ e
call_counts b hs e (reply a pb sb bytes) = did_quiet (did_reply b a pb sb bytes) ∙ e
call_counts b hs e slot = next_run hs b.quiet e (spoken b)
call_counts b hs e (heard h) = next_run hs b.quiet e h

calls_count : (b : Bus) (hs : List Sound) (cs : List Call) → b.quiet ≡ quiet_run hs % 10 → (after_calls b cs).quiet ≡ quiet_run (sounds_calls b hs cs) % 10
unfolding after_calls sounds_calls
calls_count b hs [] e = e
calls_count b hs (c ∷ cs) e = calls_count (after_call b c) (sounds_call b hs c) cs (call_counts b hs e c)

says_nine : (q : ℕ) → q < 10 → generator_says q ≡ cond (eqb q 9) (Symbol 0xAA) Quiet
unfolding generator_says
says_nine q l = by (ltb q 9) refl
  where
    by : (t : Bool) → ltb q 9 ≡ t → cond t Quiet (Symbol 0xAA) ≡ cond (eqb q 9) (Symbol 0xAA) Quiet
    by true i = rw (ne_eqb q 9 (λ e. omega (arith, ltb-true q 9 i)))
    by false i = rw (eq-eqb q 9 (omega (arith, ltb-false q 9 i)))

below_ten : (r : ℕ) → r % 10 < 10
below_ten r = omega arith

pub none : powered_on.quiet ≡ 0
unfolding powered_on
none = refl

pub counted_says : (b : Bus) (hs : List Sound) → b.quiet ≡ quiet_run hs % 10 → generator_says b.quiet ≡ generates hs
unfolding generates
counted_says b hs e = ap generator_says e ∙ says_nine (quiet_run hs % 10) (below_ten (quiet_run hs))

-- what the generator says in the next slot
pub generator_as_observed : (cs : List Call) → generator_says (after_calls powered_on cs).quiet ≡ generates (sounds cs)
generator_as_observed cs = counted_says (after_calls powered_on cs) (sounds cs) (calls_count powered_on [] cs none)

-- ---- silent stations

-- after any calls from power-on, if no attached station says anything in the next slot, all hear the generator in it
pub silent_as_observed : (cs : List Call) → NobodySays (after_calls powered_on cs) → spoken (after_calls powered_on cs) ≡ generates (sounds cs)
silent_as_observed cs q = silent_word (after_calls powered_on cs) q ∙ generator_as_observed cs

-- up to eight slots were quiet in a row: no AA
pub no_aa_before_nine : (cs : List Call) → quiet_run (sounds cs) ≤ 8 → NobodySays (after_calls powered_on cs) → spoken (after_calls powered_on cs) ≡ Quiet
unfolding generates
no_aa_before_nine cs l q = silent_as_observed cs q ∙ rw (ne_eqb (quiet_run (sounds cs) % 10) 9 (λ e. omega arith))

-- nine: AA
pub aa_after_nine : (cs : List Call) → quiet_run (sounds cs) ≡ 9 → NobodySays (after_calls powered_on cs) → spoken (after_calls powered_on cs) ≡ Symbol 0xAA
unfolding generates
aa_after_nine cs e q = silent_as_observed cs q ∙ rw e
