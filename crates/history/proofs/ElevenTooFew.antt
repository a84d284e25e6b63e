-- Eleven slots are too few for the twelve-slot clause: in the run of P9 nobody is told owns before the twelfth. Assumes nothing.
use mathlib.Core.Path.{◌≡◌, refl, sym, ap, subst, ◌∙◌}
use mathlib.Core.Bool.{Bool, true, false, true≢false}
use mathlib.Core.List.{List, [], ◌∷◌, ◌++◌}
use Prim.Native.Nat.{◌<◌}
use native.Mathlib.Omega.{arith}
use lib.ListN.{length}
use Rattle.station.specs.declared.phase.Told.{Told}
use Rattle.station.specs.declared.phase.Told.TheVariants.{Silence, Owns, Taken, Failed, Free, FailedFree, Given, Answered}
use Rattle.bus.specs.declared.bus.Bus.{Bus}
use Rattle.bus.specs.Slot.{spoken, slot_heard, slot_run}
use Rattle.promises.specs.Calls.{Call, attach, queue, reply, slot, heard, after_call}
use Rattle.promises.specs.Contest.{queued, Undisturbed, by_all, between, Each, Contends, LeastRank, OwnsInOneOf, this_slot, later}
use Rattle.promises.specs.Slots.{slots_in}
use Rattle.promises.proofs.Computed.TwelfthRun.{Line, line, told, lines, begins, ten_contends, ten_least, ten_owns_in_the_twelfth}

-- the calls of that run without the last slot
abbrev pub eleven : List Call
eleven =
    queue 0x00 0x08 0x50 0x02 []
    ∷ slot ∷ slot ∷ slot ∷ slot ∷ slot ∷ slot ∷ slot ∷ slot ∷ slot ∷ slot ∷ []

abbrev is_owns : Told → Bool
is_owns Silence = false
is_owns Owns = true
is_owns Taken = false
is_owns (Failed f) = false
is_owns Free = false
is_owns (FailedFree f) = false
is_owns Given = false
is_owns Answered = false

-- 10 is told nothing but in the last line
abbrev NotYet : List Line → Type 0
NotYet [] = Unit {0}
NotYet (l ∷ []) = Unit {0}
NotYet (l ∷ k ∷ ls) = (l.ten ≡ Silence) × NotYet (k ∷ ls)

first : (l : Line) (ls : List Line) → 0 < length ls → NotYet (l ∷ ls) → l.ten ≡ Silence
first l [] e n = absurd (omega arith)
first l (k ∷ ls) e n = n.0

others : (l : Line) (ls : List Line) → NotYet (l ∷ ls) → NotYet ls
others l [] n = tt
others l (k ∷ ls) n = n.1

-- a call more
skipped : (b : Bus) (c : Call) (cs : List Call) → NotYet (lines b (c ∷ cs)) → NotYet (lines (after_call b c) cs)
skipped b (attach a m) cs n = n
skipped b (queue qq zz pb sb bytes) cs n = n
skipped b (reply a pb sb bytes) cs n = n
skipped b slot cs n =
    others (line (spoken b) (told (slot_run b) 0) (told (slot_run b) 1) (told (slot_run b) 2)) (lines (after_call b slot) cs) n
skipped b (heard h) cs n =
    others (line h (told (slot_heard b h) 0) (told (slot_heard b h) 1) (told (slot_heard b h) 2)) (lines (after_call b (heard h)) cs) n

some_line : (b : Bus) (cs : List Call) → 0 < length (lines b (cs ++ (slot ∷ [])))
some_line b [] = omega arith
some_line b (attach a m ∷ cs) = some_line (after_call b (attach a m)) cs
some_line b (queue qq zz pb sb bytes ∷ cs) = some_line (after_call b (queue qq zz pb sb bytes)) cs
some_line b (reply a pb sb bytes ∷ cs) = some_line (after_call b (reply a pb sb bytes)) cs
some_line b (slot ∷ cs) = omega arith
some_line b (heard h ∷ cs) = omega arith

too_few : {b : Bus} {cs : List Call} → OwnsInOneOf 0 b cs → NotYet (lines b (cs ++ (slot ∷ []))) → ⊥
too_few (this_slot {b} {cs} w) n =
    let e = first (line (spoken b) (told (slot_run b) 0) (told (slot_run b) 1) (told (slot_run b) 2)) (lines (after_call b slot) (cs ++ (slot ∷ []))) (some_line (after_call b slot) cs) n in
    true≢false (ap is_owns (sym w.told ∙ e))
too_few (later {b} {c} {cs} w) n = too_few w (skipped b c (cs ++ (slot ∷ [])) n)

-- the hypotheses of the clause, with eleven slots, and not its conclusion
pub record ElevenTooFew : Type 0 where
  pub contends : Contends begins 0
  pub least : LeastRank begins 0
  pub undisturbed : Each Undisturbed eleven
  pub slots : slots_in (slot ∷ eleven) ≡ 11
  pub not_yet : OwnsInOneOf 0 begins (slot ∷ eleven) → ⊥

pub eleven_too_few : ElevenTooFew
eleven_too_few =
    record {
      contends = ten_contends;
      least = ten_least;
      undisturbed =
          (between queued, (by_all, (by_all, (by_all, (by_all, (by_all, (by_all, (by_all, (by_all, (by_all, (by_all, tt)))))))))));
      slots = refl;
      not_yet = λ w. too_few w
          (subst NotYet (sym ten_owns_in_the_twelfth)
          (refl, (refl, (refl, (refl, (refl, (refl, (refl, (refl, (refl, (refl, (refl, tt))))))))))));
    }
