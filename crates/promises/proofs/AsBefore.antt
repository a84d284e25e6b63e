-- The rule that E8 took out, kept for these theorems alone: between 4 and 5 queue had a line 6, "the expanded part exceeds 44
-- symbols". It was never given, and every call gives without it what it gave with it. Assumes nothing.
use Prim.Native.Nat.{ℕ, ◌≤◌}
use mathlib.Core.Path.{◌≡◌, refl, sym, ap, ap₂, ◌∙◌}
use mathlib.Core.Bool.{Bool, true, false, cond}
use mathlib.Core.List.{List, [], ◌∷◌, map}
use mathlib.Core.Logic.{◌≢◌}
use native.Mathlib.Omega.{arith}
use borrow.Author.Tests.{le-ltb}
use lib.Dec.{ltb}
use lib.ListN.{length}
use Rattle.std.specs.Prelude.{Option, Some, None}
use Rattle.wire.specs.Form.{telegram_form}
use Rattle.wire.specs.Load.{most_data, load_of}
use Rattle.wire.specs.declared.part.Telegram.{Telegram}
use Rattle.wire.proofs.Fitting.{load_sixteen}
use Rattle.wire.proofs.Symbols.{telegram_at_most_39}
use Rattle.bus.specs.declared.bus.Bus.{Bus}
use Rattle.bus.specs.Bus.{Answer}
use Rattle.bus.specs.declared.find.Query.TheVariants.{Master}
use Rattle.bus.specs.declared.refusal.Refusal.{Refusal}
use Rattle.bus.specs.declared.refusal.Refusal.TheVariants.{Running, NoSuchAddress, InUse, NoRoom, NoMaster, NoTarget, NoSlave, NoCommand, TooMuchData, OutboxFull, BookFull}
use Rattle.std.specs.Prelude.{Result, Ok, Err, ⊤}
use Rattle.bus.specs.Bus.{turn_at, refused_by}
use Rattle.bus.specs.Conditions.{verdict_number}
use Rattle.bus.specs.Find.{first_of}
use Rattle.bus.specs.Queue.{no_target, no_command, holds, queues_from, queues_at, queues}
use Rattle.promises.specs.Calls.{Call, attach, queue, reply, slot, heard, after_call, after_calls}
use Rattle.promises.specs.Slots.{verdict_on}

-- ---- the old list

pub data OldRefusal : Type 0 where
  -- a line that stays
  stays : Refusal → OldRefusal
  -- 6
  too_many_symbols : OldRefusal

pub data OldVerdict : Type 0 where
  done : OldVerdict
  turned_down : OldRefusal → OldVerdict

-- the numbers, as 01 has them
abbrev pub number_then : Refusal → ℕ
number_then Running = 7
number_then NoSuchAddress = 8
number_then InUse = 9
number_then NoRoom = 10
number_then NoMaster = 1
number_then NoTarget = 2
number_then NoSlave = 11
number_then NoCommand = 3
number_then TooMuchData = 4
number_then OutboxFull = 5
number_then BookFull = 12

abbrev pub old_refusal_number : OldRefusal → ℕ
old_refusal_number (stays r) = number_then r
old_refusal_number too_many_symbols = 6

-- 0 where the call is done
abbrev pub old_number : OldVerdict → ℕ
old_number done = 0
old_number (turned_down r) = old_refusal_number r

pub record OldAnswer : Type 0 where
  pub bus : Bus
  pub verdict : OldVerdict

-- what is given now, in the words of the old list
abbrev pub in_old_words : Result ⊤ Refusal → OldVerdict
in_old_words (Ok tt) = done
in_old_words (Err r) = turned_down (stays r)

abbrev pub old_answer : Answer → OldAnswer
old_answer a = record { bus = a.bus; verdict = in_old_words a.verdict }

abbrev pub old_refused_by : Bus → OldRefusal → OldAnswer
old_refused_by b r = record { bus = b; verdict = turned_down r }

-- ---- the old rule of queue: 1, 2, 3, 4, 6, 5 in that order

-- 6: the expanded part exceeds 44 symbols
abbrev pub old_queues_telegram : Bus → ℕ → Telegram → OldAnswer
old_queues_telegram b i t = cond (ltb 44 (length (telegram_form t))) (old_refused_by b too_many_symbols) (old_answer (holds b i t))

abbrev pub old_queues_from : Bus → ℕ → ℕ → ℕ → ℕ → List ℕ → OldAnswer
old_queues_from b i zz pb sb bytes =
    cond (no_target (turn_at b i).station zz) (old_refused_by b (stays NoTarget))
    (cond (no_command pb sb) (old_refused_by b (stays NoCommand))
    (cond (ltb most_data (length bytes)) (old_refused_by b (stays TooMuchData))
    (old_queues_telegram b i (record { qq = (turn_at b i).station.address; zz = zz; pb = pb; sb = sb; load = load_of bytes }))))

abbrev pub old_queues_at : Option ℕ → Bus → ℕ → ℕ → ℕ → List ℕ → OldAnswer
old_queues_at (Some i) b zz pb sb bytes = old_queues_from b i zz pb sb bytes
old_queues_at None b zz pb sb bytes = old_refused_by b (stays NoMaster)

abbrev pub old_queues : Bus → ℕ → ℕ → ℕ → ℕ → List ℕ → OldAnswer
old_queues b qq zz pb sb bytes = old_queues_at (first_of b (Master qq)) b zz pb sb bytes

-- ---- any call by the old rules: the rules of the others did not move

abbrev pub old_verdict_on : Bus → Call → OldVerdict
old_verdict_on b (attach a master) = in_old_words (verdict_on b (attach a master))
old_verdict_on b (queue qq zz pb sb bytes) = (old_queues b qq zz pb sb bytes).verdict
old_verdict_on b (reply a pb sb bytes) = in_old_words (verdict_on b (reply a pb sb bytes))
old_verdict_on b slot = done
old_verdict_on b (heard h) = done

abbrev pub old_after_call : Bus → Call → Bus
old_after_call b (attach a master) = after_call b (attach a master)
old_after_call b (queue qq zz pb sb bytes) = (old_queues b qq zz pb sb bytes).bus
old_after_call b (reply a pb sb bytes) = after_call b (reply a pb sb bytes)
old_after_call b slot = after_call b slot
old_after_call b (heard h) = after_call b (heard h)

-- calls one after the other: what each is given, and the bus after all of them
pub old_verdicts_on : Bus → List Call → List OldVerdict
old_verdicts_on b [] = []
old_verdicts_on b (c ∷ cs) = old_verdict_on b c ∷ old_verdicts_on (old_after_call b c) cs

pub old_after_calls : Bus → List Call → Bus
old_after_calls b [] = b
old_after_calls b (c ∷ cs) = old_after_calls (old_after_call b c) cs

pub verdicts_on : Bus → List Call → List (Result ⊤ Refusal)
verdicts_on b [] = []
verdicts_on b (c ∷ cs) = verdict_on b c ∷ verdicts_on (after_call b c) cs

-- ---- one call

-- a line that stays, before lines that give the same
past : (b : Bus) (t : Bool) (r : Refusal) (x : OldAnswer) (y : Answer) → x ≡ old_answer y
    → cond t (old_refused_by b (stays r)) x ≡ old_answer (cond t (refused_by b r) y)
unfolding refused_by
past b true r x y e = refl
past b false r x y e = e

-- no part has more than 39 symbols, let alone 44: line 6 is passed
line_6_passed : (b : Bus) (i : ℕ) (t : Telegram) → length (telegram_form t) ≤ 39 → old_queues_telegram b i t ≡ old_answer (holds b i t)
line_6_passed b i t h = rw (le-ltb 44 (length (telegram_form t)) (omega arith))

-- a queue call gives what it gave before, and leaves the bus that it left
pub queue_as_before : (b : Bus) (qq zz pb sb : ℕ) (bytes : List ℕ) → old_queues b qq zz pb sb bytes ≡ old_answer (queues b qq zz pb sb bytes)
unfolding queues queues_from refused_by
queue_as_before b qq zz pb sb bytes = go (first_of b (Master qq))
  where
    go : (f : Option ℕ) → old_queues_at f b zz pb sb bytes ≡ old_answer (queues_at f b zz pb sb bytes)
    go (Some i) =
        let t : Telegram = record { qq = (turn_at b i).station.address; zz = zz; pb = pb; sb = sb; load = load_of bytes } in
        past b (no_target (turn_at b i).station zz) NoTarget _ _
        (past b (no_command pb sb) NoCommand _ _
        (past b (ltb most_data (length bytes)) TooMuchData _ _ (line_6_passed b i t (telegram_at_most_39 t (load_sixteen bytes)))))
    go None = refl

-- and so does every call on every bus
pub every_call_as_before : (b : Bus) (c : Call) → (old_verdict_on b c ≡ in_old_words (verdict_on b c)) × (old_after_call b c ≡ after_call b c)
every_call_as_before b (attach a master) = (refl, refl)
every_call_as_before b (queue qq zz pb sb bytes) =
    let e = queue_as_before b qq zz pb sb bytes in
    (ap (λ (x : OldAnswer). x.verdict) e, ap (λ (x : OldAnswer). x.bus) e)
every_call_as_before b (reply a pb sb bytes) = (refl, refl)
every_call_as_before b slot = (refl, refl)
every_call_as_before b (heard h) = (refl, refl)

-- ---- any calls one after the other

pub every_sequence_as_before : (b : Bus) (cs : List Call)
    → (old_verdicts_on b cs ≡ map in_old_words (verdicts_on b cs)) × (old_after_calls b cs ≡ after_calls b cs)
unfolding after_calls verdicts_on old_verdicts_on old_after_calls
every_sequence_as_before b [] = (refl, refl)
every_sequence_as_before b (c ∷ cs) =
    let e = every_call_as_before b c in
    let r = every_sequence_as_before (after_call b c) cs in (
      ap₂ {C = List OldVerdict} ◌∷◌ e.0 (ap (λ (x : Bus). old_verdicts_on x cs) e.1 ∙ r.0),
      ap (λ (x : Bus). old_after_calls x cs) e.1 ∙ r.1,
    )

-- ---- the numbers

-- the others keep their values
pub numbers_stay : (v : Result ⊤ Refusal) → old_number (in_old_words v) ≡ verdict_number v
numbers_stay (Ok tt) = refl
numbers_stay (Err Running) = refl
numbers_stay (Err NoSuchAddress) = refl
numbers_stay (Err InUse) = refl
numbers_stay (Err NoRoom) = refl
numbers_stay (Err NoMaster) = refl
numbers_stay (Err NoTarget) = refl
numbers_stay (Err NoSlave) = refl
numbers_stay (Err NoCommand) = refl
numbers_stay (Err TooMuchData) = refl
numbers_stay (Err OutboxFull) = refl
numbers_stay (Err BookFull) = refl

-- none of them is 6
pub no_number_6 : (v : Result ⊤ Refusal) → verdict_number v ≢ 6
no_number_6 (Ok tt) e = absurd (omega (arith, e))
no_number_6 (Err Running) e = absurd (omega (arith, e))
no_number_6 (Err NoSuchAddress) e = absurd (omega (arith, e))
no_number_6 (Err InUse) e = absurd (omega (arith, e))
no_number_6 (Err NoRoom) e = absurd (omega (arith, e))
no_number_6 (Err NoMaster) e = absurd (omega (arith, e))
no_number_6 (Err NoTarget) e = absurd (omega (arith, e))
no_number_6 (Err NoSlave) e = absurd (omega (arith, e))
no_number_6 (Err NoCommand) e = absurd (omega (arith, e))
no_number_6 (Err TooMuchData) e = absurd (omega (arith, e))
no_number_6 (Err OutboxFull) e = absurd (omega (arith, e))
no_number_6 (Err BookFull) e = absurd (omega (arith, e))

-- the last word on the old rule: no call on any bus was ever given 6
pub never_6 : (b : Bus) (c : Call) → old_number (old_verdict_on b c) ≢ 6
never_6 b c e = no_number_6 (verdict_on b c) (sym (numbers_stay (verdict_on b c)) ∙ sym (ap old_number (every_call_as_before b c).0) ∙ e)
