-- A station's phase is in step with the symbols heard since its reading began: what it reads is what was heard, and what it
-- hands out too. Assumes nothing.
use mathlib.Core.Path.{◌≡◌, refl, sym, ap, subst, ◌∙◌}
use mathlib.Core.Bool.{Bool, true, false, cond, false≢true, true≢false}
use mathlib.Core.List.{List, [], ◌∷◌, ◌++◌}
use Prim.Native.Nat.{ℕ}
use native.Mathlib.Omega.{arith}
use borrow.Author.Tests.{ne_eqb}
use lib.Dec.{eqb}
use Rattle.wire.specs.Form.{telegram_form, answer_form}
use Rattle.wire.specs.Reader.{read_one, start_of}
use Rattle.wire.specs.Reading.{Sixteen}
use Rattle.wire.specs.declared.part.Part.{Part}
use Rattle.wire.specs.declared.part.Part.TheVariants.{MasterPart, AnswerPart}
use Rattle.wire.specs.Symbol.{kind_of}
use Rattle.wire.specs.declared.part.Telegram.{Telegram}
use Rattle.wire.specs.declared.reader.Cursor.{Cursor}
use Rattle.wire.specs.declared.symbol.Kind.TheVariants.{Syn}
use Rattle.wire.proofs.SoFar.{SoFar, IsWhole, start}
use Rattle.wire.proofs.OneMore.{step_more, step_whole, whole_form}
use Rattle.wire.proofs.Endings.{array_kept}
use Rattle.wire.proofs.SymbolKind.{kind_syn}
use Rattle.station.specs.declared.phase.Attempt.{Attempt}
use Rattle.station.specs.declared.phase.Attempt.TheVariants.{First, Again}
use Rattle.station.specs.declared.phase.Phase.{Phase}
use Rattle.station.specs.declared.phase.Phase.TheVariants.{Silent, Reading, Sending, Awaiting, Judging, Owing, Releasing}
use Rattle.station.specs.declared.phase.Sound.TheVariants.{Quiet, Symbol}
use Rattle.station.specs.declared.phase.Told.{Told}
use Rattle.station.specs.declared.phase.Told.TheVariants.{Silence, Owns, Taken, Failed, Free, FailedFree, Given, Answered}
use Rattle.station.specs.Addressed.{for_all}
use Rattle.station.specs.Station.{syn, ack, nak}
use Rattle.station.proofs.Moves.{Moves, silent_on, owing_on, reading_waits, awaiting_waits, acknowledges, leaves_released, leaves_disturbed, stops_disturbed, wins, reads_on, not_for_it, reads_in_vain, breaks_answer, gives_broadcast, reads_whole, sends_on, takes_broadcast, sends_whole, awaits_answer, ends_taken, answer_taken, sends_again, ends_failed, answer_failed, gives_and_owes, gives, gives_answer, reads_again, gives_nothing, answer_lost}
use Rattle.promises.specs.Heard.{is_first, since_after, WasHeard}
use Rattle.promises.proofs.Shared.PartAfter.{ForOne, PartAfter, is_oldest, is_read, reading_kept, silent_kept, sending_kept, awaiting_kept, judging_kept, owing_kept, releasing_kept}

-- a phase, the part beside it, and the symbols since its reading began
pub data InStep (part : Telegram) (xs : List ℕ) : Phase → Type 0 where
  silent : Sixteen part.load → InStep part xs Silent
  -- it has read exactly these symbols
  reading : {c : Cursor} {p : Part} {a : Attempt} → SoFar p c part xs → InStep part xs (Reading c p a)
  sending : {i : ℕ} {p : Part} {a : Attempt} → Sixteen part.load → InStep part xs (Sending i p a)
  awaiting : {p : Part} {a : Attempt} → Sixteen part.load → InStep part xs (Awaiting p a)
  -- where the CRC matched, they are a whole part
  judging : {p : Part} {a : Attempt} {m k : Bool} → Sixteen part.load → ForOne p part → (m ≡ true → IsWhole p part xs true)
      → InStep part xs (Judging p a m k)
  owing : Sixteen part.load → InStep part xs Owing
  releasing : Sixteen part.load → InStep part xs Releasing

pub in_step_array : {part : Telegram} {xs : List ℕ} {p : Phase} → InStep part xs p → Sixteen part.load
in_step_array (silent f) = f
in_step_array (reading h) = h.array
in_step_array (sending f) = f
in_step_array (awaiting f) = f
in_step_array (judging f _ _) = f
in_step_array (owing f) = f
in_step_array (releasing f) = f

-- ---- nothing is handed out

abbrev pub hands_out : Told → Bool
hands_out Silence = false
hands_out Owns = false
hands_out Taken = false
hands_out (Failed f) = false
hands_out Free = false
hands_out (FailedFree f) = false
hands_out Given = true
hands_out Answered = true

pub nothing_out : {t : Told} {part : Telegram} {xs : List ℕ} → hands_out t ≡ false → WasHeard t part xs
nothing_out n =
    record {
      broadcast = λ e _. absurd (true≢false (sym (ap hands_out e) ∙ n));
      to_one = λ e _. absurd (true≢false (sym (ap hands_out e) ∙ n));
      message = λ e. absurd (true≢false (sym (ap hands_out e) ∙ n));
      answer = λ e. absurd (true≢false (sym (ap hands_out e) ∙ n));
    }

-- ---- one slot without AA

-- after the slot
pub record Next (t : Told) (part : Telegram) (xs : List ℕ) (q : Phase) : Type 0 where
  pub step : InStep part xs q
  pub out : WasHeard t part xs

told_nothing : {t : Told} {part : Telegram} {xs : List ℕ} {q : Phase} → hands_out t ≡ false → InStep part xs q → Next t part xs q
told_nothing n s = record { step = s; out = nothing_out n }

-- a reader's symbol is one more of its part
no_syn_eqb : (b : ℕ) → (kind_of b ≡ Syn → ⊥) → eqb b syn ≡ false
no_syn_eqb b n = ne_eqb b syn (λ e. n ((kind_syn b).1 e))

start_again : (p : Part) (part : Telegram) → Sixteen part.load → SoFar p (start_of p) part []
start_again p part f = start p part f

read_array : (c : Cursor) (part : Telegram) (b : ℕ) → Sixteen part.load → Sixteen (read_one c part b).part.load
read_array c part b f = array_kept c part b ∙ f

-- the symbols since, as `since_after` computes: one more for a reader, and one more for a judge who hears 00
read_since : (xs : List ℕ) (b : ℕ) → (kind_of b ≡ Syn → ⊥) → cond (cond (eqb b syn) true false) [] (xs ++ (b ∷ [])) ≡ xs ++ (b ∷ [])
read_since xs b n = rw (no_syn_eqb b n)

taken_since : (a : Attempt) (xs : List ℕ) {b : ℕ} → b ≡ ack
    → cond (cond (eqb b syn) true (cond (is_first a) (eqb b nak) false)) [] (xs ++ (b ∷ [])) ≡ xs ++ (ack ∷ [])
taken_since First xs e = rw e
taken_since Again xs e = rw e

-- FF the first time, and 00 to the owner: a reading begins
again_since : (xs : List ℕ) {b : ℕ} → b ≡ nak → cond (cond (eqb b syn) true (eqb b nak)) [] (xs ++ (b ∷ [])) ≡ []
again_since xs e = rw e

answer_since : (xs : List ℕ) {b : ℕ} → b ≡ ack → cond (cond (eqb b syn) true (eqb b ack)) [] (xs ++ (b ∷ [])) ≡ []
answer_since xs e = rw e

-- ---- what is handed out

given_one : {part : Telegram} {xs : List ℕ} → for_all part.zz ≡ false → IsWhole MasterPart part xs true → WasHeard Given part (xs ++ (ack ∷ []))
unfolding telegram_form
given_one o w =
    record {
      broadcast = λ _ e. absurd (false≢true (sym o ∙ e));
      to_one = λ _ _. ap (λ (l : List ℕ). l ++ (ack ∷ [])) (whole_form w);
      message = λ _. w.fit;
      answer = λ e. let z : ◌≡◌ {A = ℕ} 0 1 = cc in absurd (omega arith);
    }

given_all : {part : Telegram} {xs : List ℕ} → for_all part.zz ≡ true → IsWhole MasterPart part xs true → WasHeard Given part xs
unfolding telegram_form
given_all o w =
    record {
      broadcast = λ _ _. whole_form w;
      to_one = λ _ e. absurd (false≢true (sym e ∙ o));
      message = λ _. w.fit;
      answer = λ e. let z : ◌≡◌ {A = ℕ} 0 1 = cc in absurd (omega arith);
    }

answered_out : {part : Telegram} {xs : List ℕ} → IsWhole AnswerPart part xs true → WasHeard Answered part (xs ++ (ack ∷ []))
unfolding answer_form
answered_out w =
    record {
      broadcast = λ e _. let z : ◌≡◌ {A = ℕ} 0 1 = cc in absurd (omega arith);
      to_one = λ e _. let z : ◌≡◌ {A = ℕ} 0 1 = cc in absurd (omega arith);
      message = λ e. let z : ◌≡◌ {A = ℕ} 0 1 = cc in absurd (omega arith);
      answer = λ _. ap (λ (l : List ℕ). l ++ (ack ∷ [])) (whole_form w);
    }

module _ {bid : Bool} {own : ℕ} {part oldest : Telegram} {xs : List ℕ} (kept : Sixteen oldest.load) where
  -- on quiet the symbols are as they were
  pub quiet_next : {p q : Phase} {t : Told} {after : Telegram} → Moves bid own part p Quiet t q → PartAfter part oldest p Quiet t q after → InStep part xs p
      → Next t after xs q
  quiet_next silent_on silent_kept s = told_nothing refl s
  quiet_next owing_on owing_kept s = told_nothing refl s
  quiet_next reading_waits reading_kept s = told_nothing refl s
  quiet_next awaiting_waits awaiting_kept s = told_nothing refl s
  quiet_next acknowledges judging_kept (judging f o w) = told_nothing refl (judging f o w)
  quiet_next leaves_released releasing_kept s = told_nothing refl (silent (in_step_array s))
  quiet_next leaves_disturbed sending_kept s = told_nothing refl (silent (in_step_array s))
  quiet_next stops_disturbed sending_kept s = told_nothing refl (silent (in_step_array s))

  pub symbol_next : {p : Phase} {b : ℕ} {q : Phase} {t : Told} {after : Telegram} → (kind_of b ≡ Syn → ⊥) → Moves bid own part p (Symbol b) t q
      → PartAfter part oldest p (Symbol b) t q after → InStep part xs p → Next t after (since_after p xs (Symbol b)) q
  symbol_next n silent_on silent_kept s = told_nothing refl (silent (in_step_array s))
  symbol_next n owing_on owing_kept s = told_nothing refl (owing (in_step_array s))
  symbol_next n leaves_released releasing_kept s = told_nothing refl (silent (in_step_array s))
  symbol_next n leaves_disturbed sending_kept s = told_nothing refl (silent (in_step_array s))
  symbol_next n stops_disturbed sending_kept s = told_nothing refl (silent (in_step_array s))
  symbol_next n (wins _ _) is_oldest s = told_nothing refl (sending kept)
  symbol_next {b = b} n (wins {c = c} _ _) (is_read _) s = told_nothing refl (sending (read_array c part b (in_step_array s)))
  symbol_next {b = b} n (reads_on {c = c} e) (is_read _) (reading h) =
      told_nothing refl (reading (rw (read_since xs b n) (step_more h b e)))
  symbol_next {b = b} n (not_for_it {c = c} _) (is_read _) s = told_nothing refl (silent (read_array c part b (in_step_array s)))
  symbol_next {b = b} n (reads_in_vain {c = c}) (is_read _) s = told_nothing refl (silent (read_array c part b (in_step_array s)))
  symbol_next {b = b} n (breaks_answer {c = c}) (is_read _) s = told_nothing refl (releasing (read_array c part b (in_step_array s)))
  symbol_next {b = b} n (gives_broadcast {c = c} e f) (is_read _) (reading h) =
      record {
        step = silent (read_array c part b h.array);
        out = rw (read_since xs b n) (given_all f (step_whole h b e));
      }
  symbol_next {b = b} n (reads_whole {c = c} {p = p} {m = m} e) (is_read o) (reading h) =
      told_nothing refl
      (judging (read_array c part b h.array) o
      (λ r. rw (read_since xs b n) (subst (IsWhole p (read_one c part b).part (xs ++ (b ∷ []))) r (step_whole h b e))))
  symbol_next n sends_on sending_kept s = told_nothing refl (sending (in_step_array s))
  symbol_next n (takes_broadcast _) sending_kept s = told_nothing refl (releasing (in_step_array s))
  symbol_next n sends_whole sending_kept s = told_nothing refl (awaiting (in_step_array s))
  symbol_next n (awaits_answer e) awaiting_kept s = told_nothing refl (reading (rw (answer_since xs e) (start AnswerPart part (in_step_array s))))
  symbol_next n (ends_taken _) awaiting_kept s = told_nothing refl (releasing (in_step_array s))
  symbol_next n (answer_taken _) awaiting_kept s = told_nothing refl (silent (in_step_array s))
  symbol_next n (sends_again _) awaiting_kept s = told_nothing refl (sending (in_step_array s))
  symbol_next n ends_failed awaiting_kept s = told_nothing refl (releasing (in_step_array s))
  symbol_next n answer_failed awaiting_kept s = told_nothing refl (silent (in_step_array s))
  symbol_next n (gives_and_owes {a = a} e) judging_kept (judging f o w) =
      record { step = owing f; out = rw (taken_since a xs e) (given_one o (w refl)) }
  symbol_next n (gives {a = a} e) judging_kept (judging f o w) =
      record { step = silent f; out = rw (taken_since a xs e) (given_one o (w refl)) }
  symbol_next n (gives_answer {a = a} e) judging_kept (judging f o w) =
      record { step = releasing f; out = rw (taken_since a xs e) (answered_out (w refl)) }
  symbol_next n (reads_again {p = p} e) judging_kept s = told_nothing refl (reading (rw (again_since xs e) (start_again p part (in_step_array s))))
  symbol_next n gives_nothing judging_kept s = told_nothing refl (silent (in_step_array s))
  symbol_next n answer_lost judging_kept s = told_nothing refl (releasing (in_step_array s))
