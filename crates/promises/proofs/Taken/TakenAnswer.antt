-- When a slave is told Taken and a master owns the wire, that master is told Answered in that very slot, with exactly the answer
-- that was sent, and no one else hands out anything (01, "Acknowledgement", "Answer"). Assumes nothing.
use mathlib.Core.Path.{◌≡◌, refl, sym, ap, ◌∙◌}
use mathlib.Core.Logic.{◌≢◌, ◌⊎◌, inl, inr}
use mathlib.Core.Bool.{Bool, true, false, true≢false}
use mathlib.Core.List.{List, [], ◌∷◌, ◌++◌, append-nil}
use Prim.Native.Nat.{ℕ, ◌≤◌, ◌<◌}
use native.Mathlib.Omega.{arith}
use native.Mathlib.Decide.{dec_lt}
use lib.ListN.{length}
use Rattle.wire.specs.Form.{bytes_of, telegram_form, answer_form, holding}
use Rattle.wire.specs.Symbol.{kind_of}
use Rattle.wire.specs.declared.form.Wire.{Wire}
use Rattle.wire.specs.declared.part.Load.{Load}
use Rattle.wire.specs.declared.part.Telegram.{Telegram}
use Rattle.wire.specs.declared.symbol.Kind.TheVariants.{Syn}
use Rattle.wire.proofs.Buffer.{held_front}
use Rattle.wire.specs.Part.{is_answer_part}
use Rattle.station.specs.Phase.{owner}
use Rattle.station.specs.Addressed.{for_all}
use Rattle.station.specs.Station.{ack, answering, ready}
use Rattle.station.specs.Turn.{goes}
use Rattle.station.specs.Table.{handed_out, judged_taken, judges, taken, hear_reply}
use Rattle.station.specs.Admission.{noted}
use Rattle.station.specs.Hear.{hears}
use Rattle.wire.specs.declared.part.Part.{Part}
use Rattle.wire.specs.declared.part.Part.TheVariants.{MasterPart, AnswerPart}
use Rattle.station.specs.declared.phase.Attempt.{Attempt}
use Rattle.station.specs.declared.phase.Attempt.TheVariants.{First, Again}
use Rattle.station.specs.declared.phase.Phase.{Phase}
use Rattle.station.specs.declared.phase.Phase.TheVariants.{Silent, Reading, Sending, Awaiting, Judging, Owing, Releasing}
use Rattle.station.specs.declared.phase.Sound.{Sound}
use Rattle.station.specs.declared.phase.Sound.TheVariants.{Symbol}
use Rattle.station.specs.declared.phase.Told.TheVariants.{Taken}
use Rattle.station.specs.declared.station.Station.{Station}
use Rattle.station.specs.declared.station.Turn.{Turn}
use Rattle.station.proofs.Frame.{Begins, as_it_stood, answers as takes, ready_begins}
use Rattle.station.proofs.Ownership.{ready_ownership}
use Rattle.bus.specs.declared.bus.Bus.{Bus}
use Rattle.bus.specs.Bus.{attached_to, turn_at}
use Rattle.promises.specs.Calls.{Call, after_call, Reachable}
use Rattle.promises.specs.Fit.{station_at}
use Rattle.promises.specs.Slots.{AllHear}
use Rattle.promises.specs.Transfers.{IsAnswered, HandsOutNothing, ToMaster}
use Rattle.promises.proofs.Taken.AllBeside.{reachable_beside}
use Rattle.promises.proofs.Shared.AtPhase.{symbol_at}
use Rattle.promises.proofs.Taken.Beside.{past_part, Beside, not_past, silent, owes, answers, awaits, ready_beside}
use Rattle.promises.proofs.Shared.FitKept.{ready_apart}
use Rattle.promises.proofs.Shared.InStep.{hands_out}
use Rattle.promises.proofs.OneOwner.{one_owner}
use Rattle.promises.proofs.Taken.OthersTold.{hands_out_nothing, stranger}
use Rattle.promises.proofs.SameSymbol.{same_symbol}
use Rattle.promises.proofs.Taken.SenderHeard.{form_two}
use Rattle.promises.proofs.Shared.Stations.{reachable_sane}
use Rattle.promises.proofs.Taken.TakenBy.{TakenBy, last_sent, acknowledged, taken_only_if}
use Rattle.promises.proofs.Taken.Together.{reachable_together, ready_seat, follows}
use Rattle.promises.proofs.Taken.Upto.{Since, Upto, sends_master, Sends, other, sending, awaiting, Stranger, wanted, Listens, Follows}

-- ---- while the owner's telegram is under way, nobody answers

abbrev awaits_answer : Phase → Bool
awaits_answer Silent = false
awaits_answer (Reading c p a) = false
awaits_answer (Sending i p a) = false
awaits_answer (Awaiting p a) = is_answer_part p
awaits_answer (Judging p a m k) = false
awaits_answer Owing = false
awaits_answer Releasing = false

module _ {h : Since} {a : ℕ} {m : Bool} {part : Telegram} {p : Phase} (w : Listens h a m part p) (t : Telegram) (o : Stranger a t) (n : Attempt)
    (xs : List ℕ) (u : Upto t n xs h) where
  by_phase : {q : Phase} → p ≡ q → awaits_answer q ≡ false → awaits_answer p ≡ false
  by_phase e f = ap awaits_answer e ∙ f

  part_under_way : (y : ℕ) (ys : List ℕ) → telegram_form t ≡ xs ++ (y ∷ ys) → awaits_answer p ≡ false
  part_under_way y ys f = by_zz (wanted a m t.zz) refl
    where
      deaf : wanted a m t.zz ≡ false → (n ≡ Again) ⊎ (2 ≤ length xs) → awaits_answer p ≡ false
      deaf e z = by_phase (w.deaf t n xs (y ∷ ys) o e u f z) refl

      by_length : wanted a m t.zz ≡ false → n ≡ First → Dec (length xs < 2) → awaits_answer p ≡ false
      by_length e i (yes l) = by_phase (w.reads t n xs y ys o (inr (i, l)) u f).phase refl
      by_length e i (no l) = deaf e (inr (longer l))
        where
          longer : (length xs < 2 → ⊥) → 2 ≤ length xs
          longer l = omega (arith, l)

      by_attempt : wanted a m t.zz ≡ false → (k : Attempt) → n ≡ k → awaits_answer p ≡ false
      by_attempt e First i = by_length e i (dec_lt (length xs) 2)
      by_attempt e Again i = deaf e (inl i)

      by_zz : (r : Bool) → wanted a m t.zz ≡ r → awaits_answer p ≡ false
      by_zz true e = by_phase (w.reads t n xs y ys o (inl e) u f).phase refl
      by_zz false e = by_attempt e n refl

  part_sent : xs ≡ telegram_form t → for_all t.zz ≡ false → awaits_answer p ≡ false
  part_sent f one = by_zz (wanted a m t.zz) refl
    where
      by_zz : (r : Bool) → wanted a m t.zz ≡ r → awaits_answer p ≡ false
      by_zz true e = by_phase (w.judges t n xs o e one u f).phase refl
      by_zz false e =
          by_phase (w.deaf t n xs [] o e u (sym f ∙ sym (append-nil xs)) (inr (omega (arith, ap length (f ∙ (form_two t).2))))) refl

-- who owns the wire sends its telegram, or that is behind it
owner_is : (p : Phase) → owner p ≡ true → past_part p ≡ false → sends_master p ≡ true
owner_is Silent e f = e
owner_is (Reading c MasterPart a) e f = e
owner_is (Reading c AnswerPart a) e f = absurd (true≢false f)
owner_is (Sending i p a) e f = e
owner_is (Awaiting p a) e f = e
owner_is (Judging MasterPart a m k) e f = e
owner_is (Judging AnswerPart a m k) e f = absurd (true≢false f)
owner_is Owing e f = e
owner_is Releasing e f = absurd (true≢false f)

-- ---- the owner and a station that awaits the acknowledgement of its answer

record Awaited (s x : Station) : Type 0 where
  answer : Load
  attempt : Attempt
  acknowledged_it : Bool
  judges_it : s.phase ≡ Judging AnswerPart attempt true acknowledged_it
  holds : x.out ≡ holding (answer_form answer)
  same : bytes_of s.part.load ≡ bytes_of answer

awaited : {h : Since} {n : Attempt} (s x : Station) → Follows h s → Follows h x → (s.address ≡ x.address → ⊥) → owner s.phase ≡ true
    → x.phase ≡ Awaiting AnswerPart n → Beside s.part s.phase x.phase x.out → Awaited s x
awaited {h} {n} s x w v apart own waits now = go s.phase x.phase x.out refl refl refl now
  where
    clash : {q : Phase} → x.phase ≡ q → awaits_answer q ≡ false → Awaited s x
    clash e f = absurd (true≢false (ap awaits_answer (sym waits ∙ e) ∙ f))

    not_yet : (p : Phase) → s.phase ≡ p → sends_master p ≡ true → Sends h s.address s.master s.part s.out p → Awaited s x
    not_yet p i f (other g) = absurd (true≢false (sym f ∙ g))
    not_yet p i f (sending {n = n} xs y ys u e l o g) =
        clash refl (part_under_way v.listens s.part (stranger g apart) n xs u y ys e)
    not_yet p i f (awaiting {n = n} xs u e one o g) = clash refl (part_sent v.listens s.part (stranger g apart) n xs u e one)

    go : (p q : Phase) (out : Wire) → s.phase ≡ p → x.phase ≡ q → x.out ≡ out → Beside s.part p q out → Awaited s x
    go p q out i j r (not_past e) = not_yet p i (owner_is p (sym (ap owner i) ∙ own) e) (rw i at w.sends)
    go p q out i j r silent = clash j refl
    go p q out i j r owes = clash j refl
    go p q out i j r (answers _ _ _ _ _ _ _ _ _ _ _) = clash j refl
    go p q out i j r (awaits {n = n} {k = k} l full o e) =
        record { answer = l; attempt = n; acknowledged_it = k; judges_it = i; holds = r ∙ o; same = e }

-- 00: the owner hands the answer out
module _ {n : Attempt} {k : Bool} (s : Station) (judges_it : s.phase ≡ Judging AnswerPart n true k) where
  plain_ack : kind_of ack ≡ Syn → ⊥
  unfolding kind_of
  plain_ack e = let z : ◌≡◌ {A = ℕ} 0 1 = cc e in omega arith

  hands_out_lem : (l : Load) → bytes_of s.part.load ≡ bytes_of l → IsAnswered (hears s (Symbol ack)) l
  unfolding judges judged_taken handed_out goes noted
  hands_out_lem l e = rw (symbol_at s ack plain_ack (Judging AnswerPart n true k) judges_it) (record { told_answered = refl; same = e })

  -- and no other station anything
  others_nothing : (x : Station) → Beside s.part s.phase x.phase x.out → HandsOutNothing (hears x (Symbol ack))
  unfolding hear_reply taken goes
  others_nothing x now = go s.phase x.phase x.out judges_it refl now
    where
      go : (p q : Phase) (out : Wire) → p ≡ Judging AnswerPart n true k → x.phase ≡ q → Beside s.part p q out
          → HandsOutNothing (hears x (Symbol ack))
      go p q out i j (not_past e) = absurd (true≢false (ap past_part (sym i) ∙ e))
      go p q out i j silent = hands_out_nothing (hears x (Symbol ack)) (ap (λ (t : Turn). hands_out t.told) (symbol_at x ack plain_ack q j))
      go p q out i j owes = let z : ◌≡◌ {A = ℕ} 0 1 = cc i in absurd (omega arith)
      go p q out i j (answers _ _ _ _ _ _ _ _ _ _ _) = let z : ◌≡◌ {A = ℕ} 0 1 = cc i in absurd (omega arith)
      go p q out i j (awaits _ _ _ _) =
          hands_out_nothing (hears x (Symbol ack)) (ap (λ (t : Turn). hands_out t.told) (symbol_at x ack plain_ack q j))

-- ---- the bus

-- who awaits an acknowledgement is as a slot begins as it stood
ready_out : {n : Attempt} (s : Station) → (ready s).phase ≡ Awaiting AnswerPart n → (ready s).out ≡ s.out
unfolding answering
ready_out {n} s = begun (ready_begins s)
  where
    begun : {x : Station} → Begins s x → x.phase ≡ Awaiting AnswerPart n → x.out ≡ s.out
    begun as_it_stood e = refl
    begun (takes _) e = let z : ◌≡◌ {A = ℕ} 0 1 = cc e in absurd (omega arith)

module _ {b : Bus} {c : Call} {h : Sound} (r : Reachable b) (hear : AllHear b c h) (i m : ℕ) (l : i < attached_to b) (k : m < attached_to b)
    (own : owner (station_at b m).phase ≡ true) (d : i ≢ m) where
  beside : (j : ℕ) → j < attached_to b → j ≢ m → Beside (ready_seat b m).part (ready_seat b m).phase (ready_seat b j).phase (ready_seat b j).out
  beside j l d =
      ready_beside (station_at b m) (station_at b j) ((reachable_together r).each m k).array (reachable_sane r j l).entries
      (reachable_beside r m j k l (λ e. d (sym e)))

  not_owner : {p : Phase} → (ready_seat b i).phase ≡ p → owner p ≡ true → ⊥
  not_owner e f = d (one_owner r i m l k (sym (ready_ownership (station_at b i)) ∙ ap owner e ∙ f) own)

  -- only an answer can it be
  answer_taken : {h : Sound} → TakenBy (ready_seat b i) h → (n : Attempt) × ((ready_seat b i).phase ≡ Awaiting AnswerPart n) × (h ≡ Symbol ack)
  answer_taken (last_sent _ e _) = absurd (not_owner e refl)
  answer_taken (acknowledged {p = p} {n = n} _ e f) = by_part p e f
    where
      by_part : {x : ℕ} (p : Part) → (ready_seat b i).phase ≡ Awaiting p n → x ≡ ack
          → (n : Attempt) × ((ready_seat b i).phase ≡ Awaiting AnswerPart n) × (Symbol x ≡ Symbol ack)
      by_part MasterPart e f = absurd (not_owner e refl)
      by_part AnswerPart e f = (n, e, ap Symbol f)

  turned_by_ack : h ≡ Symbol ack → (j : ℕ) → j < attached_to b → turn_at (after_call b c) j ≡ hears (ready_seat b j) (Symbol ack)
  turned_by_ack e j k = same_symbol r hear j k ∙ ap (λ (x : Sound). hears (ready_seat b j) x) e

  pub answer_to_master : (turn_at (after_call b c) i).told ≡ Taken → ToMaster b (after_call b c) i m
  answer_to_master t =
      let q = answer_taken (taken_only_if (ready_seat b i) (ap (λ (t : Turn). t.told) (sym (same_symbol r hear i l)) ∙ t)) in
      let w =
      awaited (ready_seat b m) (ready_seat b i) (follows r m k) (follows r i l) (λ e. ready_apart r i m l k d (sym e))
      (ready_ownership (station_at b m) ∙ own) q.1 (beside i l d) in
      record {
        answer = w.answer;
        was_sent = held_front (station_at b i).out (answer_form w.answer) (sym (ready_out (station_at b i) q.1) ∙ w.holds);
        master = rw (turned_by_ack q.2 m k) (hands_out_lem (ready_seat b m) w.judges_it w.answer w.same);
        no_one_else = λ j k d.
            rw (turned_by_ack q.2 j k) (others_nothing (ready_seat b m) w.judges_it (ready_seat b j) (beside j k d));
      }
