-- While a master owns the wire and its telegram is behind it, every other station is silent, or sends that master an answer, and
-- the two are in step: what the master has read of the answer is what the other has sent of it. Assumes nothing.
use mathlib.Core.Path.{◌≡◌, refl, sym, ap, subst, ◌∙◌}
use mathlib.Core.Logic.{inr}
use mathlib.Core.Bool.{Bool, true, false, cond, true≢false, false≢true}
use mathlib.Core.List.{List, [], ◌∷◌, ◌++◌, append_assoc, append-nil}
use Prim.Native.Nat.{ℕ}
use native.Mathlib.Omega.{arith}
use borrow.Author.Tests.{eqb-true}
use lib.Dec.{eqb}
use lib.ListN.{length, length-append}
use Rattle.wire.specs.Form.{bytes_of, form, covered, telegram_form, answer_form, holding}
use Rattle.wire.specs.Reader.{answer_start, with_load, read_one}
use Rattle.wire.specs.Reading.{Sixteen}
use Rattle.wire.specs.Symbol.{kind_of}
use Rattle.wire.specs.declared.form.Wire.{Wire}
use Rattle.wire.specs.declared.part.Load.{Load}
use Rattle.wire.specs.declared.part.Telegram.{Telegram}
use Rattle.wire.specs.declared.reader.Cursor.{Cursor}
use Rattle.wire.specs.declared.reader.Outcome.TheVariants.{More, Whole}
use Rattle.wire.specs.declared.reader.Place.{Place}
use Rattle.wire.specs.declared.reader.Place.TheVariants.{Qq, Zz, Pb, Sb, Nn, Data, Crc}
use Rattle.wire.specs.declared.symbol.Kind.TheVariants.{Syn}
use Rattle.wire.proofs.Reached.{Reached, reached_none, reached_more, form_more, form_whole}
use Rattle.wire.proofs.Symbols.{telegram_fits, answer_fits}
use Rattle.wire.specs.Part.{is_answer_part}
use Rattle.station.specs.Addressed.{for_all, answered}
use Rattle.station.specs.Table.{whole, read_on, read_on_at, reads, handed_out, judged_taken, read_again, judges, left, sent_whole, sent, hear_own, taken, nak_heard, hear_reply, hear_reading}
use Rattle.station.specs.Admission.{bids, noted}
use Rattle.station.specs.Station.{ack, nak, answering, ready_at, ready}
use Rattle.station.specs.Replies.{answer_for}
use Rattle.station.specs.Turn.{goes, with_part}
use Rattle.station.specs.Hear.{hears}
use Rattle.wire.specs.declared.part.Part.TheVariants.{MasterPart, AnswerPart}
use Rattle.station.specs.declared.phase.Attempt.{Attempt}
use Rattle.station.specs.declared.phase.Attempt.TheVariants.{First, Again}
use Rattle.station.specs.declared.phase.Phase.{Phase}
use Rattle.station.specs.declared.phase.Phase.TheVariants.{Silent, Reading, Sending, Awaiting, Judging, Owing, Releasing}
use Rattle.station.specs.declared.phase.Sound.{Sound}
use Rattle.station.specs.declared.phase.Sound.TheVariants.{Quiet, Symbol}
use Rattle.station.specs.declared.phase.Told.{Told}
use Rattle.station.specs.declared.phase.Told.TheVariants.{Silence}
use Rattle.station.specs.declared.station.Station.{Station}
use Rattle.station.specs.declared.station.Turn.{Turn}
use Rattle.station.proofs.Aa.{NoSyn, quiet, symbol}
use Rattle.station.proofs.Frame.{Begins, as_it_stood, answers as takes, ready_begins}
use Rattle.station.proofs.Moves.{Moves, silent_on, owing_on, reading_waits, awaiting_waits, acknowledges, leaves_released, leaves_disturbed, stops_disturbed, wins, reads_on, not_for_it, reads_in_vain, breaks_answer, gives_broadcast, reads_whole, sends_on, takes_broadcast, sends_whole, awaits_answer, ends_taken, answer_taken, sends_again, ends_failed, answer_failed, gives_and_owes, gives, gives_answer, reads_again, gives_nothing, answer_lost}
use Rattle.station.proofs.Possible.{Possible, InAnswer, no_pb, Fit, reading_answer, answer_goes_on, bids_at_start}
use Rattle.station.proofs.Turned.{moves_of}
use Rattle.promises.proofs.Shared.Arrays.{AllEntriesFull, answer_full}
use Rattle.promises.proofs.Shared.AtPhase.{symbol_at, quiet_at}
use Rattle.promises.proofs.Taken.OthersTold.{stranger, all_given}
use Rattle.promises.proofs.Shared.Outgoing.{own_as, Outgoing}
use Rattle.promises.proofs.Taken.SenderHeard.{form_two, due_is, sent_last, sent_more}
use Rattle.promises.proofs.Taken.Upto.{Since, Upto, sends_master, Sends, other, sending, awaiting, JudgesIt, Follows}

-- the owner's part was taken or came to nothing: it awaits, reads or judges the answer, or releases the wire
abbrev pub past_part : Phase → Bool
past_part Silent = false
past_part (Reading c p a) = is_answer_part p
past_part (Sending i p a) = false
past_part (Awaiting p a) = false
past_part (Judging p a m k) = is_answer_part p
past_part Owing = false
past_part Releasing = true

-- by a station's part and phase: the phase of another one, and what that one sends
pub data Beside (part : Telegram) : Phase → Phase → Wire → Type 0 where
  not_past : {p q : Phase} {out : Wire} → past_part p ≡ false → Beside part p q out
  silent : {p : Phase} {out : Wire} → Beside part p Silent out
  owes : {out : Wire} → Beside part (Reading answer_start AnswerPart First) Owing out
  -- of the answer l it has sent the symbols xs, and they are what is read
  answers : {c : Cursor} {n : Attempt} {out : Wire} {k : ℕ} (l : Load) (memory : Telegram) (xs : List ℕ) (y : ℕ) (ys : List ℕ) → Sixteen l
      → Sixteen memory.load → out ≡ holding (answer_form l) → answer_form l ≡ xs ++ (y ∷ ys) → length xs ≡ k
      → Reached answer_start memory xs c part → Beside part (Reading c AnswerPart n) (Sending k AnswerPart n) out
  -- and all of them, and the bytes of l are read
  awaits : {n : Attempt} {k : Bool} {out : Wire} (l : Load) → Sixteen l → out ≡ holding (answer_form l) → bytes_of part.load ≡ bytes_of l
      → Beside part (Judging AnswerPart n true k) (Awaiting AnswerPart n) out

pub record BesideTurn (t u : Turn) : Type 0 where
  pub now : Beside t.station.part t.station.phase u.station.phase u.station.out

-- ---- who neither sends a master part nor is past it is not past it next

enters : {bid : Bool} {own : ℕ} {part : Telegram} {p q : Phase} {h : Sound} {t : Told} → Moves bid own part p h t q
    → past_part p ≡ false → sends_master p ≡ false → past_part q ≡ false
enters silent_on e f = refl
enters owing_on e f = refl
enters reading_waits e f = e
enters awaiting_waits e f = refl
enters acknowledges e f = e
enters leaves_released e f = refl
enters leaves_disturbed e f = refl
enters stops_disturbed e f = refl
enters (wins _ _) e f = refl
enters (reads_on _) e f = e
enters (not_for_it _) e f = refl
enters reads_in_vain e f = refl
enters breaks_answer e f = e
enters (gives_broadcast _ _) e f = refl
enters (reads_whole _) e f = e
enters sends_on e f = refl
enters (takes_broadcast _) e f = f
enters sends_whole e f = refl
enters (awaits_answer _) e f = f
enters (ends_taken _) e f = f
enters (answer_taken _) e f = refl
enters (sends_again _) e f = refl
enters ends_failed e f = f
enters answer_failed e f = refl
enters (gives_and_owes _) e f = refl
enters (gives _) e f = refl
enters (gives_answer _) e f = e
enters (reads_again _) e f = e
enters gives_nothing e f = refl
enters answer_lost e f = e

-- ---- tests, and who is silent

stays_silent : (t : Turn) (x : Station) {d : Sound} → NoSyn d → x.phase ≡ Silent → BesideTurn t (hears x d)
unfolding goes
stays_silent t x quiet e = rw (quiet_at x Silent e) (record { now = silent })
stays_silent t x (symbol {b = b} k) e = rw (symbol_at x b k Silent e) (record { now = silent })

tested : {t u v : Turn} (r : Bool) → (r ≡ true → BesideTurn t u) → (r ≡ false → BesideTurn t v) → BesideTurn t (cond r u v)
tested true f g = f refl
tested false f g = g refl

-- a test that comes out alike for both
alike : {t t' u u' : Turn} (r q : Bool) → r ≡ q → BesideTurn t u → BesideTurn t' u' → BesideTurn (cond r t t') (cond q u u')
alike true true e f g = f
alike true false e f g = absurd (true≢false e)
alike false true e f g = absurd (false≢true e)
alike false false e f g = g

both : {t t' u u' : Turn} (r : Bool) → BesideTurn t u → BesideTurn t' u' → BesideTurn (cond r t t') (cond r u u')
both r f g = alike r r refl f g

-- ---- the answer

-- the owner reads one symbol more of it
module _ (s : Station) (c : Cursor) (n : Attempt) (b : ℕ) (possible : Possible s) (at : s.phase ≡ Reading c AnswerPart n) (k : kind_of b ≡ Syn → ⊥) where
  reads_answer : hears s (Symbol b) ≡ reads (noted s) b c AnswerPart n
  unfolding hear_reading
  reads_answer = symbol_at s b k (Reading c AnswerPart n) at ∙ by_bid (bids s) refl
    where
      by_bid : (r : Bool) → bids s ≡ r → hear_reading (bids s) (noted s) b c AnswerPart n ≡ reads (noted s) b c AnswerPart n
      by_bid true e = let q = sym at ∙ bids_at_start s possible e in let z : ◌≡◌ {A = ℕ} 0 1 = cc q in absurd (omega arith)
      by_bid false e = rw e

  in_answer : InAnswer c.place
  in_answer = place_of (subst Fit at possible.fit)
    where
      place_of : Fit (Reading c AnswerPart n) → InAnswer c.place
      place_of (reading_answer w) = w

  -- the station with what it has read
  abbrev reader : Station
  reader = with_part (noted s) (read_one c s.part b).part

  reads_more : (read_one c s.part b).outcome ≡ More → hears s (Symbol b) ≡ goes reader (Reading (read_one c s.part b).cursor AnswerPart n) Silence
  unfolding reads read_on noted
  reads_more e = reads_answer ∙ rw e (by_place (read_one c s.part b).cursor.place refl (Reading (read_one c s.part b).cursor AnswerPart n))
    where
      by_place : (l : Place) → (read_one c s.part b).cursor.place ≡ l → (on : Phase) → read_on_at l reader on ≡ goes reader on Silence
      by_place Qq q on = refl
      by_place Zz q on = refl
      by_place Pb q on = absurd (no_pb (rw q at (answer_goes_on c s.part b in_answer)))
      by_place Sb q on = refl
      by_place Nn q on = refl
      by_place (Data i) q on = refl
      by_place Crc q on = refl

  reads_last : (read_one c s.part b).outcome ≡ Whole true
      → hears s (Symbol b) ≡ goes reader (Judging AnswerPart n true false) Silence
  unfolding reads whole noted
  reads_last e = reads_answer ∙ rw e

answer_begins : (l : Load) → (y : ℕ) × (ys : List ℕ) × (answer_form l ≡ y ∷ ys)
unfolding answer_form form covered
answer_begins l = (_, _, refl)

module _ (s x : Station) (n : Attempt) (b : ℕ) (k : kind_of b ≡ Syn → ⊥) where
  module _ (c : Cursor) (possible : Possible s) (at : s.phase ≡ Reading c AnswerPart n) (l : Load) (memory : Telegram) (xs : List ℕ) (y : ℕ)
      (full : Sixteen l) (array : Sixteen memory.load) (o : x.out ≡ holding (answer_form l))
      (reached : Reached answer_start memory xs c s.part) where
    answer_heard : (ys : List ℕ) → answer_form l ≡ xs ++ (y ∷ ys) → y ≡ b
        → BesideTurn (hears s (Symbol b)) (sent (noted x) (length xs) AnswerPart n)
    unfolding answer_form sent_whole goes noted
    answer_heard [] f e =
        let g = form_whole AnswerPart (with_load memory l) memory s.part c xs b tt full array reached (f ∙ rw e refl) in
        rw (reads_last s c n b possible at k g.0, sent_last (noted x) (answer_form l) xs y [] f o (answer_fits l full) refl AnswerPart n)
        (record { now = awaits l full o g.1.bytes })
    answer_heard (z ∷ zs) f e =
        let q : answer_form l ≡ xs ++ (b ∷ z ∷ zs) = f ∙ rw e refl in
        let m = form_more AnswerPart (with_load memory l) memory s.part c xs b tt full array reached z zs q in
        rw (reads_more s c n b possible at k m, sent_more (noted x) (answer_form l) xs y (z ∷ zs) f o (answer_fits l full) (omega arith) AnswerPart n)
        (record {
          now =
              answers l memory (xs ++ (b ∷ [])) z zs full array o (q ∙ sym (append_assoc xs (b ∷ []) (z ∷ zs))) (length-append xs (b ∷ []))
              (reached_more answer_start c memory s.part xs b reached m);
        })

    -- the symbol that is due is heard, and read; or another one, and the sender is silent
    answer_turn : (ys : List ℕ) → answer_form l ≡ xs ++ (y ∷ ys) → x.phase ≡ Sending (length xs) AnswerPart n
        → BesideTurn (hears s (Symbol b)) (hears x (Symbol b))
    unfolding hear_own goes noted
    answer_turn ys f e =
        rw (symbol_at x b k (Sending (length xs) AnswerPart n) e, due_is (noted x) (answer_form l) xs y ys f o (answer_fits l full))
        (tested (eqb y b) (λ e. answer_heard ys f (eqb-true y b e)) (λ _. record { now = silent }))

  -- 00 and any other symbol end it for both; FF the first time starts it again for both
  judged_turn : {q : Bool} (l : Load) → s.phase ≡ Judging AnswerPart n true q → x.phase ≡ Awaiting AnswerPart n → Sixteen l
      → Sixteen s.part.load → x.out ≡ holding (answer_form l) → BesideTurn (hears s (Symbol b)) (hears x (Symbol b))
  unfolding judges judged_taken handed_out hear_reply taken goes noted
  judged_turn {q} l at waits full array o =
      rw (symbol_at s b k (Judging AnswerPart n true q) at, symbol_at x b k (Awaiting AnswerPart n) waits)
      (both (eqb b ack) (record { now = silent }) (both (eqb b nak) (again n) (record { now = silent })))
    where
      again : (n : Attempt) → BesideTurn (read_again n (noted s) AnswerPart) (nak_heard n (noted x) AnswerPart)
      again First =
          let q = answer_begins l in
          record { now = answers l s.part [] q.0 q.1 full array o q.2 refl (reached_none answer_start s.part) }
      again Again = record { now = silent }

-- ---- the master part comes to its end

module _ {h : Since} (s x : Station) (w : Follows h s) (v : Follows h x) (apart : s.address ≡ x.address → ⊥) (n : Attempt) (b : ℕ)
    (k : kind_of b ≡ Syn → ⊥) where
  left_tested : {t t' u : Turn} (r : Bool) → (r ≡ true → BesideTurn t u) → (r ≡ false → BesideTurn t' u) → BesideTurn (cond r t t') u
  left_tested true f g = f refl
  left_tested false f g = g refl

  silent_now : (t : Turn) → (hears x (Symbol b)).station.phase ≡ Silent → BesideTurn t (hears x (Symbol b))
  silent_now t e = record { now = rw e silent }

  module _ (xs : List ℕ) (u : Upto s.part n xs h) (o : s.out ≡ holding (telegram_form s.part))
      (g : Outgoing s.address s.master s.part) where
    part_heard : (y : ℕ) (ys : List ℕ) → telegram_form s.part ≡ xs ++ (y ∷ ys) → y ≡ b
        → BesideTurn (sent (noted s) (length xs) MasterPart n) (hears x (Symbol b))
    unfolding sent_whole goes noted
    part_heard y [] f e =
        rw (sent_last (noted s) (telegram_form s.part) xs y [] f o (telegram_fits s.part g.full) refl MasterPart n)
        (left_tested (for_all s.part.zz)
        (λ a. silent_now _ (all_given x v s.part (stranger g apart) n xs u b k (sym (f ∙ rw e refl)) a).1) (λ _. record { now = not_past refl }))
    part_heard y (z ∷ zs) f e =
        rw (sent_more (noted s) (telegram_form s.part) xs y (z ∷ zs) f o (telegram_fits s.part g.full) (omega arith) MasterPart n)
        (record { now = not_past refl })

    part_turn : (y : ℕ) (ys : List ℕ) → telegram_form s.part ≡ xs ++ (y ∷ ys) → s.phase ≡ Sending (length xs) MasterPart n
        → BesideTurn (hears s (Symbol b)) (hears x (Symbol b))
    unfolding hear_own left noted
    part_turn y ys f e =
        rw (
          symbol_at s b k (Sending (length xs) MasterPart n) e,
          due_is (noted s) (telegram_form s.part) xs y ys f o (telegram_fits s.part g.full),
        )
        (left_tested (eqb y b) (λ e. part_heard y ys f (eqb-true y b e)) (λ _. record { now = not_past refl }))

    -- the acknowledgement: who judges hears it too, and who is silent stays so
    reply_turn : xs ≡ telegram_form s.part → for_all s.part.zz ≡ false → s.phase ≡ Awaiting MasterPart n
        → BesideTurn (hears s (Symbol b)) (hears x (Symbol b))
    unfolding judges judged_taken handed_out hear_reply taken goes noted
    reply_turn f one e = by_own (own_as x.address x.master s.part.zz) refl
      where
        by_own : (r : Bool) → own_as x.address x.master s.part.zz ≡ r → BesideTurn (hears s (Symbol b)) (hears x (Symbol b))
        by_own true i = judged (v.listens.judges s.part n xs (stranger g apart) (rw i refl) one u f)
          where
            again : (n : Attempt) → BesideTurn (nak_heard n (noted s) MasterPart) (read_again n (noted x) MasterPart)
            again First = record { now = not_past refl }
            again Again = record { now = silent }

            judged : JudgesIt x.part x.phase n s.part → BesideTurn (hears s (Symbol b)) (hears x (Symbol b))
            judged j =
                let z : x.part.zz ≡ s.part.zz = cc j.same.head in
                rw (symbol_at s b k (Awaiting MasterPart n) e, symbol_at x b k (Judging MasterPart n true j.acknowledged) j.phase)
                (both (eqb b ack)
                (alike (answered s.part.zz) (answered x.part.zz) (ap answered (sym z)) (record { now = owes }) (record { now = silent }))
                (both (eqb b nak) (again n) (record { now = silent })))
        by_own false i =
            stays_silent (hears s (Symbol b)) x (symbol k)
            (v.listens.deaf s.part n xs [] (stranger g apart) (rw (i, one) refl) u (sym f ∙ sym (append-nil xs))
            (inr (omega (arith, ap length (f ∙ (form_two s.part).2)))))

-- ---- a slot

module _ {h : Since} (s x : Station) (possible : Possible s) (w : Follows h s) (v : Follows h x) (apart : s.address ≡ x.address → ⊥)
    (begun : x.phase ≡ Owing → ⊥) (now : Beside s.part s.phase x.phase x.out) where
  enters_turn : {d : Sound} → NoSyn d → (p : Phase) → s.phase ≡ p → past_part p ≡ false → sends_master p ≡ false → BesideTurn (hears s d) (hears x d)
  enters_turn n p i e f = record { now = not_past (enters (moves_of s n) (ap past_part i ∙ e) (ap sends_master i ∙ f)) }

  quiet_beside : BesideTurn (hears s Quiet) (hears x Quiet)
  unfolding left goes
  quiet_beside = go s.phase x.phase x.out refl refl refl now
    where
      by_sends : (p : Phase) → s.phase ≡ p → past_part p ≡ false → Sends h s.address s.master s.part s.out p
          → BesideTurn (hears s Quiet) (hears x Quiet)
      by_sends p i e (other f) = enters_turn quiet p i e f
      by_sends p i e (sending xs y ys u f l o g) = rw (quiet_at s p i) (record { now = not_past refl })
      by_sends p i e (awaiting xs u f one o g) = rw (quiet_at s p i) (record { now = not_past refl })

      go : (p q : Phase) (out : Wire) → s.phase ≡ p → x.phase ≡ q → x.out ≡ out → Beside s.part p q out
          → BesideTurn (hears s Quiet) (hears x Quiet)
      go p q out i j r (not_past e) = by_sends p i e (rw i at w.sends)
      go p q out i j r silent = stays_silent (hears s Quiet) x quiet j
      go p q out i j r owes = absurd (begun j)
      go p q out i j r (answers l memory xs y ys full array o f e reached) = rw (quiet_at x q j) (record { now = silent })
      go p q out i j r (awaits l full o same) = rw (quiet_at s p i, quiet_at x q j) (record { now = awaits l full (r ∙ o) same })

  symbol_beside : (b : ℕ) → (kind_of b ≡ Syn → ⊥) → BesideTurn (hears s (Symbol b)) (hears x (Symbol b))
  symbol_beside b k = go s.phase x.phase x.out refl refl refl now
    where
      by_sends : (p : Phase) → s.phase ≡ p → past_part p ≡ false → Sends h s.address s.master s.part s.out p
          → BesideTurn (hears s (Symbol b)) (hears x (Symbol b))
      by_sends p i e (other f) = enters_turn (symbol k) p i e f
      by_sends p i e (sending {n = n} xs y ys u f l o g) =
          part_turn s x w v apart n b k xs u o g y ys f (i ∙ ap (λ (q : ℕ). Sending q MasterPart n) (sym l))
      by_sends p i e (awaiting {n = n} xs u f one o g) = reply_turn s x w v apart n b k xs u o g f one i

      go : (p q : Phase) (out : Wire) → s.phase ≡ p → x.phase ≡ q → x.out ≡ out → Beside s.part p q out
          → BesideTurn (hears s (Symbol b)) (hears x (Symbol b))
      go p q out i j r (not_past e) = by_sends p i e (rw i at w.sends)
      go p q out i j r silent = stays_silent (hears s (Symbol b)) x (symbol k) j
      go p q out i j r owes = absurd (begun j)
      go p q out i j r (answers {c = c} {n = n} l memory xs y ys full array o f e reached) =
          answer_turn s x n b k c possible i l memory xs y full array (r ∙ o) reached ys f (j ∙ ap (λ (q : ℕ). Sending q AnswerPart n) (sym e))
      go p q out i j r (awaits {n = n} l full o same) = judged_turn s x n b k l i j full w.array (r ∙ o)

  pub hears_beside : {d : Sound} → NoSyn d → BesideTurn (hears s d) (hears x d)
  hears_beside quiet = quiet_beside
  hears_beside (symbol {b = b} k) = symbol_beside b k

-- as a slot begins
pub ready_not_owing : (s : Station) → (ready s).phase ≡ Owing → ⊥
unfolding ready answering
ready_not_owing s = by_phase s.phase refl
  where
    by_phase : (p : Phase) → s.phase ≡ p → (ready_at p s).phase ≡ Owing → ⊥
    by_phase Silent e f = let z : ◌≡◌ {A = ℕ} 0 1 = cc (e, f) in omega arith
    by_phase (Reading c p a) e f = let z : ◌≡◌ {A = ℕ} 0 1 = cc (e, f) in omega arith
    by_phase (Sending i p a) e f = let z : ◌≡◌ {A = ℕ} 0 1 = cc (e, f) in omega arith
    by_phase (Awaiting p a) e f = let z : ◌≡◌ {A = ℕ} 0 1 = cc (e, f) in omega arith
    by_phase (Judging p a m k) e f = let z : ◌≡◌ {A = ℕ} 0 1 = cc (e, f) in omega arith
    by_phase Owing e f = let z : ◌≡◌ {A = ℕ} 0 1 = cc f in omega arith
    by_phase Releasing e f = let z : ◌≡◌ {A = ℕ} 0 1 = cc (e, f) in omega arith

module _ (s x : Station) (array : Sixteen s.part.load) (book : AllEntriesFull x.replies) where
  takes_answer : (p q : Phase) → q ≡ Owing → {out : Wire} → Beside s.part p q out
      → Beside s.part p (Sending 0 AnswerPart First) (holding (answer_form (answer_for x.replies x.part.pb x.part.sb)))
  takes_answer p q e (not_past f) = not_past f
  takes_answer p q e silent = let z : ◌≡◌ {A = ℕ} 0 1 = cc e in absurd (omega arith)
  takes_answer p q e owes =
      let l = answer_for x.replies x.part.pb x.part.sb in
      let f = answer_begins l in
      answers l s.part [] f.0 f.1 (answer_full x.replies x.part.pb x.part.sb book) array refl f.2 refl
      (reached_none answer_start s.part)
  takes_answer p q e (answers _ _ _ _ _ _ _ _ _ _ _) = let z : ◌≡◌ {A = ℕ} 0 1 = cc e in absurd (omega arith)
  takes_answer p q e (awaits _ _ _ _) = let z : ◌≡◌ {A = ℕ} 0 1 = cc e in absurd (omega arith)

  pub ready_beside : Beside s.part s.phase x.phase x.out → Beside (ready s).part (ready s).phase (ready x).phase (ready x).out
  unfolding answering
  ready_beside w = begun (ready_begins s) (ready_begins x)
    where
      begun : {s' x' : Station} → Begins s s' → Begins x x' → Beside s'.part s'.phase x'.phase x'.out
      begun (takes _) j = not_past refl
      begun as_it_stood as_it_stood = w
      begun as_it_stood (takes e) = takes_answer s.phase x.phase e w
