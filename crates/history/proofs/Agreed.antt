-- Machine and observer agree in every run: the tests of Agrees hold of any calls from power-on, because the laws do. So a run in
-- which they do not agree refutes a law. Assumes nothing.
use mathlib.Core.Path.{◌≡◌, refl, sym, ap, subst, subst₂, ◌∙◌}
use mathlib.Core.Bool.{Bool, true, false, cond, ◌&&◌}
use mathlib.Core.List.{List, [], ◌∷◌, map}
use mathlib.Core.Option.{Option}
use mathlib.Core.Option as option
use Prim.Native.Nat.{ℕ, ◌%◌, ◌<◌}
use borrow.Author.Tests.{eq-eqb, ltb-true}
use lib.Dec.{eqb, ltb}
use Rattle.wire.specs.Form.{head_of, bytes_of, telegram_form, answer_form}
use Rattle.wire.specs.declared.pair.WrongPair.{WrongPair}
use Rattle.wire.specs.declared.part.Telegram.{Telegram}
use Rattle.station.specs.Events.{Event, tells as lined}
use Rattle.station.specs.Outbox.{waiting}
use Rattle.station.specs.Replies.{answer_for}
use Rattle.station.specs.declared.phase.Sound.{Sound}
use Rattle.station.specs.declared.phase.Sound.TheVariants.{Quiet, Symbol}
use Rattle.station.specs.declared.station.Turn.{Turn}
use Rattle.bus.specs.declared.bus.Bus.{Bus}
use Rattle.bus.specs.Bus.{powered_on, attached_to, attached_turns, turn_at}
use Rattle.bus.specs.Slot.{generator_says, said_by, slot_heard}
use Rattle.promises.specs.Calls.{Call, slot, after_call, after_calls, ByteCalls, Reachable}
use Rattle.promises.specs.Fit.{station_at}
use Rattle.promises.specs.Orders.{seats_of}
use Rattle.promises.proofs.Shared.FitKept.{reachable_fit}
use Rattle.promises.proofs.Shared.Seats.{slot_seat}
use Rattle.promises.proofs.Shared.Uses.{on_reachable, reachable_more}
use Rattle.history.specs.Agrees.{who_in, same_sound, same_pair, same_report, word_in, same_bytes, same_telegrams, word_of, same_lines, every, says_law, tells_law, observed, hands_as, hands_law, lines_law, held_law, answers_as, answers_law, holds_from, holds_in, each_law, word_as, word_law, generator_law, all_hold_from, all_hold_in, agrees}
use Rattle.history.specs.Failed.{number_in, pair_in}
use Rattle.history.specs.Generator.{sounds_call, quiet_run}
use Rattle.history.specs.Lines.{lines, HandsOut, part_in, asked_in}
use Rattle.history.specs.Moments.{Answers}
use Rattle.history.specs.Observer.{Report, silence, owns, taken, free, given, answered, failed, failed_free, report_of, share_of, says, tells}
use Rattle.history.specs.Held.{Who, held_after, answers_after}
use Rattle.history.specs.Seen.{Known, unknown, known_call}
use Rattle.history.specs.Share.{Share}
use Rattle.history.specs.Word.{bit_of, bit_heard, Heard, quiet, anded}
use Rattle.history.proofs.Anded.{word_is_the_and}
use Rattle.history.proofs.AsObserved.{SeatObserved, Followed, seat_says, seat_tells, seat_hands, seat_lines, call_followed, on_followed}
use Rattle.history.proofs.Generates.{call_counts, counted_says, none}
use Rattle.history.proofs.HeldByCalls.{who_of, held_after_lem, answers_after_lem, Account, account_call, on_account}

-- ---- what is equal is the same

both : (a b : Bool) → a ≡ true → b ≡ true → (a && b) ≡ true
both a b p q = rw (p, q)

same_sound_lem : (x y : Sound) → x ≡ y → same_sound x y ≡ true
same_sound_lem x y e = subst (λ (z : Sound). same_sound x z ≡ true) e (self x)
  where
    self : (x : Sound) → same_sound x x ≡ true
    self Quiet = refl
    self (Symbol s) = eq-eqb s s refl

self_pair : (x : Option WrongPair) → same_pair x x ≡ true
self_pair option.none = refl
self_pair (option.some x) = both (eqb x.position x.position) (eqb x.symbol x.symbol) (eq-eqb x.position x.position refl) (eq-eqb x.symbol x.symbol refl)

same_report_lem : (x y : Report) → x ≡ y → same_report x y ≡ true
same_report_lem x y e =
    subst (λ (z : Report). same_report x z ≡ true) e
    (both (eqb (word_in x) (word_in x) && eqb (number_in x) (number_in x)) (same_pair (pair_in x) (pair_in x))
    (both (eqb (word_in x) (word_in x)) (eqb (number_in x) (number_in x)) (eq-eqb (word_in x) (word_in x) refl) (eq-eqb (number_in x) (number_in x) refl))
    (self_pair (pair_in x)))

self_bytes : (xs : List ℕ) → same_bytes xs xs ≡ true
self_bytes [] = refl
self_bytes (x ∷ xs) = both (eqb x x) (same_bytes xs xs) (eq-eqb x x refl) (self_bytes xs)

same_bytes_lem : (xs ys : List ℕ) → xs ≡ ys → same_bytes xs ys ≡ true
same_bytes_lem xs ys e = subst (λ (zs : List ℕ). same_bytes xs zs ≡ true) e (self_bytes xs)

self_telegrams : (ts : List Telegram) → same_telegrams ts ts ≡ true
self_telegrams [] = refl
self_telegrams (t ∷ ts) =
    both (same_bytes (head_of t) (head_of t) && same_bytes (bytes_of t.load) (bytes_of t.load)) (same_telegrams ts ts)
    (both (same_bytes (head_of t) (head_of t)) (same_bytes (bytes_of t.load) (bytes_of t.load)) (self_bytes (head_of t)) (self_bytes (bytes_of t.load)))
    (self_telegrams ts)

same_telegrams_lem : (ts us : List Telegram) → ts ≡ us → same_telegrams ts us ≡ true
same_telegrams_lem ts us e = subst (λ (vs : List Telegram). same_telegrams ts vs ≡ true) e (self_telegrams ts)

self_lines : (es : List Event) → same_lines es es ≡ true
self_lines [] = refl
self_lines (e ∷ es) =
    both (eqb e.station e.station && eqb (word_of e.word) (word_of e.word) && same_bytes e.values e.values && same_bytes e.leaving e.leaving && same_pair e.pair e.pair) (same_lines es es)
    (both (eqb e.station e.station && eqb (word_of e.word) (word_of e.word) && same_bytes e.values e.values && same_bytes e.leaving e.leaving) (same_pair e.pair e.pair)
    (both (eqb e.station e.station && eqb (word_of e.word) (word_of e.word) && same_bytes e.values e.values) (same_bytes e.leaving e.leaving)
    (both (eqb e.station e.station && eqb (word_of e.word) (word_of e.word)) (same_bytes e.values e.values)
    (both (eqb e.station e.station) (eqb (word_of e.word) (word_of e.word)) (eq-eqb e.station e.station refl) (eq-eqb (word_of e.word) (word_of e.word) refl))
    (self_bytes e.values)) (self_bytes e.leaving)) (self_pair e.pair))
    (self_lines es)

same_lines_lem : (es fs : List Event) → es ≡ fs → same_lines es fs ≡ true
same_lines_lem es fs q = subst (λ (ds : List Event). same_lines es ds ≡ true) q (self_lines es)

every_one : {A : Type 0} (f : A → Bool) (xs : List A) → ((x : A) → f x ≡ true) → every f xs ≡ true
every_one f [] w = refl
every_one f (x ∷ xs) w = both (f x) (every f xs) (w x) (every_one f xs w)

-- ---- the laws hold at an attached station of a reachable bus

hands_same : (r : Report) (u : Share) (h : Sound) (t : Telegram) → HandsOut u h r t → hands_as r u h t ≡ true
hands_same silence u h t w = refl
hands_same owns u h t w = refl
hands_same taken u h t w = refl
hands_same free u h t w = refl
hands_same given u h t w = same_bytes_lem (telegram_form t) (part_in u h) (w.part refl)
hands_same answered u h t w =
    both (same_bytes (answer_form t.load) (part_in u h)) (eqb t.zz (asked_in u))
    (same_bytes_lem (answer_form t.load) (part_in u h) (w.answer refl)) (eq-eqb t.zz (asked_in u) (w.from refl))
hands_same (failed n x) u h t w = refl
hands_same (failed_free n x) u h t w = refl

module _ (b : Bus) (r : Reachable b) (i : ℕ) (l : i < attached_to b) (k : Known) (v : Account i b k) (w : SeatObserved b i k.history) where
  -- its state is what the calls brought
  by_account : (P : Who → List Telegram → Answers → Type 0)
      → P (who_of (turn_at b i)) (waiting (station_at b i).outbox) (answer_for (station_at b i).replies) → P (who_in k i) k.held k.answers
  by_account P p =
      subst₂ (λ (ts : List Telegram) (f : Answers). P (who_in k i) ts f) (sym (v.held l)) (sym (v.answers l))
      (subst (λ (w : Who). P w (waiting (station_at b i).outbox) (answer_for (station_at b i).replies)) (sym (v.seated.each i l)) p)

  abbrev told : Who → List Telegram → Answers → Sound → Report
  told x ts f h = tells x.address x.master k.history ts f h

  says_one : says_law b i k slot ≡ true
  says_one =
      same_sound_lem _ _ (by_account (λ x ts f. said_by (turn_at b i) ≡ says x.address x.master k.history ts f) (seat_says b r i l k.history w))

  tells_one : (h : Sound) → same_report (report_of (turn_at (slot_heard b h) i).told) (observed i k h) ≡ true
  tells_one h =
      same_report_lem (report_of (turn_at (slot_heard b h) i).told) (observed i k h)
      (by_account (λ x ts f. report_of (turn_at (slot_heard b h) i).told ≡ told x ts f h)
      (ap (λ (t : Turn). report_of t.told) (slot_seat b h i (reachable_fit r).array l) ∙ seat_tells b r i l k.history w h))

  hands_one : (h : Sound) → hands_as (observed i k h) (share_of (who_in k i).address (who_in k i).master k.history) h (turn_at (slot_heard b h) i).station.part ≡ true
  hands_one h =
      hands_same (observed i k h) _ h _
      (by_account (λ x ts f. HandsOut (share_of x.address x.master k.history) h (told x ts f h) (turn_at (slot_heard b h) i).station.part)
      (subst (λ (t : Turn). HandsOut (share_of (station_at b i).address (station_at b i).master k.history) h
      (told (who_of (turn_at b i)) (waiting (station_at b i).outbox) (answer_for (station_at b i).replies) h) t.station.part)
      (sym (slot_seat b h i (reachable_fit r).array l)) (seat_hands b r i l k.history w h)))

  lines_one : (h : Sound)
      → same_lines (lined (turn_at (slot_heard b h) i)) (lines (who_in k i).address (observed i k h) (turn_at (slot_heard b h) i).station.part) ≡ true
  lines_one h =
      same_lines_lem _ _
      (by_account (λ x ts f. lined (turn_at (slot_heard b h) i) ≡ lines x.address (told x ts f h) (turn_at (slot_heard b h) i).station.part)
      (subst (λ (t : Turn). lined t ≡ lines (station_at b i).address (told (who_of (turn_at b i)) (waiting (station_at b i).outbox) (answer_for (station_at b i).replies) h) t.station.part)
      (sym (slot_seat b h i (reachable_fit r).array l)) (seat_lines b r i l k.history w h)))

  held_one : (c : Call) → held_law b i k c ≡ true
  held_one c =
      same_telegrams_lem _ _
      (held_after_lem b r i l v.seated c ∙ ap (λ (ts : List Telegram). held_after b i k.attached ts c) (sym (v.held l)))

  answers_one : (c : Call) (pb sb : ℕ) → answers_as b i k c pb sb ≡ true
  answers_one c pb sb =
      let e = answers_after_lem b r i l v.seated c ∙ ap (λ (f : Answers). answers_after b i k.attached f c) (sym (v.answers l)) in
      same_bytes_lem _ _ (ap (λ (f : Answers). bytes_of (f pb sb)) e)

  each_holds : (c : Call) → each_law b i k c ≡ true
  each_holds c =
      both (says_law b i k c && tells_law b i k c && hands_law b i k c && lines_law b i k c && held_law b i k c) (answers_law b i k c)
      (both (says_law b i k c && tells_law b i k c && hands_law b i k c && lines_law b i k c) (held_law b i k c)
      (both (says_law b i k c && tells_law b i k c && hands_law b i k c) (lines_law b i k c)
      (both (says_law b i k c && tells_law b i k c) (hands_law b i k c)
      (both (says_law b i k c) (tells_law b i k c) says_one (every_one _ (sounds_call b [] c) tells_one))
      (every_one _ (sounds_call b [] c) hands_one))
      (every_one _ (sounds_call b [] c) lines_one))
      (held_one c))
      (both (answers_as b i k c 0x50 0x02) (answers_as b i k c 0x50 0x03) (answers_one c 0x50 0x02) (answers_one c 0x50 0x03))

-- ---- any calls

holds_from_lem : (i : ℕ) (b : Bus) (k : Known) (cs : List Call) → Reachable b → ByteCalls cs → Account i b k → Followed i b k.history
    → holds_from each_law i b k cs ≡ true
unfolding holds_from
holds_from_lem i b k [] r y v w = refl
holds_from_lem i b k (c ∷ cs) r y v w =
    both (cond (ltb i (attached_to b)) (each_law b i k c) true) (holds_from each_law i (after_call b c) (known_call i b k c) cs) (here (ltb i (attached_to b)) refl)
    (holds_from_lem i (after_call b c) (known_call i b k c) cs (reachable_more c r y.0) y.1 (account_call i b r k v c) (call_followed i b r k v w c))
  where
    here : (q : Bool) → ltb i (attached_to b) ≡ q → cond q (each_law b i k c) true ≡ true
    here true e = each_holds b r i (ltb-true i (attached_to b) e) k v (w.observed (ltb-true i (attached_to b) e)) c
    here false e = refl

-- ---- the word, and the generator

module _ (hs : List Sound) where
  word_same : {r : Sound} → Heard hs r → word_as hs r ≡ true
  word_same (quiet e) = e
  word_same (anded {s} e f) =
      rw e (every_one (λ k. eqb (bit_of k s) (bit_heard k hs)) (0 ∷ 1 ∷ 2 ∷ 3 ∷ 4 ∷ 5 ∷ 6 ∷ 7 ∷ []) (λ k. eq-eqb (bit_of k s) (bit_heard k hs) (f k)))

all_from : (b : Bus) (hs : List Sound) (cs : List Call) → b.quiet ≡ quiet_run hs % 10
    → all_hold_from (λ b hs. word_law b hs && generator_law b hs) b hs cs ≡ true
unfolding all_hold_from
all_from b hs [] e = refl
all_from b hs (c ∷ cs) e =
    both (word_law b hs && generator_law b hs) (all_hold_from (λ b hs. word_law b hs && generator_law b hs) (after_call b c) (sounds_call b hs c) cs)
    (both (word_law b hs) (generator_law b hs) (word_same (generator_says b.quiet ∷ map said_by (attached_turns b)) (word_is_the_and b)) (same_sound_lem _ _ (counted_says b hs e)))
    (all_from (after_call b c) (sounds_call b hs c) cs (call_counts b hs e c))

pub agree_always : (cs : List Call) → ByteCalls cs → agrees cs ≡ true
agree_always cs k =
    both (holds_in each_law cs) (all_hold_in (λ b hs. word_law b hs && generator_law b hs) cs)
    (every_one (λ i. holds_from each_law i powered_on unknown cs) (seats_of (after_calls powered_on cs))
    (λ i. holds_from_lem i powered_on unknown cs on_reachable k (on_account i) (on_followed i)))
    (all_from powered_on [] cs none)
