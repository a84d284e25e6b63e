-- Sentences of 01 from what is heard, after any calls from power-on, for every attached station and whatever all hear in the next
-- slot: owns, each failed number, the pair told with failed 5, taken, free, given and answer, each exactly when. Assumes nothing.
use mathlib.Core.Path.{◌≡◌, refl, sym, ap, ◌∙◌}
use mathlib.Core.Logic.{◌↔◌, ◌⊎◌, inl, inr, ⊎_elim}
use mathlib.Core.Bool.{Bool, true, false, cond, true≢false, false≢true}
use mathlib.Core.List.{List, [], ◌∷◌, ◌++◌}
use mathlib.Core.Option.{none, some}
use Prim.Native.Nat.{ℕ, ◌≤◌, ◌<◌}
use native.Mathlib.Omega.{arith}
use lib.Dec.{eqb}
use Rattle.wire.specs.Form.{answer_form}
use Rattle.wire.specs.declared.pair.WrongPair.{WrongPair}
use Rattle.wire.specs.declared.reader.Outcome.{Outcome}
use Rattle.wire.specs.declared.reader.Outcome.TheVariants.{More, Cut, NoMaster, Unusable, TooLong, BrokenPair, Whole}
use Rattle.wire.proofs.SymbolKind.{clash}
use Rattle.station.specs.declared.phase.Sound.{Sound}
use Rattle.station.specs.declared.phase.Sound.TheVariants.{Quiet, Symbol}
use Rattle.bus.specs.declared.bus.Bus.{Bus}
use Rattle.bus.specs.Bus.{powered_on, attached_to, turn_at}
use Rattle.bus.specs.Slot.{slot_heard}
use Rattle.promises.specs.Calls.{Call, after_calls, ByteCalls}
use Rattle.history.specs.Moments.{Answers, is_symbol, History}
use Rattle.history.specs.Seen.{moment_in, known, seen, held_by, answers_by, station_by}
use Rattle.history.specs.Held.{Who}
use Rattle.history.specs.Share.{Time, once, again, Sender, owner, slave, Reader, station, asker, Share, reads_for_all, which_of}
use Rattle.history.specs.Share as share
use Rattle.history.specs.Verdict.{verdict}
use Rattle.history.specs.Observer.{report_of, Report, silence, owns, taken, free, given, answered, failed, failed_free, tells_out, tells_nak, tells_read, hands_out, to_owner, tells_first, tells_in, disturbed, cut_short, share_of}
use Rattle.history.specs.Observer as observer
use Rattle.history.specs.Failed.{number_in, pair_in, Fails, Breaks}
use Rattle.history.specs.Reasons.{is_free, Taken, Leaves, Given, Answered}
use Rattle.history.proofs.AsObserved.{tells_as_observed}
use Rattle.history.proofs.FailedWhen.{why, then_told, reader_never, why_pair, then_pair}
use Rattle.history.proofs.Shares.{before_won}
use Rattle.history.proofs.ToldWhen.{reasons, then_taken, then_free, then_given, then_answered, first_silent}

-- ---- what a share can tell: anything but owns, which only who sent its QQ is told; and of a broken pair only with failed 5

data OfShare : Report → Type 0 where
  nothing : OfShare silence
  its_taken : OfShare taken
  its_free : OfShare free
  its_given : OfShare given
  its_answer : OfShare answered
  its_failed : {k : ℕ} → OfShare (failed k none)
  its_failed_free : {k : ℕ} → OfShare (failed_free k none)
  its_pair : {x : WrongPair} → OfShare (failed 5 (some x))

either : (q : Bool) {r s : Report} → OfShare r → OfShare s → OfShare (cond q r s)
either true e f = e
either false e f = f

out_tells : (d : Sender) (zs : List ℕ) → OfShare (tells_out d zs)
out_tells (owner t) [] = either (eqb t.zz 0xFE) its_taken nothing
out_tells (slave xs) [] = nothing
out_tells d (z ∷ zs) = nothing

disturbed_tells : (d : Sender) → OfShare (disturbed d)
disturbed_tells (owner t) = its_failed_free
disturbed_tells (slave xs) = its_failed

cut_tells : (d : Sender) → OfShare (cut_short d)
cut_tells (owner t) = its_failed_free
cut_tells (slave xs) = its_failed

nak_tells : (n : Time) → OfShare (tells_nak n)
nak_tells once = nothing
nak_tells again = its_failed

owner_tells : (r : Reader) {f : Report} → OfShare f → OfShare (to_owner r f)
owner_tells (station a m) e = nothing
owner_tells (asker t) e = e

hands_tells : (r : Reader) → OfShare (hands_out r)
hands_tells (station a m) = its_given
hands_tells (asker t) = its_answer

read_tells : (v : Outcome) (r : Reader) (xs : List ℕ) → OfShare (tells_read v r xs)
read_tells More r xs = nothing
read_tells Cut r xs = owner_tells r its_failed
read_tells NoMaster r xs = owner_tells r its_failed
read_tells Unusable r xs = owner_tells r its_failed
read_tells TooLong r xs = owner_tells r its_failed
read_tells (BrokenPair x) r xs = owner_tells r its_pair
read_tells (Whole matched) r xs = either (reads_for_all r xs) (either matched its_given nothing) nothing

first_tells : (fs : List ℕ) (h : Sound) → OfShare (tells_first fs h)
first_tells [] h = nothing
first_tells (y ∷ ys) h = either (is_symbol y h) nothing its_failed

of_share : (u : Share) (book : Answers) (h : Sound) → OfShare (tells_in u book h)
of_share share.over book h = nothing
of_share share.releases book h = its_free
of_share (share.sends d n y zs) book h = either (is_symbol y h) (out_tells d zs) (disturbed_tells d)
of_share (share.awaits d n) book Quiet = nothing
of_share (share.awaits d n) book (Symbol b) =
    either (eqb b 0x00) its_taken (either (eqb b 0xFF) (nak_tells n) (either (eqb b 0xAA) (cut_tells d) its_failed))
of_share (share.reads r n xs) book Quiet = nothing
of_share (share.reads r n xs) book (Symbol b) = either (eqb b 0xAA) (owner_tells r its_failed_free) (read_tells (verdict (which_of r) (xs ++ (b ∷ []))) r (xs ++ (b ∷ [])))
of_share (share.judges r n xs matched just) book Quiet = nothing
of_share (share.judges r n xs matched just) book (Symbol b) =
    either (eqb b 0x00) (either matched (hands_tells r) (owner_tells r its_failed))
    (either (eqb b 0xFF) (owner_tells r (nak_tells n)) (either (eqb b 0xAA) (owner_tells r its_failed_free) (owner_tells r its_failed)))
of_share (share.owes pb sb) book h = first_tells (answer_form (book pb sb)) h

abbrev is_owns : Report → Bool
is_owns silence = false
is_owns owns = true
is_owns taken = false
is_owns free = false
is_owns given = false
is_owns answered = false
is_owns (failed n x) = false
is_owns (failed_free n x) = false

not_owns : {r : Report} → OfShare r → is_owns r ≡ false
not_owns nothing = refl
not_owns its_taken = refl
not_owns its_free = refl
not_owns its_given = refl
not_owns its_answer = refl
not_owns its_failed = refl
not_owns its_failed_free = refl
not_owns its_pair = refl

only_failed_5 : {r : Report} {x : WrongPair} → OfShare r → pair_in r ≡ some x → r ≡ failed 5 (some x)
only_failed_5 nothing e = clash (cc)
only_failed_5 its_taken e = clash (cc)
only_failed_5 its_free e = clash (cc)
only_failed_5 its_given e = clash (cc)
only_failed_5 its_answer e = clash (cc)
only_failed_5 its_failed e = clash (cc)
only_failed_5 its_failed_free e = clash (cc)
only_failed_5 its_pair e = ap (failed 5) e

-- ---- the sentences

module _ (cs : List Call) (bytes : ByteCalls cs) (i : ℕ) (attached : i < attached_to (after_calls powered_on cs)) where
  abbrev bus : Bus
  bus = after_calls powered_on cs

  abbrev its : Who
  its = station_by i cs

  abbrev g : History
  g = seen i cs

  -- what it is told in the next slot, if all hear h
  abbrev told : Sound → Report
  told h = report_of (turn_at (slot_heard bus h) i).told

  -- it sends its QQ in this slot, which is the one after an AA that admits it, with a telegram waiting; and it hears its address
  abbrev Wins : Sound → Bool
  Wins h = observer.wins its.address its.master g (held_by i cs) h

  in_turn : (h : Sound) → told h ≡ cond (Wins h) owns (tells_in (share_of its.address its.master g) (answers_by i cs) h)
  unfolding observer.tells
  in_turn h = tells_as_observed cs bytes i attached h

  -- owns, exactly then
  pub owns_exactly_when : (h : Sound) → (told h ≡ owns) ↔ (Wins h ≡ true)
  owns_exactly_when h = by (Wins h) refl
    where
      by : (q : Bool) → Wins h ≡ q → (told h ≡ owns) ↔ (Wins h ≡ true)
      by true e = ((λ _. e), (λ _. in_turn h ∙ rw e))
      by false e =
          let t : told h ≡ tells_in (share_of its.address its.master g) (answers_by i cs) h = in_turn h ∙ rw e in (
            (λ j. absurd (true≢false (sym (ap is_owns (sym t ∙ j)) ∙ not_owns (of_share (share_of its.address its.master g) (answers_by i cs) h)))),
            (λ j. absurd (false≢true (sym e ∙ j))),
          )

  -- failed k, exactly then
  pub failed_exactly_when : (h : Sound) (k : ℕ) → 1 ≤ k → (number_in (told h) ≡ k) ↔ Fails (answers_by i cs) k (share_of its.address its.master g) h
  unfolding share_of
  failed_exactly_when h k l = by (Wins h) refl
    where
      by : (q : Bool) → Wins h ≡ q → (number_in (told h) ≡ k) ↔ Fails (answers_by i cs) k (share_of its.address its.master g) h
      by true e =
          let t : told h ≡ owns = in_turn h ∙ rw e in (
            (λ j. let z : 0 ≡ k = sym (ap number_in t) ∙ j in absurd (omega arith)),
            (λ f. absurd (reader_never (answers_by i cs) f (before_won (moment_in (known i cs) h) its.address its.master g.earlier g.now e))),
          )
      by false e =
          let t : told h ≡ tells_in (share_of its.address its.master g) (answers_by i cs) h = in_turn h ∙ rw e in (
            (λ j. why (answers_by i cs) (share_of its.address its.master g) h (sym (ap number_in t) ∙ j) l),
            (λ f. ap number_in t ∙ then_told (answers_by i cs) f),
          )

  -- its share of the transfer, from what was heard
  abbrev its_share : Share
  its_share = share_of its.address its.master g

  -- it is told what its share says; only who wins the wire, of whose share nothing is told, is told owns
  by_share : (h : Sound) → (told h ≡ tells_in its_share (answers_by i cs) h) ⊎ ((told h ≡ owns) × (tells_in its_share (answers_by i cs) h ≡ silence))
  unfolding share_of
  by_share h = by (Wins h) refl
    where
      by : (q : Bool) → Wins h ≡ q → (told h ≡ tells_in its_share (answers_by i cs) h) ⊎ ((told h ≡ owns) × (tells_in its_share (answers_by i cs) h ≡ silence))
      by true e = inr (in_turn h ∙ rw e, rw (before_won (moment_in (known i cs) h) its.address its.master g.earlier g.now e) (first_silent (answers_by i cs) its.address its.master once h))
      by false e = inl (in_turn h ∙ rw e)

  -- but for who has read nothing yet, it is told what its share says
  pub told_in : {u : Share} → its_share ≡ u → (u ≡ share.reads (station its.address its.master) once [] → ⊥) → (h : Sound)
      → told h ≡ tells_in u (answers_by i cs) h
  unfolding share_of
  told_in {u} j n h = by (Wins h) refl
    where
      by : (q : Bool) → Wins h ≡ q → told h ≡ tells_in u (answers_by i cs) h
      by true e = absurd (n (sym j ∙ before_won (moment_in (known i cs) h) its.address its.master g.earlier g.now e))
      by false e = in_turn h ∙ rw (e, j)

  -- a report that is neither owns nor silence, exactly then
  exactly : (h : Sound) (r : Report) {P : Type 0} → (owns ≡ r → ⊥) → (silence ≡ r → ⊥) → (tells_in its_share (answers_by i cs) h ≡ r → P) → (P → tells_in its_share (answers_by i cs) h ≡ r)
      → (told h ≡ r) ↔ P
  exactly h r o n why then =
      ⊎_elim (λ t. ((λ j. why (sym t ∙ j)), (λ w. t ∙ then w))) (λ t. ((λ j. absurd (o (sym t.0 ∙ j))), (λ w. absurd (n (sym t.1 ∙ then w))))) (by_share h)

  pub taken_exactly_when : (h : Sound) → (told h ≡ taken) ↔ Taken its_share h
  taken_exactly_when h = exactly h taken (λ e. clash (cc)) (λ e. clash (cc)) (reasons (answers_by i cs) its_share h).why_taken (then_taken (answers_by i cs))

  pub given_exactly_when : (h : Sound) → (told h ≡ given) ↔ Given its_share h
  given_exactly_when h = exactly h given (λ e. clash (cc)) (λ e. clash (cc)) (reasons (answers_by i cs) its_share h).why_given (then_given (answers_by i cs))

  pub answered_exactly_when : (h : Sound) → (told h ≡ answered) ↔ Answered its_share h
  answered_exactly_when h =
      exactly h answered (λ e. clash (cc)) (λ e. clash (cc)) (reasons (answers_by i cs) its_share h).why_answered (then_answered (answers_by i cs))

  -- free, alone or behind a failure
  pub free_exactly_when : (h : Sound) → (is_free (told h) ≡ true) ↔ Leaves (answers_by i cs) its_share h
  free_exactly_when h =
      ⊎_elim (λ t. ((λ j. (reasons (answers_by i cs) its_share h).why_free (sym (ap is_free t) ∙ j)), (λ w. ap is_free t ∙ then_free (answers_by i cs) w)))
      (λ t. (
        (λ j. absurd (false≢true (sym (ap is_free t.0) ∙ j))),
        (λ w. absurd (false≢true (sym (ap is_free t.1) ∙ then_free (answers_by i cs) w))),
      ))
      (by_share h)

  -- failed 5 with these numbers, exactly then; and no other line speaks of a pair
  pub pair_exactly_when : (h : Sound) (x : WrongPair) → (pair_in (told h) ≡ some x) ↔ Breaks x its_share h
  pair_exactly_when h x =
      ⊎_elim
      (λ t. (
        (λ j. why_pair (answers_by i cs) (only_failed_5 (of_share its_share (answers_by i cs) h) (sym (ap pair_in t) ∙ j))),
        (λ w. ap pair_in (t ∙ then_pair (answers_by i cs) w)),
      ))
      (λ t. (
        (λ j. let z : none ≡ some x = sym (ap pair_in t.0) ∙ j in clash (cc)),
        (λ w. let z : silence ≡ failed 5 (some x) = sym t.1 ∙ then_pair (answers_by i cs) w in clash (cc)),
      ))
      (by_share h)

  -- and the number told with it is 5
  pub pair_is_failed_5 : (h : Sound) (x : WrongPair) → pair_in (told h) ≡ some x → told h ≡ failed 5 (some x)
  pair_is_failed_5 h x j =
      ⊎_elim (λ t. t ∙ only_failed_5 (of_share its_share (answers_by i cs) h) (sym (ap pair_in t) ∙ j))
      (λ t. let z : none ≡ some x = sym (ap pair_in t.0) ∙ j in clash (cc)) (by_share h)
