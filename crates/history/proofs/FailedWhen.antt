-- Each failed number exactly when (01, "Sending", "Reading", "Acknowledgement"). Assumes nothing.
use mathlib.Core.Path.{◌≡◌, refl, sym, ap, subst, ◌∙◌}
use mathlib.Core.Bool.{Bool, true, false, cond}
use mathlib.Core.List.{List, [], ◌∷◌, ◌++◌}
use mathlib.Core.Option as option
use Prim.Native.Nat.{ℕ, ◌≤◌}
use native.Mathlib.Omega.{arith}
use borrow.Author.Tests.{eqb-true, eqb-false, ne_eqb}
use lib.Dec.{eqb, ltb, leb}
use lib.ListN.{length}
use Rattle.wire.specs.Form.{answer_form}
use Rattle.wire.specs.declared.pair.WrongPair.{WrongPair}
use Rattle.wire.specs.declared.part.Part.TheVariants.{MasterPart, AnswerPart}
use Rattle.wire.specs.declared.reader.Outcome.{Outcome}
use Rattle.wire.specs.declared.reader.Outcome.TheVariants.{More, Cut, NoMaster, Unusable, TooLong, BrokenPair, Whole}
use Rattle.wire.proofs.SymbolKind.{clash}
use Rattle.station.specs.declared.phase.Sound.{Sound}
use Rattle.station.specs.declared.phase.Sound.TheVariants.{Quiet, Symbol}
use Rattle.history.specs.Moments.{Answers, is_symbol}
use Rattle.history.specs.Share.{Time, once, again, Sender, owner, slave, Reader, station, asker, Share}
use Rattle.history.specs.Share as share
use Rattle.history.specs.Verdict.{Plainly, bytes, waits, broken, unexpanded, after_nn, verdict}
use Rattle.history.specs.Observer.{silence, taken, given, answered, failed, failed_free, tells_out, tells_nak, tells_read, tells_first, tells_in, cut_short}
use Rattle.history.specs.Observer as observer
use Rattle.history.specs.Failed.{number_in, Breaks, in_answer, Fails, disturbed, disturbed_first, no_acknowledgement, answer_not_acknowledged, wrong_taken, nak_twice, answer_nak_twice, syn_heard, syn_in_answer, syn_after_answer, pair_broken, over_long}

-- what an answer can come to
data InAnswer : Outcome → Type 0 where
  goes_on : InAnswer More
  too_long : InAnswer TooLong
  breaks : {x : WrongPair} → InAnswer (BrokenPair x)
  ends : {matched : Bool} → InAnswer (Whole matched)

after_nn_lem : (head : List ℕ) (n : ℕ) (u : Plainly) → InAnswer (after_nn head n u)
after_nn_lem head n (bytes bs) = by (ltb n (length bs)) _
  where
    by : (q matched : Bool) → InAnswer (cond q (Whole matched) More)
    by true matched = ends
    by false matched = goes_on
after_nn_lem head n waits = goes_on
after_nn_lem head n (broken i y) = breaks

answer_comes_to : (xs : List ℕ) → InAnswer (verdict AnswerPart xs)
unfolding verdict
answer_comes_to [] = goes_on
answer_comes_to (n ∷ xs) = by (leb n 16) (after_nn_lem [] n (unexpanded xs))
  where
    by : (q : Bool) {o : Outcome} → InAnswer o → InAnswer (cond q o TooLong)
    by true w = w
    by false w = too_long

module _ (book : Answers) where
  -- a leaf that tells no failure, or this one
  none : {A : Type 0} {k : ℕ} → 0 ≡ k → 1 ≤ k → A
  none e l = absurd (omega arith)

  it_is : {j k : ℕ} {u : Share} {h : Sound} → Fails book j u h → j ≡ k → Fails book k u h
  it_is {u = u} {h = h} f e = subst (λ (i : ℕ). Fails book i u h) e f

  sends_why : (s : Sender) (n : Time) (y : ℕ) (ys : List ℕ) (h : Sound) {k : ℕ} → number_in (tells_in (share.sends s n y ys) book h) ≡ k → 1 ≤ k → Fails book k (share.sends s n y ys) h
  sends_why s n y ys h {k} e l = by (is_symbol y h) refl e
    where
      out : (s : Sender) (ys : List ℕ) → 0 ≡ number_in (tells_out s ys)
      out (owner t) [] = of (eqb t.zz 0xFE)
        where
          of : (q : Bool) → 0 ≡ number_in (cond q taken silence)
          of true = refl
          of false = refl
      out (slave xs) [] = refl
      out s (y ∷ ys) = refl

      one : (s : Sender) → 1 ≡ number_in (observer.disturbed s)
      one (owner t) = refl
      one (slave xs) = refl

      by : (q : Bool) → is_symbol y h ≡ q → number_in (cond q (tells_out s ys) (observer.disturbed s)) ≡ k → Fails book k (share.sends s n y ys) h
      by true i e = none (out s ys ∙ e) l
      by false i e = it_is (disturbed i) (one s ∙ e)

  awaits_why : (s : Sender) (n : Time) (h : Sound) {k : ℕ} → number_in (tells_in (share.awaits s n) book h) ≡ k → 1 ≤ k → Fails book k (share.awaits s n) h
  awaits_why s n Quiet e l = none e l
  awaits_why s n (Symbol b) {k} e l = by (eqb b 0x00) (eqb b 0xFF) (eqb b 0xAA) refl refl refl e
    where
      four : (s : Sender) → 4 ≡ number_in (cut_short s)
      four (owner t) = refl
      four (slave xs) = refl

      again_why : (n : Time) → b ≡ 0xFF → number_in (tells_nak n) ≡ k → Fails book k (share.awaits s n) (Symbol b)
      again_why once i e = none e l
      again_why again i e = it_is (nak_twice i) e

      by : (x y z : Bool) → eqb b 0x00 ≡ x → eqb b 0xFF ≡ y → eqb b 0xAA ≡ z
          → number_in (cond x taken (cond y (tells_nak n) (cond z (cut_short s) (failed 2 option.none)))) ≡ k → Fails book k (share.awaits s n) (Symbol b)
      by true y z p q r e = none e l
      by false true z p q r e = again_why n (eqb-true b 0xFF q) e
      by false false true p q r e = it_is (syn_heard (eqb-true b 0xAA r)) (four s ∙ e)
      by false false false p q r e =
          it_is (no_acknowledgement (record { not_ack = eqb-false b 0x00 p; not_nak = eqb-false b 0xFF q; not_syn = eqb-false b 0xAA r })) e

  reads_why : (r : Reader) (n : Time) (xs : List ℕ) (h : Sound) {k : ℕ} → number_in (tells_in (share.reads r n xs) book h) ≡ k → 1 ≤ k → Fails book k (share.reads r n xs) h
  reads_why r n xs Quiet e l = none e l
  reads_why (station a m) n xs (Symbol b) {k} e l = none (zero (eqb b 0xAA) (verdict MasterPart (xs ++ (b ∷ []))) ∙ e) l
    where
      two : (q j : Bool) → 0 ≡ number_in (cond q (cond j given silence) silence)
      two true true = refl
      two true false = refl
      two false j = refl

      zero : (q : Bool) (o : Outcome) → 0 ≡ number_in (cond q silence (tells_read o (station a m) (xs ++ (b ∷ []))))
      zero true o = refl
      zero false More = refl
      zero false Cut = refl
      zero false NoMaster = refl
      zero false Unusable = refl
      zero false TooLong = refl
      zero false (BrokenPair x) = refl
      zero false (Whole j) = two (eqb (share.zz_in (xs ++ (b ∷ []))) 0xFE) j
  reads_why (asker t) n xs (Symbol b) {k} e l = by (eqb b 0xAA) (verdict AnswerPart (xs ++ (b ∷ []))) refl refl (answer_comes_to (xs ++ (b ∷ []))) e
    where
      by : (q : Bool) (o : Outcome) → eqb b 0xAA ≡ q → verdict AnswerPart (xs ++ (b ∷ [])) ≡ o → InAnswer o
          → number_in (cond q (failed_free 4 option.none) (tells_read o (asker t) (xs ++ (b ∷ [])))) ≡ k → Fails book k (share.reads (asker t) n xs) (Symbol b)
      by true o i j w e = it_is (syn_in_answer (eqb-true b 0xAA i)) e
      by false o i j goes_on e = none e l
      by false o i j too_long e = it_is (over_long (eqb-false b 0xAA i) j) e
      by false o i j breaks e = it_is (pair_broken (eqb-false b 0xAA i) j) e
      by false o i j ends e = none e l

  judges_why : (r : Reader) (n : Time) (xs : List ℕ) (matched just : Bool) (h : Sound) {k : ℕ} → number_in (tells_in (share.judges r n xs matched just) book h) ≡ k → 1 ≤ k
      → Fails book k (share.judges r n xs matched just) h
  judges_why r n xs matched just Quiet e l = none e l
  judges_why (station a m) n xs matched just (Symbol b) {k} e l = none (zero (eqb b 0x00) (eqb b 0xFF) (eqb b 0xAA) matched ∙ e) l
    where
      zero : (x y z matched : Bool) → 0 ≡ number_in (cond x (cond matched given silence) (cond y silence (cond z silence silence)))
      zero true y z true = refl
      zero true y z false = refl
      zero false true z j = refl
      zero false false true j = refl
      zero false false false j = refl
  judges_why (asker t) n xs matched just (Symbol b) {k} e l = by (eqb b 0x00) (eqb b 0xFF) (eqb b 0xAA) refl refl refl e
    where
      taken_why : (j : Bool) → b ≡ 0x00 → number_in (cond j answered (failed 2 option.none)) ≡ k → Fails book k (share.judges (asker t) n xs j just) (Symbol b)
      taken_why true i e = none e l
      taken_why false i e = it_is (wrong_taken i) e

      again_why : (n : Time) → b ≡ 0xFF → number_in (tells_nak n) ≡ k → Fails book k (share.judges (asker t) n xs matched just) (Symbol b)
      again_why once i e = none e l
      again_why again i e = it_is (answer_nak_twice i) e

      by : (x y z : Bool) → eqb b 0x00 ≡ x → eqb b 0xFF ≡ y → eqb b 0xAA ≡ z
          → number_in (cond x (cond matched answered (failed 2 option.none)) (cond y (tells_nak n) (cond z (failed_free 4 option.none) (failed 2 option.none)))) ≡ k
          → Fails book k (share.judges (asker t) n xs matched just) (Symbol b)
      by true y z p q r e = taken_why matched (eqb-true b 0x00 p) e
      by false true z p q r e = again_why n (eqb-true b 0xFF q) e
      by false false true p q r e = it_is (syn_after_answer (eqb-true b 0xAA r)) e
      by false false false p q r e =
          it_is (answer_not_acknowledged (record { not_ack = eqb-false b 0x00 p; not_nak = eqb-false b 0xFF q; not_syn = eqb-false b 0xAA r })) e

  owes_why : (pb sb : ℕ) (h : Sound) {k : ℕ} → number_in (tells_in (share.owes pb sb) book h) ≡ k → 1 ≤ k → Fails book k (share.owes pb sb) h
  owes_why pb sb h {k} e l = by (answer_form (book pb sb)) refl e
    where
      one : (y : ℕ) (ys : List ℕ) (q : Bool) → answer_form (book pb sb) ≡ y ∷ ys → is_symbol y h ≡ q
          → number_in (cond q silence (failed 1 option.none)) ≡ k → Fails book k (share.owes pb sb) h
      one y ys true i j e = none e l
      one y ys false i j e = it_is (disturbed_first i j) e

      by : (fs : List ℕ) → answer_form (book pb sb) ≡ fs → number_in (tells_first fs h) ≡ k → Fails book k (share.owes pb sb) h
      by [] i e = none e l
      by (y ∷ ys) i e = one y ys (is_symbol y h) i refl e

  pub why : (u : Share) (h : Sound) {k : ℕ} → number_in (tells_in u book h) ≡ k → 1 ≤ k → Fails book k u h
  why share.over h e l = none e l
  why share.releases h e l = none e l
  why (share.sends s n y ys) h e l = sends_why s n y ys h e l
  why (share.awaits s n) h e l = awaits_why s n h e l
  why (share.reads r n xs) h e l = reads_why r n xs h e l
  why (share.judges r n xs matched just) h e l = judges_why r n xs matched just h e l
  why (share.owes pb sb) h e l = owes_why pb sb h e l

  -- and then it is told so
  pub then_told : {k : ℕ} {u : Share} {h : Sound} → Fails book k u h → number_in (tells_in u book h) ≡ k
  then_told (disturbed {s = s} e) = rw e (of s)
    where
      of : (s : Sender) → number_in (observer.disturbed s) ≡ 1
      of (owner t) = refl
      of (slave xs) = refl
  then_told (disturbed_first f e) = rw (f, e)
  then_told (no_acknowledgement {b = b} w) = rw (ne_eqb b 0x00 w.not_ack, ne_eqb b 0xFF w.not_nak, ne_eqb b 0xAA w.not_syn)
  then_told (answer_not_acknowledged {b = b} w) = rw (ne_eqb b 0x00 w.not_ack, ne_eqb b 0xFF w.not_nak, ne_eqb b 0xAA w.not_syn)
  then_told (wrong_taken e) = rw e
  then_told (nak_twice e) = rw e
  then_told (answer_nak_twice e) = rw e
  then_told (syn_heard {s = s} e) = rw e (of s)
    where
      of : (s : Sender) → number_in (cut_short s) ≡ 4
      of (owner t) = refl
      of (slave xs) = refl
  then_told (syn_in_answer e) = rw e
  then_told (syn_after_answer e) = rw e
  then_told (pair_broken {b = b} n e) = rw (ne_eqb b 0xAA n, e)
  then_told (over_long {b = b} n e) = rw (ne_eqb b 0xAA n, e)

  -- a station that reads a master part fails in nothing
  pub reader_never : {k : ℕ} {u : Share} {h : Sound} {a : ℕ} {m : Bool} {n : Time} {xs : List ℕ} → Fails book k u h → u ≡ share.reads (station a m) n xs → ⊥
  reader_never (disturbed _) e = clash (cc)
  reader_never (disturbed_first _ _) e = clash (cc)
  reader_never (no_acknowledgement _) e = clash (cc)
  reader_never (answer_not_acknowledged _) e = clash (cc)
  reader_never (wrong_taken _) e = clash (cc)
  reader_never (nak_twice _) e = clash (cc)
  reader_never (answer_nak_twice _) e = clash (cc)
  reader_never (syn_heard _) e = clash (cc)
  reader_never (syn_in_answer _) e = clash (cc)
  reader_never (syn_after_answer _) e = clash (cc)
  reader_never (pair_broken _ _) e = clash (cc)
  reader_never (over_long _ _) e = clash (cc)

  -- ---- which pair was broken

  pub then_pair : {x : WrongPair} {u : Share} {h : Sound} → Breaks x u h → tells_in u book h ≡ failed 5 (option.some x)
  then_pair (in_answer {b = b} n e) = rw (ne_eqb b 0xAA n, e)

  -- told with failed 5: of its two causes an NN above 16 speaks of no pair
  of_5 : {k : ℕ} {x : WrongPair} {u : Share} {h : Sound} → Fails book k u h → k ≡ 5 → tells_in u book h ≡ failed 5 (option.some x) → Breaks x u h
  of_5 (disturbed _) i e = absurd (omega arith)
  of_5 (disturbed_first _ _) i e = absurd (omega arith)
  of_5 (no_acknowledgement _) i e = absurd (omega arith)
  of_5 (answer_not_acknowledged _) i e = absurd (omega arith)
  of_5 (wrong_taken _) i e = absurd (omega arith)
  of_5 (nak_twice _) i e = absurd (omega arith)
  of_5 (answer_nak_twice _) i e = absurd (omega arith)
  of_5 (syn_heard _) i e = absurd (omega arith)
  of_5 (syn_in_answer _) i e = absurd (omega arith)
  of_5 (syn_after_answer _) i e = absurd (omega arith)
  of_5 (pair_broken {b = b} {x = y} n f) i e =
      let j : failed 5 (option.some y) ≡ failed 5 (option.some _) = sym (rw (ne_eqb b 0xAA n, f)) ∙ e in
      in_answer n (f ∙ ap BrokenPair cc)
  of_5 (over_long {b = b} n f) i e =
      let j : failed 5 option.none ≡ failed 5 (option.some _) = sym (rw (ne_eqb b 0xAA n, f)) ∙ e in
      clash (cc)

  pub why_pair : {x : WrongPair} {u : Share} {h : Sound} → tells_in u book h ≡ failed 5 (option.some x) → Breaks x u h
  why_pair {u = u} {h = h} e = of_5 (why u h (ap number_in e) (omega arith)) refl e
