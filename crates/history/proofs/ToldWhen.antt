-- Taken, free, given and answer, each exactly when (01, "Acknowledgement", "Broadcast", "Release"). Assumes nothing.
use mathlib.Core.Path.{◌≡◌, refl}
use mathlib.Core.Logic.{◌⊎◌, inl, inr, ⊎_elim}
use mathlib.Core.Bool.{Bool, true, false, cond, false≢true}
use mathlib.Core.List.{List, [], ◌∷◌, ◌++◌}
use mathlib.Core.Option.{Option, none}
use Prim.Native.Nat.{ℕ}
use native.Mathlib.Omega.{arith}
use borrow.Author.Tests.{eqb-true, eqb-false, ne_eqb, eq-eqb}
use lib.Dec.{eqb}
use Rattle.address.specs.Master.{is_master}
use Rattle.wire.specs.Form.{answer_form}
use Rattle.wire.specs.declared.part.Part.TheVariants.{MasterPart, AnswerPart}
use Rattle.wire.specs.declared.pair.WrongPair.{WrongPair}
use Rattle.wire.specs.declared.reader.Outcome.{Outcome}
use Rattle.wire.specs.declared.reader.Outcome.TheVariants.{More, Cut, NoMaster, Unusable, TooLong, BrokenPair, Whole}
use Rattle.wire.proofs.SymbolKind.{clash}
use Rattle.station.specs.declared.phase.Sound.{Sound}
use Rattle.station.specs.declared.phase.Sound.TheVariants.{Quiet, Symbol}
use Rattle.history.specs.Moments.{Answers, is_symbol}
use Rattle.history.specs.Share.{Time, once, again, Sender, owner, slave, Reader, station, asker, Share, zz_in}
use Rattle.history.specs.Share as share
use Rattle.history.specs.Verdict.{verdict}
use Rattle.history.specs.Observer.{Report, silence, taken, free, given, answered, failed, failed_free, tells_nak, tells_read, tells_first, tells_in}
use Rattle.history.specs.Failed.{Fails}
use Rattle.history.specs.Failed as fail
use Rattle.history.specs.Reasons.{is_free, owns_it, Taken, Leaves, Given, Answered}
use Rattle.history.specs.Reasons as by

module _ (book : Answers) where
  -- what is told has its reason
  pub record Reasons (u : Share) (h : Sound) (r : Report) : Type 0 where
    pub why_taken : r ≡ taken → Taken u h
    pub why_free : is_free r ≡ true → Leaves book u h
    pub why_given : r ≡ given → Given u h
    pub why_answered : r ≡ answered → Answered u h

  module _ {u : Share} {h : Sound} where
    told_silence : Reasons u h silence
    told_silence =
        record { why_taken = λ e. clash (cc); why_free = λ e. absurd (false≢true e); why_given = λ e. clash (cc); why_answered = λ e. clash (cc) }

    told_failed : (k : ℕ) {x : Option WrongPair} → Reasons u h (failed k x)
    told_failed k =
        record { why_taken = λ e. clash (cc); why_free = λ e. absurd (false≢true e); why_given = λ e. clash (cc); why_answered = λ e. clash (cc) }

    told_failed_free : (k : ℕ) {x : Option WrongPair} → Leaves book u h → Reasons u h (failed_free k x)
    told_failed_free k w =
        record { why_taken = λ e. clash (cc); why_free = λ e. w; why_given = λ e. clash (cc); why_answered = λ e. clash (cc) }

    told_free : Leaves book u h → Reasons u h free
    told_free w = record { why_taken = λ e. clash (cc); why_free = λ e. w; why_given = λ e. clash (cc); why_answered = λ e. clash (cc) }

    told_taken : Taken u h → Reasons u h taken
    told_taken w =
        record { why_taken = λ e. w; why_free = λ e. absurd (false≢true e); why_given = λ e. clash (cc); why_answered = λ e. clash (cc) }

    told_given : Given u h → Reasons u h given
    told_given w =
        record { why_taken = λ e. clash (cc); why_free = λ e. absurd (false≢true e); why_given = λ e. w; why_answered = λ e. clash (cc) }

    told_answered : Answered u h → Reasons u h answered
    told_answered w =
        record { why_taken = λ e. clash (cc); why_free = λ e. absurd (false≢true e); why_given = λ e. clash (cc); why_answered = λ e. w }

    test : (q : Bool) {r s : Report} → (q ≡ true → Reasons u h r) → (q ≡ false → Reasons u h s) → Reasons u h (cond q r s)
    test true f g = f refl
    test false f g = g refl

    nak : (n : Time) → Reasons u h (tells_nak n)
    nak once = told_silence
    nak again = told_failed 3

  sends_reasons : (s : Sender) (n : Time) (y : ℕ) (ys : List ℕ) (h : Sound) → Reasons (share.sends s n y ys) h (tells_in (share.sends s n y ys) book h)
  sends_reasons (owner t) n y [] h =
      test (is_symbol y h) (λ i. test (eqb t.zz 0xFE) (λ z. told_taken (by.broadcast_out (eqb-true t.zz 0xFE z) i)) (λ _. told_silence))
      (λ i. told_failed_free 1 (by.after_1 refl (fail.disturbed i)))
  sends_reasons (owner t) n y (z ∷ zs) h = test (is_symbol y h) (λ i. told_silence) (λ i. told_failed_free 1 (by.after_1 refl (fail.disturbed i)))
  sends_reasons (slave xs) n y [] h = test (is_symbol y h) (λ i. told_silence) (λ i. told_failed 1)
  sends_reasons (slave xs) n y (z ∷ zs) h = test (is_symbol y h) (λ i. told_silence) (λ i. told_failed 1)

  awaits_reasons : (s : Sender) (n : Time) (h : Sound) → Reasons (share.awaits s n) h (tells_in (share.awaits s n) book h)
  awaits_reasons s n Quiet = told_silence
  awaits_reasons (owner t) n (Symbol b) =
      test (eqb b 0x00) (λ i. told_taken (by.acknowledged (eqb-true b 0x00 i))) λ _.
      test (eqb b 0xFF) (λ _. nak n) λ _.
      test (eqb b 0xAA) (λ i. told_failed_free 4 (by.after_4 refl (fail.syn_heard (eqb-true b 0xAA i)))) λ _. told_failed 2
  awaits_reasons (slave xs) n (Symbol b) =
      test (eqb b 0x00) (λ i. told_taken (by.acknowledged (eqb-true b 0x00 i))) λ _.
      test (eqb b 0xFF) (λ _. nak n) λ _. test (eqb b 0xAA) (λ _. told_failed 4) λ _. told_failed 2

  reads_reasons : (r : Reader) (n : Time) (xs : List ℕ) (h : Sound) → Reasons (share.reads r n xs) h (tells_in (share.reads r n xs) book h)
  reads_reasons r n xs Quiet = told_silence
  reads_reasons (station a m) n xs (Symbol b) = test (eqb b 0xAA) (λ _. told_silence) λ i. of (verdict MasterPart (xs ++ (b ∷ []))) refl (eqb-false b 0xAA i)
    where
      of : (o : Outcome) → verdict MasterPart (xs ++ (b ∷ [])) ≡ o → (b ≡ 0xAA → ⊥) → Reasons (share.reads (station a m) n xs) (Symbol b) (tells_read o (station a m) (xs ++ (b ∷ [])))
      of More e i = told_silence
      of Cut e i = told_silence
      of NoMaster e i = told_silence
      of Unusable e i = told_silence
      of TooLong e i = told_silence
      of (BrokenPair x) e i = told_silence
      of (Whole true) e i =
          test (eqb (zz_in (xs ++ (b ∷ []))) 0xFE) (λ z. told_given (by.broadcast_read i (eqb-true (zz_in (xs ++ (b ∷ []))) 0xFE z) e)) (λ _. told_silence)
      of (Whole false) e i = test (eqb (zz_in (xs ++ (b ∷ []))) 0xFE) (λ _. told_silence) (λ _. told_silence)
  reads_reasons (asker t) n xs (Symbol b) =
      test (eqb b 0xAA) (λ i. told_failed_free 4 (by.after_4 refl (fail.syn_in_answer (eqb-true b 0xAA i)))) λ _. of (verdict AnswerPart (xs ++ (b ∷ [])))
    where
      of : (o : Outcome) → Reasons (share.reads (asker t) n xs) (Symbol b) (tells_read o (asker t) (xs ++ (b ∷ [])))
      of More = told_silence
      of Cut = told_failed 4
      of NoMaster = told_failed 5
      of Unusable = told_failed 5
      of TooLong = told_failed 5
      of (BrokenPair x) = told_failed 5
      of (Whole matched) = told_silence

  judges_reasons : (r : Reader) (n : Time) (xs : List ℕ) (matched just : Bool) (h : Sound)
      → Reasons (share.judges r n xs matched just) h (tells_in (share.judges r n xs matched just) book h)
  judges_reasons r n xs matched just Quiet = told_silence
  judges_reasons (station a m) n xs matched just (Symbol b) =
      test (eqb b 0x00) (λ i. of matched (eqb-true b 0x00 i)) λ _.
      test (eqb b 0xFF) (λ _. told_silence) λ _. test (eqb b 0xAA) (λ _. told_silence) (λ _. told_silence)
    where
      of : (matched : Bool) → b ≡ 0x00 → Reasons (share.judges (station a m) n xs matched just) (Symbol b) (cond matched given silence)
      of true i = told_given (by.acknowledged i)
      of false i = told_silence
  judges_reasons (asker t) n xs matched just (Symbol b) =
      test (eqb b 0x00) (λ i. of matched (eqb-true b 0x00 i)) λ _.
      test (eqb b 0xFF) (λ _. nak n) λ _.
      test (eqb b 0xAA) (λ i. told_failed_free 4 (by.after_4 refl (fail.syn_after_answer (eqb-true b 0xAA i)))) λ _. told_failed 2
    where
      of : (matched : Bool) → b ≡ 0x00 → Reasons (share.judges (asker t) n xs matched just) (Symbol b) (cond matched answered (failed 2 none))
      of true i = told_answered (by.acknowledged i)
      of false i = told_failed 2

  owes_reasons : (pb sb : ℕ) (fs : List ℕ) (h : Sound) → Reasons (share.owes pb sb) h (tells_first fs h)
  owes_reasons pb sb [] h = told_silence
  owes_reasons pb sb (y ∷ ys) h = test (is_symbol y h) (λ _. told_silence) (λ _. told_failed 1)

  pub reasons : (u : Share) (h : Sound) → Reasons u h (tells_in u book h)
  reasons share.over h = told_silence
  reasons share.releases h = told_free by.released
  reasons (share.sends s n y ys) h = sends_reasons s n y ys h
  reasons (share.awaits s n) h = awaits_reasons s n h
  reasons (share.reads r n xs) h = reads_reasons r n xs h
  reasons (share.judges r n xs matched just) h = judges_reasons r n xs matched just h
  reasons (share.owes pb sb) h = owes_reasons pb sb (answer_form (book pb sb)) h

  -- ---- and then it is told so

  pub then_taken : {u : Share} {h : Sound} → Taken u h → tells_in u book h ≡ taken
  then_taken (by.broadcast_out {t = t} z i) = rw (i, eq-eqb t.zz 0xFE z)
  then_taken (by.acknowledged e) = rw e

  pub then_given : {u : Share} {h : Sound} → Given u h → tells_in u book h ≡ given
  then_given (by.acknowledged e) = rw e
  then_given (by.broadcast_read {xs = xs} {b = b} n z e) = rw (ne_eqb b 0xAA n, e, z)

  pub then_answered : {u : Share} {h : Sound} → Answered u h → tells_in u book h ≡ answered
  then_answered (by.acknowledged e) = rw e

  -- an owner that fails by 1 or 4
  then_leaves : {k : ℕ} {u : Share} {h : Sound} → Fails book k u h → owns_it u ≡ true → (k ≡ 1) ⊎ (k ≡ 4) → is_free (tells_in u book h) ≡ true
  then_leaves (fail.disturbed {s = owner t} i) o e = rw i
  then_leaves (fail.disturbed {s = slave xs} i) o e = absurd (false≢true o)
  then_leaves (fail.disturbed_first _ _) o e = absurd (false≢true o)
  then_leaves (fail.no_acknowledgement _) o e = ⊎_elim (λ z. absurd (omega arith)) (λ z. absurd (omega arith)) e
  then_leaves (fail.answer_not_acknowledged _) o e = ⊎_elim (λ z. absurd (omega arith)) (λ z. absurd (omega arith)) e
  then_leaves (fail.wrong_taken _) o e = ⊎_elim (λ z. absurd (omega arith)) (λ z. absurd (omega arith)) e
  then_leaves (fail.nak_twice _) o e = ⊎_elim (λ z. absurd (omega arith)) (λ z. absurd (omega arith)) e
  then_leaves (fail.answer_nak_twice _) o e = ⊎_elim (λ z. absurd (omega arith)) (λ z. absurd (omega arith)) e
  then_leaves (fail.syn_heard {s = owner t} i) o e = rw i
  then_leaves (fail.syn_heard {s = slave xs} i) o e = absurd (false≢true o)
  then_leaves (fail.syn_in_answer i) o e = rw i
  then_leaves (fail.syn_after_answer i) o e = rw i
  then_leaves (fail.pair_broken _ _) o e = ⊎_elim (λ z. absurd (omega arith)) (λ z. absurd (omega arith)) e
  then_leaves (fail.over_long _ _) o e = ⊎_elim (λ z. absurd (omega arith)) (λ z. absurd (omega arith)) e

  pub then_free : {u : Share} {h : Sound} → Leaves book u h → is_free (tells_in u book h) ≡ true
  then_free by.released = refl
  then_free (by.after_1 o f) = then_leaves f o (inl refl)
  then_free (by.after_4 o f) = then_leaves f o (inr refl)

  -- the first symbol of a part tells its reader nothing
  pub first_silent : (a : ℕ) (m : Bool) (n : Time) (h : Sound) → tells_in (share.reads (station a m) n []) book h ≡ silence
  unfolding verdict
  first_silent a m n Quiet = refl
  first_silent a m n (Symbol b) = of (eqb b 0xAA) (is_master b)
    where
      of : (q r : Bool) → cond q silence (tells_read (cond r More NoMaster) (station a m) (b ∷ [])) ≡ silence
      of true r = refl
      of false true = refl
      of false false = refl
