-- What a station hands out in a slot is what it heard, and its lines are those of its report. Assumes nothing.
use mathlib.Core.Path.{◌≡◌, refl, sym, ap, ap₂, ◌∙◌}
use mathlib.Core.Bool.{Bool, true, false, cond, true≢false}
use mathlib.Core.List.{List, [], ◌∷◌, ◌++◌}
use Prim.Native.Nat.{ℕ}
use borrow.Author.Tests.{ne_eqb}
use lib.Dec.{eqb}
use lib.ListN.{drop}
use Rattle.wire.specs.Form.{telegram_form, answer_form}
use Rattle.wire.specs.Reader.{read_one}
use Rattle.wire.specs.Reading.{Sixteen, form_of}
use Rattle.wire.specs.Reader.{start_of}
use Rattle.wire.specs.declared.part.Part.{Part}
use Rattle.wire.specs.declared.part.Part.TheVariants.{MasterPart, AnswerPart}
use Rattle.wire.specs.declared.part.Telegram.{Telegram}
use Rattle.wire.specs.declared.reader.Cursor.{Cursor}
use Rattle.wire.specs.declared.reader.Outcome.{Outcome}
use Rattle.wire.specs.declared.reader.Outcome.TheVariants.{More, Cut, NoMaster, Unusable, TooLong, BrokenPair, Whole}
use Rattle.wire.proofs.OneMore.{step_whole, whole_form}
use Rattle.wire.proofs.Reached.{Reached, reached_so_far}
use Rattle.wire.proofs.SymbolKind.{clash, kind_syn}
use Rattle.station.specs.Events.{events_as}
use Rattle.station.specs.Hear.{hears}
use Rattle.station.specs.Outbox.{waiting}
use Rattle.station.specs.declared.outbox.Outbox.{Outbox}
use Rattle.wire.specs.declared.part.Part.{Part}
use Rattle.station.specs.declared.phase.Attempt.{Attempt}
use Rattle.station.specs.declared.phase.Phase.{Phase}
use Rattle.station.specs.declared.phase.Phase.TheVariants.{Reading, Judging, Owing}
use Rattle.station.specs.declared.phase.Sound.{Sound}
use Rattle.station.specs.declared.phase.Sound.TheVariants.{Quiet, Symbol}
use Rattle.station.specs.declared.phase.Told.{Told}
use Rattle.station.specs.declared.phase.Told.TheVariants.{Silence, Owns, Taken, Failed, Free, FailedFree, Given, Answered}
use Rattle.station.specs.declared.station.Station.{Station}
use Rattle.station.proofs.Aa.{NoSyn, symbol}
use Rattle.station.proofs.Turned.{outbox_after}
use Rattle.station.proofs.Waiting.{Kept, dropped_rest, dropped_none}
use Rattle.promises.proofs.Shared.PartAfter.{PartAfter, is_oldest, is_read, reading_kept, silent_kept, sending_kept, awaiting_kept, judging_kept, owing_kept, releasing_kept, part_after}
use Rattle.history.specs.Moments.{Answers, is_symbol}
use Rattle.history.specs.Share.{Sender, owner, slave, Reader, station, asker, Time, once, again, Share, reads_for_all, which_of}
use Rattle.history.specs.Share as share
use Rattle.history.specs.Verdict.{verdict}
use Rattle.history.specs.Observer.{report_of, Report, silence, owns, taken, free, given, answered, failed, failed_free, tells_out, tells_nak, tells_read, tells_handed, to_owner, tells_first, tells_in, disturbed, cut_short}
use Rattle.history.specs.Lines.{lines, HandsOut, left_by}
use Rattle.history.proofs.Matches.{Named, Holds, Matches, MatchesIn}
use Rattle.history.proofs.Matches as matches
use Rattle.history.proofs.Slots.{begun}
use Rattle.history.proofs.Verdicts.{verdict_next}

-- ---- the lines of a report

pub lines_are : (d : Told) (a : ℕ) (t : Telegram) → events_as d a t ≡ lines a (report_of d) t
lines_are Silence a t = refl
lines_are Owns a t = refl
lines_are Taken a t = refl
lines_are (Failed f) a t = refl
lines_are Free a t = refl
lines_are (FailedFree f) a t = refl
lines_are Given a t = refl
lines_are Answered a t = refl

-- ---- the telegrams that are left

dropped_first : (o : Outbox) → Kept o → waiting (outbox_after Free o) ≡ drop 1 (waiting o)
dropped_first o k = by (waiting o) refl
  where
    by : (l : List Telegram) → waiting o ≡ l → waiting (outbox_after Free o) ≡ drop 1 l
    by [] e = ap waiting (dropped_none o k e) ∙ e
    by (t ∷ ts) e = dropped_rest o k e

pub left_are : (d : Told) (o : Outbox) → Kept o → waiting (outbox_after d o) ≡ left_by (report_of d) (waiting o)
left_are Silence o k = refl
left_are Owns o k = refl
left_are Taken o k = refl
left_are (Failed f) o k = refl
left_are Free o k = dropped_first o k
left_are (FailedFree f) o k = dropped_first o k
left_are Given o k = refl
left_are Answered o k = refl

-- ---- who hands nothing out

abbrev outs : Report → Bool
outs silence = false
outs owns = false
outs taken = false
outs free = false
outs given = true
outs answered = true
outs (failed n x) = false
outs (failed_free n x) = false

-- it hands nothing out
record Mute (r : Report) : Type 0 where
  mute : outs r ≡ false

nothing : {u : Share} {h : Sound} {r : Report} {t : Telegram} → Mute r → HandsOut u h r t
nothing e =
    record {
      part = λ i. absurd (true≢false (sym (ap outs i) ∙ e.mute));
      answer = λ i. absurd (true≢false (sym (ap outs i) ∙ e.mute));
      from = λ i. absurd (true≢false (sym (ap outs i) ∙ e.mute));
    }

either : (q : Bool) {r s : Report} → Mute r → Mute s → Mute (cond q r s)
either true e f = e
either false e f = f

none_out : (d : Sender) (zs : List ℕ) → Mute (tells_out d zs)
none_out (owner t) [] = either (eqb t.zz 0xFE) (record { mute = refl }) (record { mute = refl })
none_out (slave xs) [] = record { mute = refl }
none_out d (z ∷ zs) = record { mute = refl }

none_disturbed : (d : Sender) → Mute (disturbed d)
none_disturbed (owner t) = record { mute = refl }
none_disturbed (slave xs) = record { mute = refl }

none_cut : (d : Sender) → Mute (cut_short d)
none_cut (owner t) = record { mute = refl }
none_cut (slave xs) = record { mute = refl }

none_nak : (n : Time) → Mute (tells_nak n)
none_nak once = record { mute = refl }
none_nak again = record { mute = refl }

none_owner : (r : Reader) {f : Report} → Mute f → Mute (to_owner r f)
none_owner (station a m) e = record { mute = refl }
none_owner (asker t) e = e

-- ---- the part after a slot

judging_part : {part oldest after : Telegram} {p q : Phase} {h : Sound} {d : Told} {k : Part} {n : Attempt} {y j : Bool} → PartAfter part oldest p h d q after
    → p ≡ Judging k n y j → after ≡ part
judging_part is_oldest e = clash (cc)
judging_part (is_read _) e = clash (cc)
judging_part reading_kept e = refl
judging_part silent_kept e = refl
judging_part sending_kept e = refl
judging_part awaiting_kept e = refl
judging_part judging_kept e = refl
judging_part owing_kept e = refl
judging_part releasing_kept e = refl

reading_part : {part oldest after : Telegram} {p q : Phase} {h : Sound} {d : Told} {c : Cursor} {k : Part} {n : Attempt} {b : ℕ} → PartAfter part oldest p h d q after
    → p ≡ Reading c k n → h ≡ Symbol b → (d ≡ Owns → ⊥) → after ≡ (read_one c part b).part
reading_part is_oldest e f o = absurd (o refl)
reading_part {part = part} {c = c} {b = b} (is_read {c = c'} {b = b'} _) e f o =
    let i : c' ≡ c = cc in
    let j : b' ≡ b = cc in
    ap₂ (λ (x : Cursor) (y : ℕ). (read_one x part y).part) i j
reading_part reading_kept e f o = clash (cc)
reading_part silent_kept e f o = clash (cc)
reading_part sending_kept e f o = clash (cc)
reading_part awaiting_kept e f o = clash (cc)
reading_part judging_kept e f o = clash (cc)
reading_part owing_kept e f o = clash (cc)
reading_part releasing_kept e f o = clash (cc)

-- ---- a whole part that is handed out at once

record AtOnce (o : Outcome) (r : Reader) : Type 0 where
  whole : o ≡ Whole true
  which : which_of r ≡ MasterPart

at_once : (o : Outcome) (r : Reader) (ys : List ℕ) → tells_read o r ys ≡ given → AtOnce o r
at_once More r ys e = clash (cc)
at_once Cut (station a m) ys e = clash (cc)
at_once Cut (asker t) ys e = clash (cc)
at_once NoMaster (station a m) ys e = clash (cc)
at_once NoMaster (asker t) ys e = clash (cc)
at_once Unusable (station a m) ys e = clash (cc)
at_once Unusable (asker t) ys e = clash (cc)
at_once TooLong (station a m) ys e = clash (cc)
at_once TooLong (asker t) ys e = clash (cc)
at_once (BrokenPair x) (station a m) ys e = clash (cc)
at_once (BrokenPair x) (asker t) ys e = clash (cc)
at_once (Whole matched) (asker t) ys e = clash (cc)
at_once (Whole matched) (station a m) ys e = by (eqb (share.zz_in ys) 0xFE) matched e
  where
    by : (q matched : Bool) → cond q (cond matched given silence) silence ≡ given → AtOnce (Whole matched) (station a m)
    by true true e = record { whole = refl; which = refl }
    by true false e = clash (cc)
    by false matched e = clash (cc)

no_answer_read : (o : Outcome) (r : Reader) (ys : List ℕ) → tells_read o r ys ≡ answered → ⊥
no_answer_read More r ys e = clash (cc)
no_answer_read Cut (station a m) ys e = clash (cc)
no_answer_read Cut (asker t) ys e = clash (cc)
no_answer_read NoMaster (station a m) ys e = clash (cc)
no_answer_read NoMaster (asker t) ys e = clash (cc)
no_answer_read Unusable (station a m) ys e = clash (cc)
no_answer_read Unusable (asker t) ys e = clash (cc)
no_answer_read TooLong (station a m) ys e = clash (cc)
no_answer_read TooLong (asker t) ys e = clash (cc)
no_answer_read (BrokenPair x) (station a m) ys e = clash (cc)
no_answer_read (BrokenPair x) (asker t) ys e = clash (cc)
no_answer_read (Whole matched) r ys e = by (reads_for_all r ys) matched e
  where
    by : (q matched : Bool) → cond q (cond matched given silence) silence ≡ answered → ⊥
    by true true e = clash (cc)
    by true false e = clash (cc)
    by false matched e = clash (cc)

none_first : (fs : List ℕ) (h : Sound) → Mute (tells_first fs h)
none_first [] h = record { mute = refl }
none_first (y ∷ ys) h = either (is_symbol y h) (record { mute = refl }) (record { mute = refl })

-- AA hands nothing out
pub none_syn : (u : Share) (book : Answers) {t : Telegram} → HandsOut u (Symbol 0xAA) (tells_in u book (Symbol 0xAA)) t
none_syn share.over book = nothing (record { mute = refl })
none_syn share.releases book = nothing (record { mute = refl })
none_syn (share.sends d n y zs) book = nothing (either (eqb y 0xAA) (none_out d zs) (none_disturbed d))
none_syn (share.awaits d n) book = nothing (none_cut d)
none_syn (share.reads r n xs) book = nothing (none_owner r (record { mute = refl }))
none_syn (share.judges r n xs matched just) book = nothing (none_owner r (record { mute = refl }))
none_syn (share.owes pb sb) book = nothing (none_first (answer_form (book pb sb)) (Symbol 0xAA))

pub none_owns : {u : Share} {h : Sound} {t : Telegram} → HandsOut u h owns t
none_owns = nothing (record { mute = refl })

-- an answer that is owed is as good as begun
pub begun_hands : (u : Share) (book : Answers) (h : Sound) {t : Telegram} → HandsOut (begun u book) h (tells_in (begun u book) book h) t
    → HandsOut u h (tells_in u book h) t
begun_hands share.over book h w = w
begun_hands share.releases book h w = w
begun_hands (share.sends d n y zs) book h w = w
begun_hands (share.awaits d n) book h w = w
begun_hands (share.reads r n xs) book h w = w
begun_hands (share.judges r n xs matched just) book h w = w
begun_hands (share.owes pb sb) book h w = nothing (none_first (answer_form (book pb sb)) h)

-- ---- a station

module _ (s : Station) (book : Answers) (held : s.phase ≡ Owing → ⊥) where
  abbrev part_of : Sound → Telegram
  part_of h = (hears s h).station.part

  reading_hands : (b : ℕ) → (b ≡ 0xAA → ⊥) → (r : Reader) (n : Time) (xs : List ℕ) (c : Cursor) (p₀ : Telegram) → Sixteen p₀.load
      → Reached (start_of (which_of r)) p₀ xs c s.part
      → (tells_read (verdict (which_of r) (xs ++ (b ∷ []))) r (xs ++ (b ∷ [])) ≡ given → part_of (Symbol b) ≡ (read_one c s.part b).part)
      → HandsOut (share.reads r n xs) (Symbol b) (tells_read (verdict (which_of r) (xs ++ (b ∷ []))) r (xs ++ (b ∷ []))) (part_of (Symbol b))
  unfolding telegram_form
  reading_hands b k r n xs c p₀ f w e =
      let h = reached_so_far (which_of r) c p₀ s.part xs f w in
      let ys = xs ++ (b ∷ []) in
      record {
        part = λ i.
            let a = at_once (verdict (which_of r) ys) r ys i in
            let v = whole_form (step_whole h b (sym (verdict_next b h k) ∙ a.whole)) in
            ap (λ (t : Telegram). form_of MasterPart t) (e i) ∙ sym (v ∙ ap (λ (x : Part). form_of x (read_one c s.part b).part) a.which);
        answer = λ i. absurd (no_answer_read (verdict (which_of r) ys) r ys i);
        from = λ i. absurd (no_answer_read (verdict (which_of r) ys) r ys i);
      }

  judging_hands : (b : ℕ) (r : Reader) (n : Time) (xs : List ℕ) (matched just : Bool) → Holds r xs matched s.part
      → Named r s.address s.master s.part → part_of (Symbol b) ≡ s.part
      → HandsOut (share.judges r n xs matched just) (Symbol b) (tells_handed r matched) (part_of (Symbol b))
  unfolding telegram_form answer_form
  judging_hands b (station a m) n xs true just h i e =
      record { part = λ _. ap (λ (t : Telegram). form_of MasterPart t) e ∙ sym (h.form refl); answer = λ j. clash (cc); from = λ j. clash (cc) }
  judging_hands b (asker t) n xs true just h i e =
      record { part = λ j. clash (cc); answer = λ _. ap (λ (t : Telegram). form_of AnswerPart t) e ∙ sym (h.form refl); from = λ _. ap (λ (t : Telegram). t.zz) e ∙ i }
  judging_hands b r n xs false just h i e = nothing (none_owner r (record { mute = refl }))

  by_ack : {u : Share} {h : Sound} {t : Telegram} (q : Bool) {r f : Report} → HandsOut u h r t → Mute f → HandsOut u h (cond q r f) t
  by_ack true w e = w
  by_ack false w e = nothing e

  pub hands : (h : Sound) → NoSyn h → {u : Share} → MatchesIn s u → report_of (hears s h).told ≡ tells_in u book h
      → HandsOut u h (tells_in u book h) (part_of h)
  hands Quiet n {u} m t = go s.phase refl m
    where
      go : (p : Phase) {u : Share} → s.phase ≡ p → Matches s.address s.master s.out s.part p u → HandsOut u Quiet (tells_in u book Quiet) (part_of Quiet)
      go p e matches.is_over = nothing (record { mute = refl })
      go p e matches.is_releases = nothing (record { mute = refl })
      go p e (matches.is_sends {s = d} k xs f l w) = nothing (none_disturbed d)
      go p e (matches.is_awaits w) = nothing (record { mute = refl })
      go p e (matches.is_reads c q f w k i) = nothing (record { mute = refl })
      go p e (matches.is_judges g i) = nothing (record { mute = refl })
      go p e (matches.is_owes _ _) = absurd (held e)
  hands (Symbol b) (symbol n) {u} m t = go s.phase refl m t
    where
      not_syn : eqb b 0xAA ≡ false
      not_syn = ne_eqb b 0xAA (λ e. n ((kind_syn b).1 e))

      go : (p : Phase) {u : Share} → s.phase ≡ p → Matches s.address s.master s.out s.part p u
          → report_of (hears s (Symbol b)).told ≡ tells_in u book (Symbol b) → HandsOut u (Symbol b) (tells_in u book (Symbol b)) (part_of (Symbol b))
      go p e matches.is_over t = nothing (record { mute = refl })
      go p e matches.is_releases t = nothing (record { mute = refl })
      go p e (matches.is_sends {s = d} {y = y} {ys = zs} k xs f l w) t = nothing (either (eqb y b) (none_out d zs) (none_disturbed d))
      go p e (matches.is_awaits {s = d} {n = k} w) t =
          nothing (either (eqb b 0x00) (record { mute = refl }) (either (eqb b 0xFF) (none_nak k) (either (eqb b 0xAA) (none_cut d) (record { mute = refl }))))
      go p e (matches.is_reads {r = r} {n = k} {xs = xs} c q f w _ i) t =
          let t = rw not_syn at t in
          rw not_syn
          (reading_hands b (λ x. n ((kind_syn b).1 x)) r k xs c q f w
          (λ g. reading_part (part_after s (symbol n)) e refl (λ o. let z : owns ≡ given = sym (ap report_of o) ∙ t ∙ g in clash (cc))))
      go p e (matches.is_judges {r = r} {n = k} {xs = xs} {matched = y} {just = j} g i) t =
          by_ack (eqb b 0x00) (judging_hands b r k xs y j g i (judging_part (part_after s (symbol n)) e))
          (either (eqb b 0xFF) (none_owner r (none_nak k)) (either (eqb b 0xAA) (none_owner r (record { mute = refl })) (none_owner r (record { mute = refl }))))
      go p e (matches.is_owes _ _) t = absurd (held e)
