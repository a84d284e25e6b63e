-- One slot of one station, phase by phase, in the words of its share. Only this file looks into the station's definitions.
-- Assumes nothing.
use mathlib.Core.Path.{◌≡◌, refl, sym, ap, subst, subst₂, ◌∙◌}
use mathlib.Core.Bool.{Bool, true, false, not, cond, ◌||◌}
use mathlib.Core.List.{List, [], ◌∷◌, ◌++◌, append_assoc}
use mathlib.Core.Option.{none}
use Prim.Native.Nat.{ℕ, ◌+◌, ◌≤◌}
use native.Mathlib.Omega.{arith}
use borrow.Author.Tests.{eqb-true, eq-eqb, ne_eqb, lt-ltb}
use lib.Dec.{eqb, ltb}
use lib.ListN.{length, get_or, length-append}
use lib.Seq.{get_or-append_seam}
use Rattle.address.specs.Master.{is_master, slave_of}
use Rattle.address.specs.Half.{low_half}
use Rattle.address.specs.Role as address
use Rattle.address.specs.declared.Role.TheVariants.{Master, Slave, Broadcast, Never}
use Rattle.address.proofs.Masters.{master_no_other_use}
use Rattle.wire.specs.Form.{covered, form, holding, telegram_form, answer_form}
use Rattle.wire.specs.Reader.{read_one, master_start, answer_start, start_of}
use Rattle.wire.specs.Reading.{NoSyn, Sixteen, form_of}
use Rattle.wire.specs.declared.part.Part.{Part}
use Rattle.wire.specs.declared.part.Part.TheVariants.{MasterPart, AnswerPart}
use Rattle.wire.specs.Symbol.{kind_of}
use Rattle.wire.specs.declared.symbol.Kind.TheVariants.{Syn}
use Rattle.wire.proofs.Symbols.{no_syn_at, telegram_fits, telegram_no_syn, answer_fits, answer_no_syn}
use Rattle.wire.proofs.Endings.{cut_on_syn}
use Rattle.wire.proofs.SymbolKind.{clash, kind_syn}
use Rattle.wire.specs.declared.form.Wire.{Wire}
use Rattle.wire.specs.declared.part.Telegram.{Telegram}
use Rattle.wire.specs.declared.reader.Cursor.{Cursor}
use Rattle.wire.specs.declared.reader.Place.{Place}
use Rattle.wire.specs.declared.reader.Place.TheVariants.{Qq, Zz, Pb, Sb, Nn, Data, Crc}
use Rattle.wire.specs.declared.reader.Outcome.{Outcome}
use Rattle.wire.specs.declared.reader.Outcome.TheVariants.{More, Cut, NoMaster, Unusable, TooLong, BrokenPair, Whole}
use Rattle.wire.proofs.OneMore.{step_more, step_whole, whole_form}
use Rattle.wire.proofs.Reached.{Reached, reached_none, reached_more, reached_so_far}
use Rattle.wire.proofs.SoFar.{SoFar, Upto, at_qq, at_zz, at_pb, at_sb, at_nn, at_data, at_crc, IsWhole}
use Rattle.station.specs.Events.{number_of, pair_of}
use Rattle.station.specs.Addressed.{is_broadcast, for_all, answered, is_own}
use Rattle.station.proofs.Turned.{SendsAa, after_2, after_3, after_5, after_5_long, owner_sends_aa}
use Rattle.station.specs.Table.{reader_fails, whole, addressed, read_on, read_on_at, reads_as, reads, handed_out, judged_taken, read_again, judges, left, released, sender_fails, hear_bid, sent_whole, sent, hear_own_as, hear_own, taken, nak_heard, hear_reply, hear_reading, row, heard_nothing, heard_other, owner_fails}
use Rattle.station.specs.Admission.{owned, withdrawn, bids, say_bid, admits_after, admits, since_next, over_now, noted}
use Rattle.station.specs.Station.{due, answering, ready_at, ready, acknowledgement, says_at, says}
use Rattle.station.specs.Replies.{answer_for}
use Rattle.station.proofs.Frame.{Begins, as_it_stood, answers, ready_begins}
use Rattle.wire.specs.declared.part.Load.{Load}
use Rattle.station.proofs.AfterSyn.{told_by_syn, after_syn, syn_told}
use Rattle.station.specs.Hear.{hears}
use Rattle.station.specs.Turn.{goes, with_part}
use Rattle.station.specs.declared.phase.Attempt.{Attempt}
use Rattle.station.specs.declared.phase.Attempt.TheVariants.{First, Again}
use Rattle.station.specs.declared.phase.Phase.{Phase}
use Rattle.station.specs.declared.phase.Phase.TheVariants.{Silent, Reading, Sending, Awaiting, Judging, Owing, Releasing}
use Rattle.station.specs.declared.phase.Failure.{Failure}
use Rattle.station.specs.declared.phase.Failure.TheVariants.{Disturbed, WrongAck, TwiceNak, SynHeard, PairBroken, OverLong}
use Rattle.station.specs.declared.phase.Told.{Told}
use Rattle.station.specs.declared.phase.Told.TheVariants.{Silence, Taken, Failed, Free, FailedFree, Given, Answered}
use Rattle.station.specs.declared.phase.Sound.{Sound}
use Rattle.station.specs.declared.phase.Sound.TheVariants.{Quiet, Symbol}
use Rattle.station.specs.declared.station.Station.{Station}
use Rattle.station.specs.declared.station.Turn.{Turn}
use Rattle.station.specs.Outbox.{waiting, oldest_of}
use Rattle.station.proofs.Waiting.{Kept, held_waiting}
use Rattle.station.proofs.Possible.{Possible, bids_at_start}
use Rattle.station.proofs.Aa.{aa}
use Rattle.promises.proofs.Shared.Outgoing.{Outgoing}
use Rattle.promises.proofs.Shared.AtPhase.{quiet_at, symbol_at}
use Rattle.promises.proofs.Taken.SenderHeard.{due_is, sent_last, sent_more}
use Rattle.history.specs.Moments.{Answers, Moment, is_symbol}
use Rattle.history.specs.Share as share
use Rattle.history.specs.Verdict.{verdict}
use Rattle.history.specs.Share.{Time, once, again, Sender, owner, slave, Reader, station, asker, Share, symbols_of, to_all, which_of, zz_in, pb_in, sb_in, for_it, reads_on, ends, fails, if_more, handed, read_so_far, read_ended, own_sent}
use Rattle.history.specs.Admission.{some}
use Rattle.history.specs.Observer.{report_of, Report, silence, owns, says_in, tells_in, tells_out, tells_nak, tells_read, tells_handed, to_owner}
use Rattle.history.specs.Observer as observer
use Rattle.history.proofs.Headed.{whole_headed, answer_head}
use Rattle.history.proofs.Matches.{attempt, sent_part, read_part, Loaded, Named, HeadOf, Holds, Matches, MatchesIn, Comes}
use Rattle.history.proofs.Matches as matches
use Rattle.history.proofs.Verdicts.{verdict_next}
use Rattle.history.proofs.Steps.{out, rereads, next_read, next, answer_sent_steps}
use Rattle.history.proofs.Steps as steps

-- ---- tests

by_test : (r : Bool) {u v : Share} {d e : Report} {s t : Turn} → (r ≡ true → Comes u d s) → (r ≡ false → Comes v e t)
    → Comes (cond r u v) (cond r d e) (cond r s t)
by_test true f g = f refl
by_test false f g = g refl

-- ZZ is FE
pub to_all_lem : (zz : ℕ) → for_all zz ≡ to_all zz
unfolding for_all address.role_of
to_all_lem zz = by_tests (is_master zz) (eqb zz 0xFE) refl refl
  where
    neither : (r : Bool) → is_broadcast (cond r Never Slave) ≡ false
    neither true = refl
    neither false = refl

    by_tests : (r e : Bool) → is_master zz ≡ r → eqb zz 0xFE ≡ e
        → is_broadcast (cond r Master (cond e Broadcast (cond (eqb zz 0xAA || eqb zz 0xA9) Never Slave))) ≡ e
    by_tests true true p q = absurd ((master_no_other_use zz p).2 (eqb-true zz 0xFE q))
    by_tests true false p q = refl
    by_tests false true p q = refl
    by_tests false false p q = neither (eqb zz 0xAA || eqb zz 0xA9)

going : (x : Station) (q : Phase) (d : Told) {u : Share} {r : Report} → Matches x.address x.master x.out x.part q u → report_of d ≡ r
    → Comes u r (goes x q d)
unfolding goes
going x q d m e = record { matches = m; told = e }

leaving : (x : Station) (d : Told) {r : Report} → report_of d ≡ r → Comes share.over r (record { station = left x; told = d })
unfolding left
leaving x d e = record { matches = matches.is_over; told = e }

-- ---- who sends a part

module _ (x : Station) (s : Sender) (n : Time) (w : Loaded s x.out x.part) where
  disturbed_comes : Comes share.over (observer.disturbed s) (sender_fails (sent_part s) Disturbed x)
  disturbed_comes = by s
    where
      by : (s : Sender) → Comes share.over (observer.disturbed s) (sender_fails (sent_part s) Disturbed x)
      by (owner t) = leaving x (FailedFree Disturbed) refl
      by (slave xs) = going x Silent (Failed Disturbed) matches.is_over refl

  sent_whole_lem : Comes (out s n []) (tells_out s []) (sent_whole x (sent_part s) (attempt n))
  unfolding sent_whole
  sent_whole_lem = by s w
    where
      by : (s : Sender) → Loaded s x.out x.part → Comes (out s n []) (tells_out s []) (sent_whole x (sent_part s) (attempt n))
      by (owner t) w =
          let e : for_all x.part.zz ≡ to_all t.zz = ap (λ (p : Telegram). for_all p.zz) w.knows ∙ to_all_lem t.zz in
          rw e
          (by_test (to_all t.zz) (λ _. going x Releasing Taken matches.is_releases refl)
          (λ _. going x (Awaiting MasterPart (attempt n)) Silence (matches.is_awaits {s = owner t} {n = n} w) refl))
      by (slave xs) w = going x (Awaiting AnswerPart (attempt n)) Silence (matches.is_awaits {s = slave xs} {n = n} w) refl

  -- its own symbol was heard
  sent_on : (xs : List ℕ) (y : ℕ) (ys : List ℕ) → symbols_of s ≡ xs ++ (y ∷ ys)
      → Comes (share.sent s n ys (out s n) []) (tells_out s ys) (sent x (length xs) (sent_part s) (attempt n))
  sent_on xs y [] f = rw (sent_last x (symbols_of s) xs y [] f w.out_is w.fits refl (sent_part s) (attempt n)) sent_whole_lem
  sent_on xs y (z ∷ zs) f =
      rw (sent_more x (symbols_of s) xs y (z ∷ zs) f w.out_is w.fits (omega arith) (sent_part s) (attempt n))
      (going x (Sending (length xs + 1) (sent_part s) (attempt n)) Silence
      (matches.is_sends {s = s} {n = n} (length xs + 1) (xs ++ (y ∷ [])) (f ∙ sym (append_assoc xs (y ∷ []) (z ∷ zs))) (length-append xs (y ∷ [])) w) refl)

  own_comes : (b : ℕ) (xs : List ℕ) (y : ℕ) (ys : List ℕ) → symbols_of s ≡ xs ++ (y ∷ ys)
      → Comes (cond (eqb y b) (share.sent s n ys (out s n) []) share.over) (cond (eqb y b) (tells_out s ys) (observer.disturbed s))
      (hear_own x b (length xs) (sent_part s) (attempt n))
  unfolding hear_own
  own_comes b xs y ys f =
      rw (due_is x (symbols_of s) xs y ys f w.out_is w.fits) (by_test (eqb y b) (λ _. sent_on xs y ys f) (λ _. disturbed_comes))

  -- it was heard in the last slot: the acknowledgement
  again_comes : Comes (share.sent s again (symbols_of s) (out s again) []) silence (goes x (Sending 0 (sent_part s) (attempt again)) Silence)
  again_comes =
      rw w.begins (going x (Sending 0 (sent_part s) (attempt again)) Silence
      (matches.is_sends {s = s} {n = again} 0 [] w.begins refl w) refl)

  failed_comes : {f : Failure} → SendsAa f → Comes (ends s []) (observer.failed (number_of f) (pair_of f)) (sender_fails (sent_part s) f x)
  failed_comes {f} a = by s
    where
      by : (s : Sender) → Comes (ends s []) (observer.failed (number_of f) (pair_of f)) (sender_fails (sent_part s) f x)
      by (owner t) = rw (owner_sends_aa x a) (going x Releasing (Failed f) matches.is_releases refl)
      by (slave xs) = going x Silent (Failed f) matches.is_over refl

  nak_comes : Comes (steps.on_nak s n []) (tells_nak n) (nak_heard (attempt n) x (sent_part s))
  nak_comes = by s n again_comes (failed_comes after_3)
    where
      by : (s : Sender) (n : Time) → Comes (share.sent s again (symbols_of s) (out s again) []) silence (goes x (Sending 0 (sent_part s) (attempt again)) Silence)
          → Comes (ends s []) (observer.failed 3 none) (sender_fails (sent_part s) TwiceNak x)
          → Comes (steps.on_nak s n []) (tells_nak n) (nak_heard (attempt n) x (sent_part s))
      by (owner t) once e f = e
      by (owner t) again e f = f
      by (slave xs) once e f = e
      by (slave xs) again e f = f

  taken_comes : Sixteen x.part.load → Comes (steps.taken s []) observer.taken (taken x (sent_part s))
  unfolding taken answered
  taken_comes full = by s w
    where
      by : (s : Sender) → Loaded s x.out x.part → Comes (steps.taken s []) observer.taken (taken x (sent_part s))
      by (slave xs) w = going x Silent Taken matches.is_over refl
      by (owner t) w =
          let e : is_master x.part.zz ≡ is_master t.zz = ap (λ (p : Telegram). is_master p.zz) w.knows in
          rw e (by_master (is_master t.zz))
        where
          by_master : (r : Bool) → Comes (cond r share.releases (share.reads (asker t) once [])) observer.taken
              (cond (cond r false true) (goes x (Reading answer_start AnswerPart (attempt once)) Taken) (goes x Releasing Taken))
          by_master true = going x Releasing Taken matches.is_releases refl
          by_master false =
              going x (Reading answer_start AnswerPart (attempt once)) Taken
              (matches.is_reads {r = asker t} {n = once} answer_start x.part full (reached_none answer_start x.part) refl (ap (λ (p : Telegram). p.zz) w.knows)) refl

  reply_comes : (b : ℕ) → Sixteen x.part.load
      → Comes (cond (eqb b 0x00) (steps.taken s []) (cond (eqb b 0xFF) (steps.on_nak s n []) (ends s [])))
      (cond (eqb b 0x00) observer.taken (cond (eqb b 0xFF) (tells_nak n) (observer.failed 2 none)))
      (hear_reply x b (sent_part s) (attempt n))
  unfolding hear_reply
  reply_comes b full =
      by_test (eqb b 0x00) (λ _. taken_comes full) (λ _. by_test (eqb b 0xFF) (λ _. nak_comes) (λ _. failed_comes after_2))

-- ---- who reads a part

-- who comes to nothing: an owner is told failed and sends AA, any other station is silent
unread_comes : (x : Station) (r : Reader) {f : Failure} → SendsAa f → Comes (fails r []) (to_owner r (observer.failed (number_of f) (pair_of f))) (reader_fails (read_part r) f x)
unread_comes x (station a m) v = going x Silent Silence matches.is_over refl
unread_comes x (asker t) {f} v = rw (owner_sends_aa x v) (going x Releasing (Failed f) matches.is_releases refl)

module _ (x : Station) (r : Reader) (n : Time) (named : Named r x.address x.master x.part) (full : Sixteen x.part.load) where
  reread_comes : Comes (rereads r n []) (to_owner r (tells_nak n)) (read_again (attempt n) x (read_part r))
  reread_comes = by r n named (unread_comes x r after_3)
    where
      by : (r : Reader) (n : Time) → Named r x.address x.master x.part → Comes (fails r []) (to_owner r (observer.failed 3 none)) (reader_fails (read_part r) TwiceNak x)
          → Comes (rereads r n []) (to_owner r (tells_nak n)) (read_again (attempt n) x (read_part r))
      by (station a m) once k e =
          going x (Reading master_start MasterPart (attempt again)) Silence
          (matches.is_reads {r = station a m} {n = again} master_start x.part full (reached_none master_start x.part) refl k) refl
      by (asker t) once k e =
          going x (Reading answer_start AnswerPart (attempt again)) Silence
          (matches.is_reads {r = asker t} {n = again} answer_start x.part full (reached_none answer_start x.part) refl k) refl
      by (station a m) again k e = e
      by (asker t) again k e = e

  handed_comes : (xs : List ℕ) (matched : Bool) → Holds r xs matched x.part
      → Comes (handed r xs matched []) (tells_handed r matched) (judged_taken x (read_part r) matched)
  unfolding judged_taken handed_out answered
  handed_comes xs matched h = by r matched h.head (unread_comes x r after_2)
    where
      by : (r : Reader) (matched : Bool) → HeadOf r xs x.part → Comes (fails r []) (to_owner r (observer.failed 2 none)) (reader_fails (read_part r) WrongAck x)
          → Comes (handed r xs matched []) (tells_handed r matched) (judged_taken x (read_part r) matched)
      by (asker t) true h e = going x Releasing Answered matches.is_releases refl
      by (asker t) false h e = e
      by (station a m) false h e = e
      by (station a m) true h e =
          rw h.zz (by_master (is_master x.part.zz))
        where
          by_master : (q : Bool) → Comes (cond q share.over (share.owes (pb_in xs) (sb_in xs))) observer.given (cond (cond q false true) (goes x Owing Given) (goes x Silent Given))
          by_master true = going x Silent Given matches.is_over refl
          by_master false = going x Owing Given (matches.is_owes (sym h.pb) (sym h.sb)) refl

  judge_comes : (b : ℕ) (xs : List ℕ) (matched : Bool) → Holds r xs matched x.part
      → Comes (cond (eqb b 0x00) (handed r xs matched []) (cond (eqb b 0xFF) (rereads r n []) (fails r [])))
      (cond (eqb b 0x00) (tells_handed r matched) (cond (eqb b 0xFF) (to_owner r (tells_nak n)) (to_owner r (observer.failed 2 none))))
      (judges x b (read_part r) (attempt n) matched)
  unfolding judges
  judge_comes b xs matched h =
      by_test (eqb b 0x00) (λ _. handed_comes xs matched h) (λ _. by_test (eqb b 0xFF) (λ _. reread_comes) (λ _. unread_comes x r after_2))

-- ZZ has been read, and is for this station or not
module _ (x : Station) (n : Time) (xs : List ℕ) (c : Cursor) (p₀ : Telegram) (full : Sixteen p₀.load) (reached : Reached master_start p₀ xs c x.part) where
  abbrev onward : Phase
  onward = Reading c MasterPart (attempt n)

  on_comes : reads_on (station x.address x.master) xs ≡ true
      → Comes (share.reads (station x.address x.master) n xs) silence (goes x onward Silence)
  on_comes e =
      going x onward Silence (matches.is_reads {r = station x.address x.master} {n = n} c p₀ full reached e (refl, refl)) refl

  so_far_comes : reads_on (station x.address x.master) xs ≡ true
      → Comes (read_so_far (station x.address x.master) n xs) silence (goes x onward Silence)
  so_far_comes e = rw e (on_comes e)

  addressed_comes : (q : ℕ) → xs ≡ q ∷ x.part.zz ∷ []
      → Comes (read_so_far (station x.address x.master) n xs) silence (addressed x onward)
  unfolding addressed is_own
  addressed_comes q e =
      let z = x.part.zz in
      let i = eqb z x.address in
      let j = cond x.master (eqb z (slave_of x.address)) false in
      rw (to_all_lem z) (by i j (to_all z) (ap (for_it x.address x.master) e))
    where
      by : (i j k : Bool) → reads_on (station x.address x.master) xs ≡ cond i true (cond j true k)
          → Comes (read_so_far (station x.address x.master) n xs) silence
          (cond (cond i true j) (goes x onward Silence) (cond k (goes x onward Silence) (goes x Silent Silence)))
      by true j k w = so_far_comes w
      by false true k w = so_far_comes w
      by false false true w = so_far_comes w
      by false false false w = rw w (going x Silent Silence matches.is_over refl)

-- a symbol more does not change whether it is addressed, once ZZ is read
keen_more : (r : Reader) (xs : List ℕ) (b : ℕ) → reads_on r xs ≡ true → 3 ≤ length (xs ++ (b ∷ [])) → reads_on r (xs ++ (b ∷ [])) ≡ true
keen_more (station a m) [] b e l = absurd (omega arith)
keen_more (station a m) (q ∷ []) b e l = absurd (omega arith)
keen_more (station a m) (q ∷ z ∷ xs) b e l = e
keen_more (asker t) xs b e l = refl

-- the part goes on
module _ (x : Station) (n : Time) (xs : List ℕ) (b : ℕ) (c : Cursor) (p₀ : Telegram) (full : Sixteen p₀.load)
    (reached : Reached master_start p₀ (xs ++ (b ∷ [])) c x.part) (keen : reads_on (station x.address x.master) xs ≡ true) where
  far : (y z w : ℕ) (ys : List ℕ) → xs ++ (b ∷ []) ≡ y ∷ z ∷ w ∷ ys
      → Comes (read_so_far (station x.address x.master) n (xs ++ (b ∷ []))) silence (goes x (Reading c MasterPart (attempt n)) Silence)
  far y z w ys e =
      so_far_comes x n (xs ++ (b ∷ [])) c p₀ full reached
      (keen_more (station x.address x.master) xs b keen (omega (arith, ap length e)))

  at_place : {reg nn : ℕ} {l : Place} {o : Bool} → Upto reg nn x.part (xs ++ (b ∷ [])) MasterPart l o
      → Comes (read_so_far (station x.address x.master) n (xs ++ (b ∷ []))) silence (read_on_at l x (Reading c MasterPart (attempt n)))
  at_place (at_qq e _) = absurd (omega (arith, length-append xs (b ∷ []), ap length e))
  at_place (at_zz _ e _) = so_far_comes x n (xs ++ (b ∷ [])) c p₀ full reached (ap (for_it x.address x.master) e)
  at_place (at_pb _ _ e _) = addressed_comes x n (xs ++ (b ∷ [])) c p₀ full reached x.part.qq e
  at_place (at_sb _ _ _ e _) = far _ _ _ _ e
  at_place (at_nn _ e _) = far _ _ _ _ e
  at_place (at_data _ _ e _) = far _ _ _ _ e
  at_place (at_crc _ e _) = far _ _ _ _ e

  part_on : SoFar MasterPart c x.part (xs ++ (b ∷ []))
      → Comes (read_so_far (station x.address x.master) n (xs ++ (b ∷ []))) silence (read_on x c MasterPart (attempt n))
  unfolding read_on
  part_on h = at_place h.upto

-- an answer goes on: it has no ZZ
module _ (x : Station) (t : Telegram) (n : Time) (xs : List ℕ) (c : Cursor) (p₀ : Telegram) (full : Sixteen p₀.load)
    (reached : Reached answer_start p₀ xs c x.part) (named : x.part.zz ≡ t.zz) where
  answer_stays : Comes (share.reads (asker t) n xs) silence (goes x (Reading c AnswerPart (attempt n)) Silence)
  answer_stays = going x (Reading c AnswerPart (attempt n)) Silence (matches.is_reads {r = asker t} {n = n} c p₀ full reached refl named) refl

  answer_place : {reg nn : ℕ} {l : Place} {o : Bool} → Upto reg nn x.part xs AnswerPart l o
      → Comes (share.reads (asker t) n xs) silence (read_on_at l x (Reading c AnswerPart (attempt n)))
  answer_place (at_nn _ _ _) = answer_stays
  answer_place (at_data _ _ _ _) = answer_stays
  answer_place (at_crc _ _ _) = answer_stays

  answer_on : SoFar AnswerPart c x.part xs → Comes (share.reads (asker t) n xs) silence (read_on x c AnswerPart (attempt n))
  unfolding read_on
  answer_on h = answer_place h.upto

-- ---- one symbol more of a part that is read

-- it comes to nothing
vain_comes : (x : Station) (r : Reader) (ys : List ℕ) {f : Failure} → SendsAa f
    → Comes (cond (reads_on r ys) (fails r []) share.over) (to_owner r (observer.failed (number_of f) (pair_of f))) (reader_fails (read_part r) f x)
vain_comes x (asker t) ys v = unread_comes x (asker t) v
vain_comes x (station a m) ys v = by (for_it a m ys)
  where
    by : (q : Bool) → Comes (cond q share.over share.over) silence (goes x Silent Silence)
    by true = unread_comes x (station a m) v
    by false = unread_comes x (station a m) v

-- a whole part
module _ (x : Station) (n : Time) (ys : List ℕ) (matched : Bool) where
  station_whole : reads_on (station x.address x.master) ys ≡ true → Holds (station x.address x.master) ys matched x.part
      → Comes (cond (reads_on (station x.address x.master) ys) (cond (to_all (zz_in ys)) share.over (share.judges (station x.address x.master) n ys matched true)) share.over)
      (cond (to_all (zz_in ys)) (cond matched observer.given silence) silence) (whole x MasterPart (attempt n) matched)
  unfolding whole
  station_whole e h =
      rw (e, to_all_lem x.part.zz, h.head.zz)
      (by_test (to_all x.part.zz) (λ _. at_once matched)
      (λ _. going x (Judging MasterPart (attempt n) matched false) Silence (matches.is_judges {n = n} {just = true} h (refl, refl)) refl))
    where
      at_once : (q : Bool) → Comes share.over (cond q observer.given silence) (cond q (goes x Silent Given) (goes x Silent Silence))
      at_once true = going x Silent Given matches.is_over refl
      at_once false = going x Silent Silence matches.is_over refl

  answer_whole : (t : Telegram) → x.part.zz ≡ t.zz → Holds (asker t) ys matched x.part
      → Comes (share.judges (asker t) n ys matched true) silence (whole x AnswerPart (attempt n) matched)
  unfolding whole
  answer_whole t k h = going x (Judging AnswerPart (attempt n) matched false) Silence (matches.is_judges {n = n} {just = true} h k) refl

-- the form of a whole part whose CRC matched
matched_form : {w : Part} {p : Telegram} {xs : List ℕ} {right : Bool} → IsWhole w p xs right → right ≡ true → xs ≡ form_of w p
matched_form {w} {p} {xs} h e = whole_form (subst (λ (r : Bool). IsWhole w p xs r) e h)

module _ (x : Station) (n : Time) (xs : List ℕ) (b : ℕ) (clear : b ≡ 0xAA → ⊥) (c : Cursor) (p₀ : Telegram) (full : Sixteen p₀.load) where
  abbrev ys : List ℕ
  ys = xs ++ (b ∷ [])

  abbrev read : Station
  read = with_part x (read_one c x.part b).part

  -- by a station
  module _ (reached : Reached master_start p₀ xs c x.part) (keen : reads_on (station x.address x.master) xs ≡ true) where
    abbrev self : Reader
    self = station x.address x.master

    station_reads : (o : Outcome) → (read_one c x.part b).outcome ≡ o
        → Comes (if_more o (read_so_far self n ys) (read_ended self n (rereads self n) o ys [])) (tells_read o self ys)
        (reads_as o read (read_one c x.part b).cursor MasterPart (attempt n))
    station_reads More e =
        part_on read n xs b (read_one c x.part b).cursor p₀ full (reached_more master_start c p₀ x.part xs b reached e) keen
        (step_more (reached_so_far MasterPart c p₀ x.part xs full reached) b e)
    station_reads Cut e = absurd (clear ((cut_on_syn c x.part b).0 e))
    station_reads NoMaster e = vain_comes read self ys after_5_long
    station_reads Unusable e = vain_comes read self ys after_5_long
    station_reads (BrokenPair y) e = vain_comes read self ys (after_5 {x = y})
    station_reads TooLong e = vain_comes read self ys after_5_long
    station_reads (Whole matched) e =
        let h = step_whole (reached_so_far MasterPart c p₀ x.part xs full reached) b e in
        station_whole read n ys matched (keen_more self xs b keen (omega (arith, (whole_headed h).long)))
        (record { head = whole_headed h; form = matched_form h })

    pub station_comes : Comes (next_read self n ys) (tells_read (verdict MasterPart ys) self ys) (reads x b c MasterPart (attempt n))
    unfolding reads
    station_comes =
        rw (verdict_next b (reached_so_far MasterPart c p₀ x.part xs full reached) clear) (station_reads (read_one c x.part b).outcome refl)

  -- by the owner
  module _ (t : Telegram) (reached : Reached answer_start p₀ xs c x.part) (named : x.part.zz ≡ t.zz) where
    abbrev so_far : SoFar AnswerPart c x.part xs
    so_far = reached_so_far AnswerPart c p₀ x.part xs full reached

    same_zz : (read_one c x.part b).part.zz ≡ t.zz
    same_zz = ap zz_in (answer_head b so_far) ∙ named

    asker_reads : (o : Outcome) → (read_one c x.part b).outcome ≡ o
        → Comes (if_more o (read_so_far (asker t) n ys) (read_ended (asker t) n (rereads (asker t) n) o ys [])) (tells_read o (asker t) ys)
        (reads_as o read (read_one c x.part b).cursor AnswerPart (attempt n))
    asker_reads More e =
        answer_on read t n ys (read_one c x.part b).cursor p₀ full (reached_more answer_start c p₀ x.part xs b reached e) same_zz
        (step_more so_far b e)
    asker_reads Cut e = absurd (clear ((cut_on_syn c x.part b).0 e))
    asker_reads NoMaster e = vain_comes read (asker t) ys after_5_long
    asker_reads Unusable e = vain_comes read (asker t) ys after_5_long
    asker_reads (BrokenPair y) e = vain_comes read (asker t) ys (after_5 {x = y})
    asker_reads TooLong e = vain_comes read (asker t) ys after_5_long
    asker_reads (Whole matched) e =
        answer_whole read n ys matched t same_zz (record { head = tt; form = matched_form (step_whole so_far b e) })

    pub asker_comes : Comes (next_read (asker t) n ys) (tells_read (verdict AnswerPart ys) (asker t) ys) (reads x b c AnswerPart (attempt n))
    unfolding reads
    asker_comes =
        rw (verdict_next b so_far clear) (asker_reads (read_one c x.part b).outcome refl)

-- ---- a slot without AA, of a station that has no answer to make ready and does not win the wire

abbrev pub moment : List Telegram → Answers → Sound → Moment
moment ws book h = record { waits = ws; answers = book; heard = h }

module _ (s : Station) (array : Sixteen s.part.load) (held : s.phase ≡ Owing → ⊥) (ws : List Telegram) (book : Answers) where
  pub quiet_comes : {u : Share} → MatchesIn s u → Comes (next u (moment ws book Quiet)) (tells_in u book Quiet) (hears s Quiet)
  unfolding released
  quiet_comes {u} m = go s.phase refl m
    where
      go : (p : Phase) {u : Share} → s.phase ≡ p → Matches s.address s.master s.out s.part p u
          → Comes (next u (moment ws book Quiet)) (tells_in u book Quiet) (hears s Quiet)
      go p e matches.is_over = rw (quiet_at s p e) (going (over_now s) Silent Silence matches.is_over refl)
      go p e matches.is_releases = rw (quiet_at s p e) (leaving (over_now s) Free refl)
      go p e (matches.is_sends {s = d} {n = n} k xs f l w) = rw (quiet_at s p e) (disturbed_comes (over_now s) d n w)
      go p e (matches.is_awaits {s = d} {n = n} w) = rw (quiet_at s p e) (going (over_now s) p Silence (matches.is_awaits {s = d} {n = n} w) refl)
      go p e (matches.is_reads {r = r} {n = n} c q f w k i) =
          rw (quiet_at s p e) (going (over_now s) p Silence (matches.is_reads {r = r} {n = n} c q f w k i) refl)
      go p e (matches.is_judges {r = r} {n = n} {matched = y} h i) =
          rw (quiet_at s p e) (going (over_now s) (Judging (read_part r) (attempt n) y true) Silence (matches.is_judges {r = r} {n = n} {matched = y} {just = false} h i) refl)
      go p e (matches.is_owes _ _) = absurd (held e)

  module _ (b : ℕ) (other : kind_of b ≡ Syn → ⊥) where
    not_syn : eqb b 0xAA ≡ false
    not_syn = ne_eqb b 0xAA (λ e. other ((kind_syn b).1 e))

    reading_comes : (x : Station) (r : Reader) (n : Time) (xs : List ℕ) (c : Cursor) (p₀ : Telegram) → Sixteen p₀.load
        → Reached (start_of (which_of r)) p₀ xs c x.part → reads_on r xs ≡ true → Named r x.address x.master x.part
        → Comes (next_read r n (xs ++ (b ∷ []))) (tells_read (verdict (which_of r) (xs ++ (b ∷ []))) r (xs ++ (b ∷ []))) (reads x b c (read_part r) (attempt n))
    reading_comes x (station a m) n xs c p₀ f w k i =
        subst₂ (λ (a : ℕ) (m : Bool). reads_on (station a m) xs ≡ true
        → Comes (next_read (station a m) n (xs ++ (b ∷ []))) (tells_read (verdict MasterPart (xs ++ (b ∷ []))) (station a m) (xs ++ (b ∷ []))) (reads x b c MasterPart (attempt n)))
        i.0 i.1 (λ k. station_comes x n xs b (λ e. other ((kind_syn b).1 e)) c p₀ f w k) k
    reading_comes x (asker t) n xs c p₀ f w k i = asker_comes x n xs b (λ e. other ((kind_syn b).1 e)) c p₀ f t w i

    -- a station that reads, and did not send its QQ or heard another symbol
    pub bid_or_not : (c : Cursor) (r : Reader) (n : Time) (xs : List ℕ) (p₀ : Telegram) → Sixteen p₀.load
        → Reached (start_of (which_of r)) p₀ xs c s.part → reads_on r xs ≡ true → Named r s.address s.master s.part
        → (bids s ≡ true → b ≡ s.address → ⊥)
        → Comes (next_read r n (xs ++ (b ∷ []))) (tells_read (verdict (which_of r) (xs ++ (b ∷ []))) r (xs ++ (b ∷ []))) (hear_reading (bids s) (noted s) b c (read_part r) (attempt n))
    unfolding hear_reading hear_bid noted withdrawn
    bid_or_not c r n xs p₀ f w k i lost = by_bid (bids s) refl
      where
        by_address : (q : Bool) → eqb b s.address ≡ q → bids s ≡ true
            → Comes (next_read r n (xs ++ (b ∷ []))) (tells_read (verdict (which_of r) (xs ++ (b ∷ []))) r (xs ++ (b ∷ [])))
            (cond q (owned (noted s)) (reads (withdrawn (noted s) b) b c (read_part r) (attempt n)))
        by_address true e g = absurd (lost g (eqb-true b s.address e))
        by_address false e g = reading_comes (withdrawn (noted s) b) r n xs c p₀ f w k i

        by_bid : (q : Bool) → bids s ≡ q
            → Comes (next_read r n (xs ++ (b ∷ []))) (tells_read (verdict (which_of r) (xs ++ (b ∷ []))) r (xs ++ (b ∷ [])))
            (cond q (hear_bid (noted s) b c (read_part r) (attempt n)) (reads (noted s) b c (read_part r) (attempt n)))
        by_bid true g = by_address (eqb b s.address) refl g
        by_bid false g = reading_comes (noted s) r n xs c p₀ f w k i

    pub symbol_comes : {u : Share} → MatchesIn s u → (bids s ≡ true → b ≡ s.address → ⊥)
        → Comes (next u (moment ws book (Symbol b))) (tells_in u book (Symbol b)) (hears s (Symbol b))
    unfolding released noted
    symbol_comes {u} m lost = go s.phase refl m
      where
        go : (p : Phase) {u : Share} → s.phase ≡ p → Matches s.address s.master s.out s.part p u
            → Comes (next u (moment ws book (Symbol b))) (tells_in u book (Symbol b)) (hears s (Symbol b))
        go p e matches.is_over = rw (symbol_at s b other p e) (going (noted s) Silent Silence matches.is_over refl)
        go p e matches.is_releases = rw (symbol_at s b other p e) (leaving (noted s) Free refl)
        go p e (matches.is_sends {s = d} {n = n} {y = y} {ys = ys} k xs f l w) =
            rw (symbol_at s b other p e, ← l) (own_comes (noted s) d n w b xs y ys f)
        go p e (matches.is_awaits {s = d} {n = n} w) =
            rw (symbol_at s b other p e, not_syn) (reply_comes (noted s) d n w b array)
        go p e (matches.is_reads {r = r} {n = n} {xs = xs} c q f w k i) =
            rw (symbol_at s b other p e, not_syn) (bid_or_not c r n xs q f w k i lost)
        go p e (matches.is_judges {r = r} {n = n} {xs = xs} {matched = y} h i) =
            rw (symbol_at s b other p e, not_syn) (judge_comes (noted s) r n i array b xs y h)
        go p e (matches.is_owes _ _) = absurd (held e)

-- ---- a station that wins the wire

form_two : (t : Telegram) → (z : ℕ) × (zs : List ℕ) × (telegram_form t ≡ t.qq ∷ z ∷ zs)
unfolding telegram_form form covered
form_two t = (_, _, refl)

own_first : (t : Telegram) (ws : List Telegram) (book : Answers) → own_sent t (moment ws book (Symbol t.qq) ∷ []) ≡ share.sends (owner t) once (form_two t).0 (form_two t).1
own_first t ws book = rw ((form_two t).2, eq-eqb t.qq t.qq refl)

module _ (s : Station) (ws : List Telegram) (book : Answers) (b : ℕ) (other : kind_of b ≡ Syn → ⊥) (possible : Possible s) where
  won_turn : bids s ≡ true → b ≡ s.address → hears s (Symbol b) ≡ owned (noted s)
  unfolding hear_reading hear_bid noted
  won_turn e i =
      rw (symbol_at s b other (Reading master_start MasterPart (attempt once)) (bids_at_start s possible e), e, eq-eqb b s.address i)

  owned_comes : {a : ℕ} {m : Bool} → Outgoing a m (oldest_of s.outbox)
      → Comes (share.sends (owner (oldest_of s.outbox)) once (form_two (oldest_of s.outbox)).0 (form_two (oldest_of s.outbox)).1) owns (owned (noted s))
  unfolding noted owned
  owned_comes g =
      let t = oldest_of s.outbox in
      let w : Loaded (owner t) (holding (telegram_form t)) t =
      record { out_is = refl; fits = telegram_fits t g.full; clear = telegram_no_syn t g.message g.full; first = _; rest = _; begins = (form_two t).2; knows = refl } in
      record { matches = matches.is_sends {s = owner t} {n = once} 1 (t.qq ∷ []) (form_two t).2 refl w; told = refl }

  pub won_comes : bids s ≡ true → b ≡ s.address → {m : Bool} → Outgoing s.address m (oldest_of s.outbox)
      → Comes (own_sent (oldest_of s.outbox) (moment ws book (Symbol b) ∷ [])) owns (hears s (Symbol b))
  won_comes e i g =
      let t = oldest_of s.outbox in
      let o : t.qq ≡ b = g.source ∙ sym i in
      rw (won_turn e i, ← o, own_first t ws book) (owned_comes g)

-- ---- AA

-- a symbol of a part is no AA
pub sent_clear : (xs ys : List ℕ) {y : ℕ} {fs : List ℕ} → NoSyn fs → fs ≡ xs ++ (y ∷ ys) → y ≡ 0xAA → ⊥
sent_clear xs ys {y} {fs} n f e =
    no_syn_at n (length xs) (omega (arith, ap length f, length-append xs (y ∷ ys))) (ap (λ (l : List ℕ). get_or l (length xs) 0) f ∙ get_or-append_seam xs y ys 0 ∙ e)

module _ (s : Station) (array : Sixteen s.part.load) (held : s.phase ≡ Owing → ⊥) (book : Answers) where
  pub syn_told_in : {u : Share} → MatchesIn s u → report_of (hears s (Symbol 0xAA)).told ≡ tells_in u book (Symbol 0xAA)
  syn_told_in m = ap report_of (syn_told s (aa ((kind_syn 0xAA).1 refl))) ∙ go s.phase refl m
    where
      go : (p : Phase) {u : Share} → s.phase ≡ p → Matches s.address s.master s.out s.part p u
          → report_of (told_by_syn p) ≡ tells_in u book (Symbol 0xAA)
      go p e matches.is_over = refl
      go p e matches.is_releases = refl
      go p e (matches.is_sends {s = d} {n = n} {y = y} {ys = zs} k xs f l w) = rw (ne_eqb y 0xAA (sent_clear xs zs w.clear f)) (by d)
        where
          by : (d : Sender) → report_of (told_by_syn (Sending k (sent_part d) (attempt n))) ≡ observer.disturbed d
          by (owner t) = refl
          by (slave xs) = refl
      go p e (matches.is_awaits {s = d} {n = n} w) = by d
        where
          by : (d : Sender) → report_of (told_by_syn (Awaiting (sent_part d) (attempt n))) ≡ observer.cut_short d
          by (owner t) = refl
          by (slave xs) = refl
      go p e (matches.is_reads {r = r} {n = n} c q f w k i) = by r
        where
          by : (r : Reader) → report_of (told_by_syn (Reading c (read_part r) (attempt n))) ≡ to_owner r (observer.failed_free 4 none)
          by (station a m) = refl
          by (asker t) = refl
      go p e (matches.is_judges {r = r} {n = n} {matched = y} {just = j} h i) = by r
        where
          by : (r : Reader) → report_of (told_by_syn (Judging (read_part r) (attempt n) y (not j))) ≡ to_owner r (observer.failed_free 4 none)
          by (station a m) = refl
          by (asker t) = refl
      go p e (matches.is_owes _ _) = absurd (held e)

  -- after it every station reads from the start
  pub syn_matches : MatchesIn (hears s (Symbol 0xAA)).station (share.reads (station s.address s.master) once [])
  syn_matches =
      let w = after_syn s (aa ((kind_syn 0xAA).1 refl)) in
      rw (w.phase, w.part, w.address, w.master)
      (matches.is_reads {r = station s.address s.master} {n = once} master_start s.part array (reached_none master_start s.part) refl (refl, refl))

-- ---- as a slot begins

-- a slave that owes an answer takes it from its entries
abbrev pub begun : Share → Answers → Share
begun share.over book = share.over
begun share.releases book = share.releases
begun (share.sends d n y zs) book = share.sends d n y zs
begun (share.awaits d n) book = share.awaits d n
begun (share.reads r n xs) book = share.reads r n xs
begun (share.judges r n xs matched just) book = share.judges r n xs matched just
begun (share.owes pb sb) book = share.answer_sent (answer_form (book pb sb)) []

answer_begins : (l : Load) → (y : ℕ) × (zs : List ℕ) × (answer_form l ≡ y ∷ zs)
unfolding answer_form form covered
answer_begins l = (_, _, refl)

module _ (s : Station) (entries : (pb sb : ℕ) → Sixteen (answer_for s.replies pb sb)) where
  pub ready_matches : {u : Share} → MatchesIn s u → MatchesIn (ready s) (begun u (answer_for s.replies))
  unfolding ready answering
  ready_matches m = go s.phase refl m
    where
      go : (p : Phase) {u : Share} → s.phase ≡ p → Matches s.address s.master s.out s.part p u
          → MatchesIn (ready_at p s) (begun u (answer_for s.replies))
      go p e matches.is_over = rw e matches.is_over
      go p e matches.is_releases = rw e matches.is_releases
      go p e (matches.is_sends {s = d} {n = n} k xs f l w) = rw e (matches.is_sends {s = d} {n = n} k xs f l w)
      go p e (matches.is_awaits {s = d} {n = n} w) = rw e (matches.is_awaits {s = d} {n = n} w)
      go p e (matches.is_reads {r = r} {n = n} c q f w k i) = rw e (matches.is_reads {r = r} {n = n} c q f w k i)
      go p e (matches.is_judges {r = r} {n = n} {just = j} h i) = rw e (matches.is_judges {r = r} {n = n} {just = j} h i)
      go p e (matches.is_owes {pb = pb} {sb = sb} f g) =
          let l = answer_for s.replies pb sb in
          let q = answer_begins l in
          let w : Loaded (slave (answer_form l)) (holding (answer_form l)) s.part =
          record { out_is = refl; fits = answer_fits l (entries pb sb); clear = answer_no_syn l (entries pb sb); first = q.0; rest = q.1; begins = q.2; knows = tt } in
          let same : holding (answer_form (answer_for s.replies s.part.pb s.part.sb)) ≡ holding (answer_form l) =
          ap (λ (c : ℕ). holding (answer_form (answer_for s.replies c s.part.sb))) f ∙ ap (λ (c : ℕ). holding (answer_form (answer_for s.replies pb c))) g in
          subst₂ (λ (o : Wire) (u : Share). Matches s.address s.master o s.part (Sending 0 AnswerPart (attempt once)) u) (sym same)
          (sym (answer_first l q.0 q.1 q.2))
          (matches.is_sends {s = slave (answer_form l)} {n = once} 0 [] q.2 refl w)
        where
          answer_first : (l : Load) (y : ℕ) (zs : List ℕ) → answer_form l ≡ y ∷ zs
              → share.answer_sent (answer_form l) [] ≡ share.sends (slave (answer_form l)) once y zs
          answer_first l y zs e = subst (λ (fs : List ℕ). share.sent (slave (answer_form l)) once fs (share.answer_out (answer_form l) once (share.answer_again (answer_form l))) [] ≡ share.sends (slave (answer_form l)) once y zs) (sym e) refl

-- no answer is owed any more
pub ready_held : (s : Station) → (ready s).phase ≡ Owing → ⊥
unfolding ready answering
ready_held s = go s.phase refl
  where
    go : (p : Phase) → s.phase ≡ p → (ready_at p s).phase ≡ Owing → ⊥
    go Silent e f = let z : ◌≡◌ {A = ℕ} 0 1 = cc in omega arith
    go (Reading c p a) e f = let z : ◌≡◌ {A = ℕ} 0 1 = cc in omega arith
    go (Sending k p a) e f = let z : ◌≡◌ {A = ℕ} 0 1 = cc in omega arith
    go (Awaiting p a) e f = let z : ◌≡◌ {A = ℕ} 0 1 = cc in omega arith
    go (Judging p a m k) e f = let z : ◌≡◌ {A = ℕ} 0 1 = cc in omega arith
    go Owing e f = let z : ◌≡◌ {A = ℕ} 0 1 = cc in omega arith
    go Releasing e f = let z : ◌≡◌ {A = ℕ} 0 1 = cc in omega arith

-- the access stays
pub record SameAccess (x s : Station) : Type 0 where
  pub admitted : x.admitted ≡ s.admitted
  pub marked : x.marked ≡ s.marked
  pub since : x.since ≡ s.since
  pub part : x.part ≡ s.part

begins_access : {s x : Station} → Begins s x → SameAccess x s
unfolding answering
begins_access as_it_stood = record { admitted = refl; marked = refl; since = refl; part = refl }
begins_access (answers _) = record { admitted = refl; marked = refl; since = refl; part = refl }

pub ready_access : (s : Station) → SameAccess (ready s) s
ready_access s = begins_access (ready_begins s)

-- ---- what it says

module _ (s : Station) (held : s.phase ≡ Owing → ⊥) (possible : Possible s) (book : Answers) where
  bid_says : bids s ≡ true → says s ≡ Symbol s.address
  unfolding says say_bid bids
  bid_says e = rw (bids_at_start s possible e, e)

  quiet_says : {u : Share} → MatchesIn s u → bids s ≡ false → says s ≡ says_in u book
  unfolding says say_bid acknowledgement due bids
  quiet_says m n = go s.phase refl m
    where
      go : (p : Phase) {u : Share} → s.phase ≡ p → Matches s.address s.master s.out s.part p u → says_at s.phase s ≡ says_in u book
      go p e matches.is_over = rw e
      go p e matches.is_releases = rw e
      go p e (matches.is_sends {s = d} {n = k} {y = y} {ys = zs} i xs f l w) =
          rw (e, ← l) (due_is s (symbols_of d) xs y zs f w.out_is w.fits)
      go p e (matches.is_awaits w) = rw e
      go p e (matches.is_reads c q f w k i) = rw (e, n)
      go p e (matches.is_judges {matched = y} {just = j} h i) = rw e (by j)
        where
          by : (j : Bool) → cond (not j) Quiet (cond y (Symbol 0x00) (Symbol 0xFF)) ≡ cond j (cond y (Symbol 0x00) (Symbol 0xFF)) Quiet
          by true = refl
          by false = refl
      go p e (matches.is_owes _ _) = absurd (held e)

  pub says_in_lem : {u : Share} → MatchesIn s u → says s ≡ cond (bids s) (Symbol s.address) (says_in u book)
  says_in_lem {u} m = go (bids s) refl
    where
      go : (r : Bool) → bids s ≡ r → says s ≡ cond r (Symbol s.address) (says_in u book)
      go true e = bid_says e
      go false e = quiet_says m e

-- as the slot begins, an answer that is owed is as good as begun
pub begun_says : (u : Share) (book : Answers) → says_in (begun u book) book ≡ says_in u book
begun_says share.over book = refl
begun_says share.releases book = refl
begun_says (share.sends d n y zs) book = refl
begun_says (share.awaits d n) book = refl
begun_says (share.reads r n xs) book = refl
begun_says (share.judges r n xs matched just) book = refl
begun_says (share.owes pb sb) book = of (answer_form (book pb sb)) (answer_begins (book pb sb)).2
  where
    of : (fs : List ℕ) {y : ℕ} {zs : List ℕ} → fs ≡ y ∷ zs → says_in (share.answer_sent fs []) book ≡ observer.first_of fs
    of [] e = let z : ◌≡◌ {A = ℕ} 0 1 = cc in absurd (omega arith)
    of (y ∷ zs) e = refl

pub begun_tells : (u : Share) (book : Answers) (h : Sound) → tells_in (begun u book) book h ≡ tells_in u book h
begun_tells share.over book h = refl
begun_tells share.releases book h = refl
begun_tells (share.sends d n y zs) book h = refl
begun_tells (share.awaits d n) book h = refl
begun_tells (share.reads r n xs) book h = refl
begun_tells (share.judges r n xs matched just) book h = refl
begun_tells (share.owes pb sb) book h = of (answer_form (book pb sb)) (answer_begins (book pb sb)).2
  where
    last : (y : ℕ) (zs : List ℕ) (fs : List ℕ) → cond (is_symbol y h) (tells_out (slave fs) zs) (observer.failed 1 none) ≡ cond (is_symbol y h) silence (observer.failed 1 none)
    last y [] fs = refl
    last y (z ∷ zs) fs = refl

    of : (fs : List ℕ) {y : ℕ} {zs : List ℕ} → fs ≡ y ∷ zs → tells_in (share.answer_sent fs []) book h ≡ observer.tells_first fs h
    of [] e = let z : ◌≡◌ {A = ℕ} 0 1 = cc in absurd (omega arith)
    of (y ∷ zs) e = last y zs (y ∷ zs)

pub begun_next : (u : Share) (ws : List Telegram) (book : Answers) (h : Sound) → next (begun u book) (moment ws book h) ≡ next u (moment ws book h)
begun_next share.over ws book h = refl
begun_next share.releases ws book h = refl
begun_next (share.sends d n y zs) ws book h = refl
begun_next (share.awaits d n) ws book h = refl
begun_next (share.reads r n xs) ws book h = refl
begun_next (share.judges r n xs matched just) ws book h = refl
begun_next (share.owes pb sb) ws book h =
    sym (answer_sent_steps (moment ws book h) (answer_form (book pb sb)) []).goes

-- ---- the mark and what was heard since AA, which only the entry into a slot changes

record Keeps (x : Station) (t : Turn) : Type 0 where
  marked : t.station.marked ≡ x.marked
  since : t.station.since ≡ x.since

either : {x : Station} {u v : Turn} (r : Bool) → Keeps x u → Keeps x v → Keeps x (cond r u v)
either true y n = y
either false y n = n

module _ (x : Station) where
  stays : (q : Phase) (d : Told) → Keeps x (goes x q d)
  unfolding goes
  stays q d = record { marked = refl; since = refl }

  leaves : (d : Told) → Keeps x (record { station = left x; told = d })
  unfolding left
  leaves d = record { marked = refl; since = refl }

  owner_keeps : (f : Failure) → Keeps x (owner_fails f x)
  owner_keeps Disturbed = leaves _
  owner_keeps WrongAck = stays _ _
  owner_keeps TwiceNak = stays _ _
  owner_keeps SynHeard = leaves _
  owner_keeps (PairBroken y) = stays _ _
  owner_keeps OverLong = stays _ _

  sender_keeps : (p : Part) (f : Failure) → Keeps x (sender_fails p f x)
  sender_keeps MasterPart f = owner_keeps f
  sender_keeps AnswerPart f = stays _ _

  released_keeps : Keeps x (released x)
  unfolding released
  released_keeps = leaves _

  reader_keeps : (p : Part) (f : Failure) → Keeps x (reader_fails p f x)
  reader_keeps MasterPart f = stays _ _
  reader_keeps AnswerPart f = owner_keeps f

  sent_whole_keeps : (p : Part) (a : Attempt) → Keeps x (sent_whole x p a)
  unfolding sent_whole
  sent_whole_keeps MasterPart a = either (for_all x.part.zz) (stays _ _) (stays _ _)
  sent_whole_keeps AnswerPart a = stays _ _

  sent_keeps : (i : ℕ) (p : Part) (a : Attempt) → Keeps x (sent x i p a)
  unfolding sent
  sent_keeps i p a = either (ltb (i + 1) x.out.len) (stays _ _) (sent_whole_keeps p a)

  own_keeps : (b i : ℕ) (p : Part) (a : Attempt) → Keeps x (hear_own x b i p a)
  unfolding hear_own
  own_keeps b i p a = by (due x i)
    where
      by : (h : Sound) → Keeps x (hear_own_as h x b i p a)
      by Quiet = sender_keeps p Disturbed
      by (Symbol y) = either (eqb y b) (sent_keeps i p a) (sender_keeps p Disturbed)

  taken_keeps : (p : Part) → Keeps x (taken x p)
  unfolding taken
  taken_keeps MasterPart = either (answered x.part.zz) (stays _ _) (stays _ _)
  taken_keeps AnswerPart = stays _ _

  nak_keeps : (p : Part) (a : Attempt) → Keeps x (nak_heard a x p)
  nak_keeps p First = stays _ _
  nak_keeps p Again = sender_keeps p TwiceNak

  reply_keeps : (b : ℕ) (p : Part) (a : Attempt) → Keeps x (hear_reply x b p a)
  unfolding hear_reply
  reply_keeps b p a = either (eqb b 0x00) (taken_keeps p) (either (eqb b 0xFF) (nak_keeps p a) (sender_keeps p WrongAck))

  handed_keeps : (p : Part) → Keeps x (handed_out x p)
  unfolding handed_out
  handed_keeps MasterPart = either (answered x.part.zz) (stays _ _) (stays _ _)
  handed_keeps AnswerPart = stays _ _

  reread_keeps : (p : Part) (a : Attempt) → Keeps x (read_again a x p)
  reread_keeps p First = stays _ _
  reread_keeps p Again = reader_keeps p TwiceNak

  judge_keeps : (b : ℕ) (p : Part) (a : Attempt) (matched : Bool) → Keeps x (judges x b p a matched)
  unfolding judges judged_taken
  judge_keeps b p a matched =
      either (eqb b 0x00) (either matched (handed_keeps p) (reader_keeps p WrongAck))
      (either (eqb b 0xFF) (reread_keeps p a) (reader_keeps p WrongAck))

  whole_keeps : (p : Part) (a : Attempt) (matched : Bool) → Keeps x (whole x p a matched)
  unfolding whole
  whole_keeps MasterPart a matched = either (for_all x.part.zz) (either matched (stays _ _) (stays _ _)) (stays _ _)
  whole_keeps AnswerPart a matched = stays _ _

  on_keeps : (l : Place) (q : Phase) → Keeps x (read_on_at l x q)
  unfolding addressed
  on_keeps Qq q = stays _ _
  on_keeps Zz q = stays _ _
  on_keeps Pb q = either (is_own x x.part.zz) (stays _ _) (either (for_all x.part.zz) (stays _ _) (stays _ _))
  on_keeps Sb q = stays _ _
  on_keeps Nn q = stays _ _
  on_keeps (Data i) q = stays _ _
  on_keeps Crc q = stays _ _

  outcome_keeps : (o : Outcome) (c : Cursor) (p : Part) (a : Attempt) → Keeps x (reads_as o x c p a)
  unfolding read_on
  outcome_keeps More c p a = on_keeps c.place (Reading c p a)
  outcome_keeps Cut c p a = reader_keeps p OverLong
  outcome_keeps NoMaster c p a = reader_keeps p OverLong
  outcome_keeps Unusable c p a = reader_keeps p OverLong
  outcome_keeps TooLong c p a = reader_keeps p OverLong
  outcome_keeps (BrokenPair y) c p a = reader_keeps p (PairBroken y)
  outcome_keeps (Whole matched) c p a = whole_keeps p a matched

reads_keeps : (x : Station) (b : ℕ) (c : Cursor) (p : Part) (a : Attempt) → Keeps x (reads x b c p a)
unfolding reads
reads_keeps x b c p a =
    let w = outcome_keeps (with_part x (read_one c x.part b).part) (read_one c x.part b).outcome (read_one c x.part b).cursor p a in
    record { marked = w.marked; since = w.since }

-- the mark of who did not send its QQ is as it was; who did, and heard another symbol, is marked by its class
abbrev pub mark_after : Bool → Bool → ℕ → Bool → ℕ → Bool
mark_after bid own a marked b = cond bid (cond own marked (eqb (low_half b) (low_half a))) marked

module _ (s : Station) (possible : Possible s) (b : ℕ) (other : kind_of b ≡ Syn → ⊥) where
  reading_keeps : (c : Cursor) (p : Part) (a : Attempt)
      → ((hear_reading (bids s) (noted s) b c p a).station.marked ≡ mark_after (bids s) (eqb b s.address) s.address s.marked b)
      × ((hear_reading (bids s) (noted s) b c p a).station.since ≡ since_next s.since)
  unfolding hear_reading hear_bid noted withdrawn owned
  reading_keeps c p a = by (bids s) (eqb b s.address)
    where
      by : (q r : Bool)
          → ((cond q (cond r (owned (noted s)) (reads (withdrawn (noted s) b) b c p a)) (reads (noted s) b c p a)).station.marked
          ≡ mark_after q r s.address s.marked b)
          × ((cond q (cond r (owned (noted s)) (reads (withdrawn (noted s) b) b c p a)) (reads (noted s) b c p a)).station.since ≡ since_next s.since)
      by true true = (refl, refl)
      by true false = let w = reads_keeps (withdrawn (noted s) b) b c p a in (w.marked, w.since)
      by false r = let w = reads_keeps (noted s) b c p a in (w.marked, w.since)

  abbrev AccessAfter : Turn → Type 0
  AccessAfter t =
      (t.station.marked ≡ mark_after (bids s) (eqb b s.address) s.address s.marked b) × (t.station.since ≡ since_next s.since)

  unbid : (p : Phase) → s.phase ≡ p → (p ≡ Reading master_start MasterPart First → ⊥) → bids s ≡ false
  unbid p e n = go (bids s) refl
    where
      go : (q : Bool) → bids s ≡ q → q ≡ false
      go true i = absurd (n (sym e ∙ bids_at_start s possible i))
      go false i = refl

  kept_access : {t : Turn} → Keeps (noted s) t → bids s ≡ false → AccessAfter t
  unfolding noted
  kept_access k e = (rw e k.marked, k.since)

  access_at : (p : Phase) → s.phase ≡ p → AccessAfter (row p (heard_other b) (bids s) (noted s))
  access_at Silent e = kept_access (stays (noted s) _ _) (unbid Silent e (λ i. clash (cc)))
  access_at (Reading c p a) e = reading_keeps c p a
  access_at (Sending k p a) e = kept_access (own_keeps (noted s) b k p a) (unbid (Sending k p a) e (λ i. clash (cc)))
  access_at (Awaiting p a) e = kept_access (reply_keeps (noted s) b p a) (unbid (Awaiting p a) e (λ i. clash (cc)))
  access_at (Judging p a m k) e = kept_access (judge_keeps (noted s) b p a m) (unbid (Judging p a m k) e (λ i. clash (cc)))
  access_at Owing e = kept_access (stays (noted s) _ _) (unbid Owing e (λ i. clash (cc)))
  access_at Releasing e = kept_access (released_keeps (noted s)) (unbid Releasing e (λ i. clash (cc)))

  pub symbol_access : AccessAfter (hears s (Symbol b))
  symbol_access = rw (symbol_at s b other s.phase refl) (access_at s.phase refl)

-- quiet changes neither
quiet_keeps : (s : Station) (p : Phase) → Keeps (over_now s) (row p heard_nothing (bids s) (over_now s))
quiet_keeps s Silent = stays (over_now s) _ _
quiet_keeps s (Reading c p a) = stays (over_now s) _ _
quiet_keeps s (Sending k p a) = sender_keeps (over_now s) p Disturbed
quiet_keeps s (Awaiting p a) = stays (over_now s) _ _
quiet_keeps s (Judging p a m k) = stays (over_now s) _ _
quiet_keeps s Owing = stays (over_now s) _ _
quiet_keeps s Releasing = released_keeps (over_now s)

pub quiet_access : (s : Station) → ((hears s Quiet).station.marked ≡ s.marked) × ((hears s Quiet).station.since ≡ s.since)
quiet_access s = rw (quiet_at s s.phase refl) (let w = quiet_keeps s s.phase in (w.marked, w.since))

-- ---- who sends its QQ, and whom AA admits

some_waits : (l : List Telegram) → ltb 0 (length l) ≡ some l
some_waits [] = refl
some_waits (t ∷ ts) = lt-ltb 0 (length (t ∷ ts)) (omega arith)

pub bids_in : (s : Station) → Kept s.outbox → bids s ≡ cond s.admitted (some (waiting s.outbox)) false
unfolding bids
bids_in s k = rw (held_waiting s.outbox k, some_waits (waiting s.outbox))

pub admits_in : (s : Station) → admits s ≡ cond s.master (admits_after s.since s.marked) false
unfolding admits
admits_in s = refl
