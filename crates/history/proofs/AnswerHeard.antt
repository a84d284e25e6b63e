-- While an owner reads an answer, what was heard since the last AA is its own part, the acknowledgements, before a repeat the first
-- answer, and what it has read so far. Assumes nothing.
use mathlib.Core.Path.{◌≡◌, refl, sym, ap, subst, ◌∙◌}
use mathlib.Core.Bool.{Bool, true, false, cond, false≢true}
use mathlib.Core.List.{List, [], ◌∷◌, ◌++◌, append_assoc, append-nil}
use Prim.Native.Nat.{ℕ}
use borrow.Author.Tests.{eqb-true}
use lib.Dec.{eqb}
use lib.ListN.{drop}
use Rattle.address.specs.Master.{is_master}
use Rattle.wire.specs.Form.{covered, form, telegram_form, answer_form}
use Rattle.wire.specs.declared.part.Part.TheVariants.{MasterPart, AnswerPart}
use Rattle.wire.specs.declared.part.Telegram.{Telegram}
use Rattle.wire.specs.declared.reader.Outcome.{Outcome}
use Rattle.wire.specs.declared.reader.Outcome.TheVariants.{More, Cut, NoMaster, Unusable, TooLong, BrokenPair, Whole}
use Rattle.station.specs.declared.phase.Sound.{Sound}
use Rattle.station.specs.declared.phase.Sound.TheVariants.{Quiet, Symbol}
use Rattle.history.specs.AnswerHeard.{part_out, taken, refused, AnswerHeard}
use Rattle.history.specs.Moments.{Moment, by_sound, is_symbol, symbols_in}
use Rattle.history.specs.Observer.{share_after}
use Rattle.history.specs.Share.{Time, once, again, owner, slave, station, asker, Share, over, releases, sends, awaits, reads, judges, owes, to_all, zz_in, for_it, sent, if_more, End, wholly, in_vain, by_end, handed, whole_read, read_so_far, read_ended}
use Rattle.history.specs.Verdict.{verdict}
use Rattle.history.proofs.Access.{symbols_more}
use Rattle.history.proofs.Shares.{wins, share_next, share_won}
use Rattle.history.proofs.Steps.{on_nak, out, rereads, next_read, next}
use Rattle.history.proofs.Steps as steps

-- a whole answer, its CRC right or wrong
record WholeHeard (t : Telegram) (n : Time) (xs : List ℕ) (matched : Bool) (all : List ℕ) : Type 0 where
  heard : AnswerHeard t n xs all
  whole : verdict AnswerPart xs ≡ Whole matched

-- what the share of an owner says of all that was heard; of any other share nothing is said
data Shown : Share → List ℕ → Type 0 where
  is_over : {all : List ℕ} → Shown over all
  is_releases : {all : List ℕ} → Shown releases all
  own_sends : {t : Telegram} {n : Time} {y : ℕ} {ys all : List ℕ} → all ++ (y ∷ ys) ≡ part_out t n → Shown (sends (owner t) n y ys) all
  slave_sends : {fs : List ℕ} {n : Time} {y : ℕ} {ys all : List ℕ} → Shown (sends (slave fs) n y ys) all
  own_awaits : {t : Telegram} {n : Time} {all : List ℕ} → all ≡ part_out t n → Shown (awaits (owner t) n) all
  slave_awaits : {fs : List ℕ} {n : Time} {all : List ℕ} → Shown (awaits (slave fs) n) all
  station_reads : {a : ℕ} {m : Bool} {n : Time} {xs all : List ℕ} → Shown (reads (station a m) n xs) all
  asker_reads : {t : Telegram} {n : Time} {xs all : List ℕ} → AnswerHeard t n xs all → Shown (reads (asker t) n xs) all
  station_judges : {a : ℕ} {m : Bool} {n : Time} {xs all : List ℕ} {matched just : Bool} → Shown (judges (station a m) n xs matched just) all
  asker_judges : {t : Telegram} {n : Time} {xs all : List ℕ} {matched just : Bool} → WholeHeard t n xs matched all → Shown (judges (asker t) n xs matched just) all
  is_owes : {pb sb : ℕ} {all : List ℕ} → Shown (owes pb sb) all

either : (q : Bool) {u v : Share} {all : List ℕ} → (q ≡ true → Shown u all) → (q ≡ false → Shown v all) → Shown (cond q u v) all
either true f g = f refl
either false f g = g refl

-- ---- one slot more of who is no owner

module _ (all : List ℕ) where
  slave_sent : (fs : List ℕ) (n : Time) (ys : List ℕ) → Shown (sent (slave fs) n ys (out (slave fs) n) []) all
  slave_sent fs n [] = slave_awaits
  slave_sent fs n (y ∷ ys) = slave_sends

  slave_nak : (fs : List ℕ) (n : Time) → Shown (on_nak (slave fs) n []) all
  slave_nak fs once = slave_sent fs again fs
  slave_nak fs again = is_over

  -- the slot of an answer's first symbol
  slave_begins : (fs ys : List ℕ) (x : Moment) → Shown (sent (slave fs) once ys (out (slave fs) once) (x ∷ [])) all
  slave_begins fs [] x = by x.heard
    where
      by : (h : Sound) → Shown (by_sound h (awaits (slave fs) once) (λ b. cond (eqb b 0x00) over (cond (eqb b 0xFF) (on_nak (slave fs) once []) over))) all
      by Quiet = slave_awaits
      by (Symbol b) = either (eqb b 0x00) (λ _. is_over) (λ _. either (eqb b 0xFF) (λ _. slave_nak fs once) (λ _. is_over))
  slave_begins fs (y ∷ ys) x = either (is_symbol y x.heard) (λ _. slave_sent fs once ys) (λ _. is_over)

  module _ (a : ℕ) (m : Bool) (n : Time) (xs : List ℕ) where
    ended : (e : End) → Shown (cond (for_it a m xs) (by_end e (whole_read (station a m) n (rereads (station a m) n) xs []) over) over) all
    ended (wholly matched) = either (for_it a m xs) (λ _. either (to_all (zz_in xs)) (λ _. is_over) (λ _. station_judges)) (λ _. is_over)
    ended in_vain = either (for_it a m xs) (λ _. is_over) (λ _. is_over)

    station_on : (v : Outcome) → Shown (if_more v (read_so_far (station a m) n xs) (read_ended (station a m) n (rereads (station a m) n) v xs [])) all
    station_on More = either (for_it a m xs) (λ _. station_reads) (λ _. is_over)
    station_on Cut = ended in_vain
    station_on NoMaster = ended in_vain
    station_on Unusable = ended in_vain
    station_on TooLong = ended in_vain
    station_on (BrokenPair y) = ended in_vain
    station_on (Whole matched) = ended (wholly matched)

  station_again : (a : ℕ) (m : Bool) (n : Time) → Shown (rereads (station a m) n []) all
  station_again a m once = station_reads
  station_again a m again = is_over

-- ---- one slot more of an owner

module _ (t : Telegram) (all : List ℕ) (b : ℕ) where
  -- its own symbol was heard
  own_sent : (n : Time) (y : ℕ) (ys : List ℕ) → y ≡ b → all ++ (y ∷ ys) ≡ part_out t n → Shown (sent (owner t) n ys (out (owner t) n) []) (all ++ (b ∷ []))
  own_sent n y [] i e = either (to_all t.zz) (λ _. is_releases) (λ _. own_awaits (ap (λ (c : ℕ). all ++ (c ∷ [])) (sym i) ∙ e))
  own_sent n y (z ∷ zs) i e = own_sends (append_assoc all (b ∷ []) (z ∷ zs) ∙ ap (λ (c : ℕ). all ++ (c ∷ z ∷ zs)) (sym i) ∙ e)

  -- FF: the part goes out again, from its first symbol on
  own_nak : (n : Time) → b ≡ 0xFF → all ≡ part_out t n → Shown (on_nak (owner t) n []) (all ++ (b ∷ []))
  unfolding telegram_form form covered
  own_nak once i e =
      let f : (all ++ (b ∷ [])) ++ telegram_form t ≡ part_out t again = rw (i, e) (append_assoc (telegram_form t) (0xFF ∷ []) (telegram_form t)) in
      own_sends f
  own_nak again i e = is_releases

  -- 00: the answer follows
  own_taken : (n : Time) → b ≡ 0x00 → all ≡ part_out t n → Shown (cond (is_master t.zz) releases (reads (asker t) once [])) (all ++ (b ∷ []))
  own_taken n i e =
      either (is_master t.zz) (λ _. is_releases)
      (λ _. asker_reads (record { before = part_out t n ++ (0x00 ∷ []); opens = taken n; is = rw (i, e) (sym (append-nil (part_out t n ++ (0x00 ∷ [])))) }))

  more_heard : (n : Time) (xs : List ℕ) → AnswerHeard t n xs all → AnswerHeard t n (xs ++ (b ∷ [])) (all ++ (b ∷ []))
  more_heard n xs w =
      record { before = w.before; opens = w.opens; is = ap (λ (l : List ℕ). l ++ (b ∷ [])) w.is ∙ append_assoc w.before xs (b ∷ []) }

  -- one symbol more of the answer
  asker_on : (n : Time) (ys : List ℕ) (v : Outcome) → verdict AnswerPart ys ≡ v → AnswerHeard t n ys (all ++ (b ∷ []))
      → Shown (if_more v (read_so_far (asker t) n ys) (read_ended (asker t) n (rereads (asker t) n) v ys [])) (all ++ (b ∷ []))
  asker_on n ys More e w = asker_reads w
  asker_on n ys Cut e w = is_releases
  asker_on n ys NoMaster e w = is_releases
  asker_on n ys Unusable e w = is_releases
  asker_on n ys TooLong e w = is_releases
  asker_on n ys (BrokenPair y) e w = is_releases
  asker_on n ys (Whole matched) e w = asker_judges (record { heard = w; whole = e })

  -- FF: the answer comes again
  asker_again : (n : Time) (xs : List ℕ) (matched : Bool) → b ≡ 0xFF → WholeHeard t n xs matched all → Shown (rereads (asker t) n []) (all ++ (b ∷ []))
  asker_again once xs matched i w =
      let f : all ++ (b ∷ []) ≡ ((w.heard.before ++ xs) ++ (0xFF ∷ [])) ++ [] =
      rw (i, w.heard.is) (sym (append-nil ((w.heard.before ++ xs) ++ (0xFF ∷ [])))) in
      asker_reads (record { before = (w.heard.before ++ xs) ++ (0xFF ∷ []); opens = refused xs w.heard.opens w.whole; is = f })
  asker_again again xs matched i w = is_releases

-- ---- any share

-- a slot, by the symbol that is heard in it or by none
shown_next : {u : Share} {all : List ℕ} (x : Moment) → Shown u all → Shown (next u x) (all ++ symbols_in (x ∷ []))
shown_next x is_over = is_over
shown_next x is_releases = is_over
shown_next x (own_sends {t = t} {n = n} {y = y} {ys = ys} {all = all} e) = by x.heard
  where
    by : (h : Sound) → Shown (cond (is_symbol y h) (sent (owner t) n ys (out (owner t) n) []) over) (all ++ by_sound h [] (λ s. s ∷ []))
    by Quiet = is_over
    by (Symbol b) = either (eqb y b) (λ i. own_sent t all b n y ys (eqb-true y b i) e) (λ _. is_over)
shown_next x (slave_sends {fs = fs} {n = n} {y = y} {ys = ys}) = either (is_symbol y x.heard) (λ _. slave_sent _ fs n ys) (λ _. is_over)
shown_next x (own_awaits {t = t} {n = n} {all = all} e) = by x.heard
  where
    by : (h : Sound)
        → Shown (by_sound h (awaits (owner t) n) (λ b. cond (eqb b 0x00) (steps.taken (owner t) []) (cond (eqb b 0xFF) (on_nak (owner t) n []) releases))) (all ++ by_sound h [] (λ s. s ∷ []))
    by Quiet = own_awaits (append-nil all ∙ e)
    by (Symbol b) =
        either (eqb b 0x00) (λ i. own_taken t all b n (eqb-true b 0x00 i) e)
        (λ _. either (eqb b 0xFF) (λ i. own_nak t all b n (eqb-true b 0xFF i) e) (λ _. is_releases))
shown_next x (slave_awaits {fs = fs} {n = n} {all = all}) = by x.heard
  where
    by : (h : Sound) → Shown (by_sound h (awaits (slave fs) n) (λ b. cond (eqb b 0x00) over (cond (eqb b 0xFF) (on_nak (slave fs) n []) over))) (all ++ symbols_in (x ∷ []))
    by Quiet = slave_awaits
    by (Symbol b) = either (eqb b 0x00) (λ _. is_over) (λ _. either (eqb b 0xFF) (λ _. slave_nak _ fs n) (λ _. is_over))
shown_next x (station_reads {a = a} {m = m} {n = n} {xs = xs} {all = all}) = by x.heard
  where
    by : (h : Sound) → Shown (by_sound h (reads (station a m) n xs) (λ b. next_read (station a m) n (xs ++ (b ∷ [])))) (all ++ symbols_in (x ∷ []))
    by Quiet = station_reads
    by (Symbol b) = station_on _ a m n (xs ++ (b ∷ [])) (verdict MasterPart (xs ++ (b ∷ [])))
shown_next x (asker_reads {t = t} {n = n} {xs = xs} {all = all} w) = by x.heard
  where
    by : (h : Sound) → Shown (by_sound h (reads (asker t) n xs) (λ b. next_read (asker t) n (xs ++ (b ∷ [])))) (all ++ by_sound h [] (λ s. s ∷ []))
    by Quiet = rw (append-nil all) (asker_reads w)
    by (Symbol b) = asker_on t all b n (xs ++ (b ∷ [])) (verdict AnswerPart (xs ++ (b ∷ []))) refl (more_heard t all b n xs w)
shown_next x (station_judges {a = a} {m = m} {n = n} {xs = xs} {all = all} {matched = matched}) = by x.heard
  where
    by : (h : Sound)
        → Shown (by_sound h (judges (station a m) n xs matched false) (λ b. cond (eqb b 0x00) (handed (station a m) xs matched []) (cond (eqb b 0xFF) (rereads (station a m) n []) over))) (all ++ symbols_in (x ∷ []))
    by Quiet = station_judges
    by (Symbol b) =
        either (eqb b 0x00) (λ _. either matched (λ _. either (is_master (zz_in xs)) (λ _. is_over) (λ _. is_owes)) (λ _. is_over))
        (λ _. either (eqb b 0xFF) (λ _. station_again _ a m n) (λ _. is_over))
shown_next x (asker_judges {t = t} {n = n} {xs = xs} {all = all} {matched = matched} w) = by x.heard
  where
    by : (h : Sound)
        → Shown (by_sound h (judges (asker t) n xs matched false) (λ b. cond (eqb b 0x00) releases (cond (eqb b 0xFF) (rereads (asker t) n []) releases))) (all ++ by_sound h [] (λ s. s ∷ []))
    by Quiet = rw (append-nil all) (asker_judges w)
    by (Symbol b) = either (eqb b 0x00) (λ _. is_releases) (λ _. either (eqb b 0xFF) (λ i. asker_again t all b n xs matched (eqb-true b 0xFF i) w) (λ _. is_releases))
shown_next x (is_owes {pb = pb} {sb = sb}) = slave_begins _ (answer_form (x.answers pb sb)) (answer_form (x.answers pb sb)) x

-- ---- all slots since the last AA

-- the first symbol of an owner's part
begins : (t : Telegram) (a : ℕ) (h : Sound) → h ≡ Symbol a
    → Shown (cond (is_symbol t.qq h) (sent (owner t) once (drop 1 (telegram_form t)) (out (owner t) once) []) over) (by_sound h [] (λ s. s ∷ []))
unfolding telegram_form form covered
begins t a Quiet e = is_over
begins t a (Symbol b) e = either (eqb t.qq b) (λ i. own_sends (ap (λ (q : ℕ). q ∷ drop 1 (telegram_form t)) (sym (eqb-true t.qq b i)))) (λ _. is_over)

module _ (a : ℕ) (m : Bool) (earlier : List (List Moment)) where
  -- who wins the wire begins its part
  won_shown : (x : Moment) → wins a m earlier [] x ≡ true → Shown (share_after a m earlier (x ∷ [])) (symbols_in (x ∷ []))
  unfolding telegram_form form covered
  won_shown x e =
      let w = share_won x a m earlier [] e in
      subst (λ (u : Share). Shown u (symbols_in (x ∷ []))) (sym w.share) (begins w.telegram a x.heard w.hears)

  one_shown : (ns : List Moment) (x : Moment) → Shown (share_after a m earlier ns) (symbols_in ns) → Shown (share_after a m earlier (ns ++ (x ∷ []))) (symbols_in (ns ++ (x ∷ [])))
  one_shown ns x w = by (wins a m earlier ns x) refl
    where
      first : (ns : List Moment) → wins a m earlier ns x ≡ true → Shown (share_after a m earlier (ns ++ (x ∷ []))) (symbols_in (ns ++ (x ∷ [])))
      first [] e = won_shown x e
      first (y ∷ ns) e = absurd (false≢true e)

      by : (q : Bool) → wins a m earlier ns x ≡ q → Shown (share_after a m earlier (ns ++ (x ∷ []))) (symbols_in (ns ++ (x ∷ [])))
      by true e = first ns e
      by false e = rw (share_next x a m earlier ns e, symbols_more ns x) (shown_next x w)

  more_shown : (ns ms : List Moment) → Shown (share_after a m earlier ns) (symbols_in ns) → Shown (share_after a m earlier (ns ++ ms)) (symbols_in (ns ++ ms))
  more_shown ns [] w = rw (append-nil ns) w
  more_shown ns (x ∷ ms) w = rw (append_assoc ns (x ∷ []) ms) at (more_shown (ns ++ (x ∷ [])) ms (one_shown ns x w))

  none_shown : (earlier : List (List Moment)) → Shown (share_after a m earlier []) []
  none_shown [] = is_over
  none_shown (g ∷ gs) = station_reads

  read_shown : {t : Telegram} {n : Time} {xs all : List ℕ} → Shown (reads (asker t) n xs) all → AnswerHeard t n xs all
  read_shown (asker_reads w) = w

  -- the answer that an owner reads, first time or again, in what was heard since the last AA
  pub answer_heard : (now : List Moment) {t : Telegram} {n : Time} {xs : List ℕ} → share_after a m earlier now ≡ reads (asker t) n xs → AnswerHeard t n xs (symbols_in now)
  answer_heard now e = read_shown (subst (λ (u : Share). Shown u (symbols_in now)) e (more_shown [] now (none_shown earlier)))
