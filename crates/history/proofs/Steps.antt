-- One slot more, not AA: what it makes of a station's share (01, "Sending" to "Release"). Assumes nothing.
use mathlib.Core.Path.{◌≡◌, refl, sym, ◌∙◌}
use mathlib.Core.Bool.{Bool, true, false, cond, true≢false}
use mathlib.Core.List.{List, [], ◌∷◌, ◌++◌}
use Prim.Native.Nat.{ℕ}
use lib.Dec.{eqb}
use Rattle.address.specs.Master.{is_master}
use Rattle.wire.specs.Form.{telegram_form, answer_form}
use Rattle.wire.specs.declared.part.Telegram.{Telegram}
use Rattle.wire.specs.declared.reader.Outcome.{Outcome}
use Rattle.wire.specs.declared.reader.Outcome.TheVariants.{More, Cut, NoMaster, Unusable, TooLong, BrokenPair, Whole}
use Rattle.station.specs.declared.phase.Sound.{Sound}
use Rattle.station.specs.declared.phase.Sound.TheVariants.{Quiet, Symbol}
use Rattle.history.specs.Moments.{Moment, by_sound, is_symbol}
use Rattle.history.specs.Verdict.{verdict}
use Rattle.history.specs.Share.{Time, once, again, Sender, owner, slave, Reader, station, asker, Share, over, releases, sends, awaits, reads, judges, owes, to_all, which_of, zz_in, pb_in, sb_in, reads_on, reads_for_all, released, silent, ends, fails, sent, acknowledged, if_more, read, End, wholly, in_vain, end_of, by_end, answer_out, answer_again, answer_sent, answers, handed, whole_read, read_so_far, read_ended, read_again, part_read, own_taken, own_out, own_again, own_sent}

-- ---- the continuations, by sender and reader

abbrev pub on_nak : Sender → Time → List Moment → Share
on_nak (owner t) once ms = own_again t ms
on_nak (owner t) again ms = released ms
on_nak (slave xs) once ms = answer_again xs ms
on_nak (slave xs) again ms = silent ms

abbrev pub out : Sender → Time → List Moment → Share
out (owner t) n ms = own_out t n (on_nak (owner t) n) ms
out (slave xs) n ms = answer_out xs n (on_nak (slave xs) n) ms

abbrev pub taken : Sender → List Moment → Share
taken (owner t) ms = own_taken t ms
taken (slave xs) ms = silent ms

abbrev pub rereads : Reader → Time → List Moment → Share
rereads r once ms = read_again r ms
rereads r again ms = fails r ms

-- ---- one slot more

abbrev pub next_read : Reader → Time → List ℕ → Share
next_read r n xs = if_more (verdict (which_of r) xs) (read_so_far r n xs) (read_ended r n (rereads r n) (verdict (which_of r) xs) xs [])

abbrev pub next : Share → Moment → Share
next over x = over
next releases x = over
next (sends s n y ys) x = cond (is_symbol y x.heard) (sent s n ys (out s n) []) over
next (awaits s n) x =
    by_sound x.heard (awaits s n) (λ b. cond (eqb b 0x00) (taken s []) (cond (eqb b 0xFF) (on_nak s n []) (ends s [])))
next (reads r n xs) x = by_sound x.heard (reads r n xs) (λ b. next_read r n (xs ++ (b ∷ [])))
next (judges r n xs matched just) x =
    by_sound x.heard (judges r n xs matched false)
    (λ b. cond (eqb b 0x00) (handed r xs matched []) (cond (eqb b 0xFF) (rereads r n []) (fails r [])))
next (owes pb sb) x = answers pb sb (x ∷ [])

-- one share after the other
pub record Goes (x : Moment) (u v : Share) : Type 0 where
  pub goes : v ≡ next u x

-- so the slots so far are not needed to know the next share
abbrev pub Steps : Moment → (List Moment → Share) → Type 0
Steps x k = (ms : List Moment) → Goes x (k ms) (k (ms ++ (x ∷ [])))

by_test : {x : Moment} (r : Bool) {u v u' v' : Share} → Goes x u u' → Goes x v v' → Goes x (cond r u v) (cond r u' v')
by_test true e f = e
by_test false e f = f

module _ (x : Moment) where
  silent_steps : Steps x silent
  silent_steps ms = record { goes = refl }

  released_steps : Steps x released
  released_steps [] = record { goes = refl }
  released_steps (m ∷ ms) = record { goes = refl }

  fails_steps : (r : Reader) → Steps x (fails r)
  fails_steps (station a m) ms = record { goes = refl }
  fails_steps (asker t) [] = record { goes = refl }
  fails_steps (asker t) (m ∷ ms) = record { goes = refl }

  -- an acknowledgement
  module _ (waits : Bool → Share) (ack nak other : List Moment → Share) (a : Steps x ack) (n : Steps x nak) (o : Steps x other)
      (w : (just : Bool) → next (waits just) x ≡ by_sound x.heard (waits false) (λ b. cond (eqb b 0x00) (ack []) (cond (eqb b 0xFF) (nak []) (other [])))) where
    sound_steps : (ms : List Moment) (h : Sound) → Goes x (acknowledged waits ack nak other false ms) (acknowledged waits ack nak other false (ms ++ (x ∷ [])))
        → Goes x (by_sound h (acknowledged waits ack nak other false ms) (λ b. cond (eqb b 0x00) (ack ms) (cond (eqb b 0xFF) (nak ms) (other ms))))
        (by_sound h (acknowledged waits ack nak other false (ms ++ (x ∷ [])))
        (λ b. cond (eqb b 0x00) (ack (ms ++ (x ∷ []))) (cond (eqb b 0xFF) (nak (ms ++ (x ∷ []))) (other (ms ++ (x ∷ []))))))
    sound_steps ms Quiet e = e
    sound_steps ms (Symbol b) e = by_test (eqb b 0x00) (a ms) (by_test (eqb b 0xFF) (n ms) (o ms))

    acknowledged_steps : (just : Bool) → Steps x (acknowledged waits ack nak other just)
    acknowledged_steps just [] = record { goes = sym (w just) }
    acknowledged_steps just (m ∷ ms) = sound_steps ms m.heard (acknowledged_steps false ms)

  -- a part that is sent
  sent_steps : (s : Sender) (n : Time) → Steps x (out s n) → (ys : List ℕ) → Steps x (sent s n ys (out s n))
  sent_steps s n o [] ms = o ms
  sent_steps s n o (y ∷ ys) [] = record { goes = refl }
  sent_steps s n o (y ∷ ys) (m ∷ ms) = by_test (is_symbol y m.heard) (sent_steps s n o ys ms) (record { goes = refl })

  answer_out_steps : (xs : List ℕ) (n : Time) → Steps x (on_nak (slave xs) n) → Steps x (out (slave xs) n)
  answer_out_steps xs n f ms =
      acknowledged_steps (λ just. awaits (slave xs) n) silent (on_nak (slave xs) n) silent silent_steps f silent_steps (λ _. refl) true ms

  answer_nak_steps : (xs : List ℕ) (n : Time) → Steps x (on_nak (slave xs) n)
  answer_nak_steps xs again ms = record { goes = refl }
  answer_nak_steps xs once ms = sent_steps (slave xs) again (answer_out_steps xs again silent_steps) xs ms

  pub answer_sent_steps : (xs : List ℕ) → Steps x (answer_sent xs)
  answer_sent_steps xs ms = sent_steps (slave xs) once (answer_out_steps xs once (answer_nak_steps xs once)) xs ms

  answers_steps : (pb sb : ℕ) → Steps x (answers pb sb)
  answers_steps pb sb [] = record { goes = refl }
  answers_steps pb sb (m ∷ ms) = answer_sent_steps (answer_form (m.answers pb sb)) (m ∷ ms)

  -- a part that is read
  handed_steps : (r : Reader) (xs : List ℕ) (matched : Bool) → Steps x (handed r xs matched)
  handed_steps (station a m) xs matched ms =
      by_test matched (by_test (is_master (zz_in xs)) (record { goes = refl }) (answers_steps (pb_in xs) (sb_in xs) ms)) (record { goes = refl })
  handed_steps (asker t) xs matched ms = released_steps ms

  whole_steps : (r : Reader) (n : Time) → Steps x (rereads r n) → (xs : List ℕ) (matched : Bool)
      → Steps x (λ ms. whole_read r n (rereads r n) xs ms matched)
  whole_steps r n f xs matched ms =
      by_test (reads_for_all r xs) (record { goes = refl })
      (acknowledged_steps (judges r n xs matched) (handed r xs matched) (rereads r n) (fails r) (handed_steps r xs matched) f (fails_steps r) (λ _. refl) true ms)

  ended_steps : (r : Reader) (n : Time) → Steps x (rereads r n) → (v : Outcome) (xs : List ℕ) → Steps x (read_ended r n (rereads r n) v xs)
  ended_steps r n f v xs ms = by_test (reads_on r xs) (go (end_of v)) (record { goes = refl })
    where
      go : (e : End) → Goes x (by_end e (whole_read r n (rereads r n) xs ms) (fails r ms))
          (by_end e (whole_read r n (rereads r n) xs (ms ++ (x ∷ []))) (fails r (ms ++ (x ∷ []))))
      go (wholly matched) = whole_steps r n f xs matched ms
      go in_vain = fails_steps r ms

  by_more : (v : Outcome) {u c u' c' : Share} → Goes x u u' → Goes x c c' → Goes x (if_more v u c) (if_more v u' c')
  by_more More e f = e
  by_more Cut e f = f
  by_more NoMaster e f = f
  by_more Unusable e f = f
  by_more TooLong e f = f
  by_more (BrokenPair y) e f = f
  by_more (Whole b) e f = f

  -- who is not addressed does not read on
  deaf_more : (r : Reader) (xs : List ℕ) (b : ℕ) → reads_on r xs ≡ false → reads_on r (xs ++ (b ∷ [])) ≡ false
  deaf_more (station a m) [] b e = absurd (true≢false e)
  deaf_more (station a m) (q ∷ []) b e = absurd (true≢false e)
  deaf_more (station a m) (q ∷ z ∷ xs) b e = e
  deaf_more (asker t) xs b e = absurd (true≢false e)

  module _ (r : Reader) (n : Time) (f : Steps x (rereads r n)) where
    read_first : (xs : List ℕ) (on : Bool) → reads_on r xs ≡ on → (h : Sound)
        → by_sound h (read_so_far r n xs) (λ s. next_read r n (xs ++ (s ∷ [])))
        ≡ cond on (by_sound h (reads r n xs) (λ s. next_read r n (xs ++ (s ∷ [])))) over
    read_first xs true e Quiet = rw e
    read_first xs true e (Symbol b) = refl
    read_first xs false e Quiet = rw e
    read_first xs false e (Symbol b) = rw (deaf_more r xs b e) (go (verdict (which_of r) (xs ++ (b ∷ []))))
      where
        go : (v : Outcome) → if_more v over over ≡ over
        go More = refl
        go Cut = refl
        go NoMaster = refl
        go Unusable = refl
        go TooLong = refl
        go (BrokenPair y) = refl
        go (Whole c) = refl

    next_test : (on : Bool) (u : Share) → next (cond on u over) x ≡ cond on (next u x) over
    next_test true u = refl
    next_test false u = refl

    read_steps : (xs : List ℕ) → Steps x (read (which_of r) (read_so_far r n) (read_ended r n (rereads r n)) xs)
    read_steps xs [] =
        record { goes = read_first xs (reads_on r xs) refl x.heard ∙ sym (next_test (reads_on r xs) (reads r n xs)) }
    read_steps xs (m ∷ ms) =
        by_sound_lem m.heard (read_steps xs ms) (λ b. by_more (verdict (which_of r) (xs ++ (b ∷ []))) (read_steps (xs ++ (b ∷ [])) ms)
        (ended_steps r n f (verdict (which_of r) (xs ++ (b ∷ []))) (xs ++ (b ∷ [])) ms))
      where
        by_sound_lem : (h : Sound) {u v : Share} {f g : ℕ → Share} → Goes x u v → ((b : ℕ) → Goes x (f b) (g b)) → Goes x (by_sound h u f) (by_sound h v g)
        by_sound_lem Quiet e k = e
        by_sound_lem (Symbol b) e k = k b

  rereads_steps : (r : Reader) (n : Time) → Steps x (rereads r n)
  rereads_steps r again ms = fails_steps r ms
  rereads_steps r once ms = read_steps r again (fails_steps r) [] ms

  pub part_read_steps : (r : Reader) → Steps x (part_read r)
  part_read_steps r ms = read_steps r once (rereads_steps r once) [] ms

  -- the owner's part
  own_taken_steps : (t : Telegram) → Steps x (own_taken t)
  own_taken_steps t ms = by_test (is_master t.zz) (released_steps ms) (part_read_steps (asker t) ms)

  own_out_steps : (t : Telegram) (n : Time) → Steps x (on_nak (owner t) n) → Steps x (out (owner t) n)
  own_out_steps t n f ms =
      by_test (to_all t.zz) (released_steps ms)
      (acknowledged_steps (λ just. awaits (owner t) n) (own_taken t) (on_nak (owner t) n) released (own_taken_steps t) f released_steps (λ _. refl) true ms)

  own_nak_steps : (t : Telegram) (n : Time) → Steps x (on_nak (owner t) n)
  own_nak_steps t again ms = released_steps ms
  own_nak_steps t once ms = sent_steps (owner t) again (own_out_steps t again released_steps) (telegram_form t) ms

  pub own_steps : (t : Telegram) → Steps x (own_sent t)
  own_steps t ms = sent_steps (owner t) once (own_out_steps t once (own_nak_steps t once)) (telegram_form t) ms
