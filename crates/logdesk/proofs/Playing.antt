-- What is read from a log, what is written for it, and which lengths are played. Assumes nothing.
use Rattle.std.proofs.Common.{◌≡◌, ◌≢◌, ℕ, zero, suc, ◌+◌, ◌-◌, ◌≤◌, ◌<◌, Bool, true, false, List, length, take, length-take-le, refl, ap, subst, ◌∙◌}
use mathlib.Core.Bool.{cond}
use native.Mathlib.Omega.{arith}
use borrow.Author.Tests.{lt-ltb, le-ltb, ltb-true, ltb-false, leb-true}
use lib.Dec.{ltb, leb}
use lib.Seq.{take-append_seam}
use Rattle.std.specs.Prelude.{Result, Ok, Err, Option}
use Rattle.std.specs.Result.{result_unwrap_or}
use Rattle.bus.specs.Events.{Line}
use Rattle.walk.specs.Form.{form_of}
use Rattle.std.specs.Prelude.{Result, ⊤, Ok, Err}
use Rattle.walk.specs.declared.form.FormError.{FormError}
use Rattle.walk.specs.declared.form.FormError.TheVariants.{BadField, TooLong}
use Rattle.scenario.specs.Lines.{form_text}
use Rattle.buslog.specs.declared.log.BadLength.{BadLength}
use Rattle.buslog.specs.declared.log.Log.{Log}
use Rattle.buslog.specs.declared.log.ReadError.{ReadError}
use Rattle.buslog.specs.Latest.{joined}
use Rattle.buslog.specs.Log.{within_limits, fresh_for, bad_length, set_up_for, is_of}
use Rattle.buslog.specs.Read.{Copying, copying, copy_of, fitting_from, fitting_in, read_into, saying}
use Rattle.buslog.specs.declared.log.ReadError.TheVariants.{OtherLength}
use Rattle.buslog.specs.Ring.{Ring, ring, held_bytes, size_of_oldest, without}
use Rattle.buslog.specs.Sound.{Sound}
use Rattle.buslog.proofs.Holds.{held_count}
use Rattle.diary.specs.Output.{opening_text, refused16, lines_of, held_lines, logged_of, wirelog_output}
use Rattle.diary.proofs.WirelogPrints.{read_whole_lem}
use Rattle.logdesk.specs.Playing.{PlaysLog}

-- ---- what is read

fitting_most : (k : ℕ) (bytes : List ℕ) (n : ℕ) (l : Log) → fitting_from k bytes n l ≤ n
unfolding fitting_from
fitting_most zero bytes n l = omega arith
fitting_most (suc k) bytes n l = go (ltb 0 l.held) (leb size n) refl (fitting_most k bytes (n - size) (without l size))
  where
    size : ℕ
    size = size_of_oldest (ring bytes l)

    more : ℕ
    more = fitting_from k bytes (n - size) (without l size)

    go : (t u : Bool) → leb size n ≡ u → more ≤ n - size → cond t (cond u (size + more) 0) 0 ≤ n
    go true true e h = omega (arith, h, leb-true size n e)
    go true false e h = omega arith
    go false u e h = omega arith

-- no more bytes than there is room for
pub read_most : (d : Ring) (into : List ℕ) {out : List ℕ} {r : Result ℕ ReadError} {n : ℕ} → copying out r ≡ read_into d into → n ≡ result_unwrap_or r 0
    → n ≤ length into
unfolding read_into copy_of
read_most d into e f = rw (f ∙ ap (λ (c : Copying). result_unwrap_or c.copied 0) e) (go (is_of d.log (length d.bytes)))
  where
    go : (t : Bool) → result_unwrap_or (cond t (copy_of (fitting_in d.bytes (length into) d.log) d into) (copying into (saying OtherLength))).copied 0 ≤ length into
    go true = fitting_most d.log.held d.bytes (length into) d.log
    go false = omega arith

-- all records of a log that goes with its buffer, where there is room for one byte more than any log holds
pub read_all : (d : Ring) (ls : List Line) (into : List ℕ) {out : List ℕ} {r : Result ℕ ReadError} {n : ℕ} → copying out r ≡ read_into d into
    → n ≡ result_unwrap_or r 0 → 65536 ≤ length into → Sound d → held_bytes d ≡ joined ls → take n out ≡ joined ls
read_all d ls into {out} {r} {n} e f room s held =
    let most : length (joined ls) ≤ length into = omega (arith, held_count (record { sound = s; room = refl; bytes = held }), s.fits, s.greatest) in
    let same = e ∙ read_whole_lem d ls into s held most in
    rw (f ∙ ap (λ (c : Copying). result_unwrap_or c.copied 0) same, ap (λ (c : Copying). c.out) same) (take-append_seam (joined ls) _)

-- ---- what is written

pub good_output : (n : ℕ) (s : List ℕ) → within_limits n ≡ true → form_of s ≡ Ok tt → lines_of (held_lines n s) ≡ wirelog_output n s
unfolding wirelog_output
good_output n s w e = simp (w, e)

bad_as : (f : Result ⊤ FormError) (n : ℕ) (s : List ℕ) → f ≢ (Ok tt) → form_text f ≡ logged_of f n s
bad_as (Ok tt) n s h = absurd (h refl)
bad_as (Err (BadField at)) n s h = refl
bad_as (Err TooLong) n s h = refl

pub bad_output : (f : Result ⊤ FormError) (n : ℕ) (s : List ℕ) → within_limits n ≡ true → f ≡ form_of s → f ≢ (Ok tt) → form_text f ≡ wirelog_output n s
unfolding wirelog_output
bad_output f n s w e h = rw (w, ← e) (bad_as f n s h)

-- ---- which lengths are played

module _ (n : ℕ) where
  -- a log was set up
  pub ready : {l : Log} → Ok l ≡ set_up_for n → (within_limits n ≡ true) × (l ≡ fresh_for n)
  unfolding set_up_for
  ready {l} e = go (within_limits n) refl e
    where
      log_in : Result Log BadLength → Log
      log_in (Ok m) = m
      log_in (Err x) = l

      go : (t : Bool) → within_limits n ≡ t → Ok l ≡ cond t (Ok (fresh_for n)) (Err bad_length) → (within_limits n ≡ true) × (l ≡ fresh_for n)
      go true w f = (w, ap log_in f)
      go false w f = cc

  -- or none was
  pub refused : {r : Result Log BadLength} → r ≡ set_up_for n → ((l : Log) → r ≢ Ok l) → (within_limits n ≡ false) × (opening_text r (Ok tt) ≡ refused16)
  unfolding set_up_for
  refused {r} e h = go (within_limits n) refl e
    where
      go : (t : Bool) → within_limits n ≡ t → r ≡ cond t (Ok (fresh_for n)) (Err bad_length) → (within_limits n ≡ false) × (opening_text r (Ok tt) ≡ refused16)
      go true w f = absurd (h _ f)
      go false w f = (w, ap (λ (x : Result Log BadLength). opening_text x (Ok tt)) f)

past_limits : (n : ℕ) → 65536 < n → within_limits n ≡ false
unfolding within_limits
past_limits n h = simp (le-ltb n 64 (omega arith), lt-ltb 65536 n h)

-- the first bytes of a buffer that is as long as the first such
pub first_bytes : (n : ℕ) (bytes : List ℕ) → length bytes ≡ 65537 → n ≤ 65537 → length (take n bytes) ≡ n
first_bytes n bytes e h = length-take-le n bytes (omega arith)

-- a length past the limits is as the first such
pub plays_any : (n m : ℕ) (given left held gained : Option (List ℕ)) → (n ≤ 65537 → m ≡ n) → (65537 ≤ n → m ≡ 65537)
    → PlaysLog m given left held gained → PlaysLog n given left held gained
plays_any n m given left held gained a b p = go (ltb 65537 n) refl
  where
    go : (t : Bool) → ltb 65537 n ≡ t → PlaysLog n given left held gained
    go true e =
        let over = ltb-true 65537 n e in
        let more : m ≡ 65537 = b (omega arith) in
        rw (past_limits n (omega arith)) (rw (past_limits m (omega arith)) at p)
    go false e = subst (λ (k : ℕ). PlaysLog k given left held gained) (a (ltb-false 65537 n e)) p
