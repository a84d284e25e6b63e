-- What an NN above 16 makes of a station's share (02, E3): a reader has none from then on, first reading or repeat, and the owner that
-- reads an answer releases. Assumes nothing.
use mathlib.Core.Path.{◌≡◌, refl, sym, ap, subst, ◌∙◌}
use mathlib.Core.Bool.{Bool, true, false, cond}
use mathlib.Core.List.{List, [], ◌∷◌, ◌++◌, append_assoc, append-nil}
use Prim.Native.Nat.{ℕ, ◌<◌}
use native.Mathlib.Omega.{arith}
use borrow.Author.Tests.{lt-leb, ne_eqb}
use lib.Dec.{eqb}
use lib.ListN.{length, take, drop, length-take}
use Rattle.laws.proofs.FirstIs.{Every, next}
use Rattle.address.specs.Master.{is_master}
use Rattle.wire.specs.Form.{covered, form, bytes_of, telegram_form}
use Rattle.wire.specs.declared.part.Part.TheVariants.{MasterPart, AnswerPart}
use Rattle.wire.specs.declared.part.Telegram.{Telegram}
use Rattle.wire.specs.declared.reader.Outcome.{Outcome}
use Rattle.wire.specs.declared.reader.Outcome.TheVariants.{More, NoMaster, Unusable, TooLong}
use Rattle.wire.proofs.SymbolKind.{clash}
use Rattle.station.specs.declared.phase.Sound.{Sound}
use Rattle.station.specs.declared.phase.Sound.TheVariants.{Quiet, Symbol}
use Rattle.history.specs.Moments.{Moment, by_sound, is_symbol, symbols_in}
use Rattle.history.specs.Verdict.{by_master, any_escape, verdict}
use Rattle.history.specs.Share.{Time, once, Sender, owner, station, asker, Share, over, releases, reads, reads_on, sent, if_more, read, read_so_far, read_ended, read_again, part_read, own_sent}
use Rattle.history.specs.Admission.{admitted_by}
use Rattle.history.specs.Observer.{owned_by, share_after}
use Rattle.history.proofs.FullNow.{Full, FullIn}
use Rattle.history.proofs.Shares.{wins, share_next, before_won}
use Rattle.history.proofs.Steps.{next as nextShare, rereads}

-- ---- what the symbols up to NN come to

-- nothing
data Vain : Outcome → Type 0 where
  no_master : Vain NoMaster
  unusable : Vain Unusable
  too_long : Vain TooLong

-- before NN they go on or come to nothing
data Early : Outcome → Type 0 where
  goes_on : Early More
  in_vain : {v : Outcome} → Vain v → Early v

head_early : (m e : Bool) → Early (cond m (cond e Unusable More) NoMaster)
head_early true true = in_vain unusable
head_early true false = goes_on
head_early false e = in_vain no_master

head_vain : (m e : Bool) → Vain (cond m (cond e Unusable TooLong) NoMaster)
head_vain true true = unusable
head_vain true false = too_long
head_vain false e = no_master

head_read : (xs : List ℕ) → drop 4 xs ≡ [] → Early (verdict MasterPart xs)
unfolding verdict
head_read xs e = rw e (head_early (by_master xs) (any_escape (take 3 (drop 1 xs))))

nn_vain : (q z p s : ℕ) {n : ℕ} → 16 < n → Vain (verdict MasterPart (q ∷ z ∷ p ∷ s ∷ n ∷ []))
unfolding verdict
nn_vain q z p s {n} l = rw (lt-leb n 16 l) (head_vain (is_master q) (any_escape (z ∷ p ∷ s ∷ [])))

pub answer_too_long : {n : ℕ} → 16 < n → verdict AnswerPart (n ∷ []) ≡ TooLong
unfolding verdict
answer_too_long {n} l = rw (lt-leb n 16 l)

-- ---- a station that reads

module _ (a : ℕ) (m : Bool) (t : Time) (k : List Moment → Share) where
  in_silence : (q : Bool) → cond q over over ≡ over
  in_silence true = refl
  in_silence false = refl

  -- an end in vain is the end
  vain_ends : {v : Outcome} → Vain v → (on : Share) (xs : List ℕ) (ms : List Moment) → if_more v on (read_ended (station a m) t k v xs ms) ≡ over
  vain_ends no_master on xs ms = in_silence (reads_on (station a m) xs)
  vain_ends unusable on xs ms = in_silence (reads_on (station a m) xs)
  vain_ends too_long on xs ms = in_silence (reads_on (station a m) xs)

  early_on : {v : Outcome} → Early v → (on : Share) (xs : List ℕ) (ms : List Moment) → on ≡ over → if_more v on (read_ended (station a m) t k v xs ms) ≡ over
  early_on goes_on on xs ms e = e
  early_on (in_vain w) on xs ms e = vain_ends w on xs ms

  abbrev from : List ℕ → List Moment → Share
  from xs ms = read MasterPart (read_so_far (station a m) t) (read_ended (station a m) t k) xs ms

  abbrev after : List ℕ → List Moment → Share
  after ys ms = if_more (verdict MasterPart ys) (from ys ms) (read_ended (station a m) t k (verdict MasterPart ys) ys ms)

  -- quiet is skipped up to the next symbol
  next_symbol : (xs : List ℕ) (ms : List Moment) {b : ℕ} {rest : List ℕ} → symbols_in ms ≡ b ∷ rest
      → ((ns : List Moment) → symbols_in ns ≡ rest → after (xs ++ (b ∷ [])) ns ≡ over) → from xs ms ≡ over
  next_symbol xs [] e f = clash (cc)
  next_symbol xs (x ∷ ms) {b} {rest} e f = by x.heard (λ j. next_symbol xs ms j f) e
    where
      by : (h : Sound) → (symbols_in ms ≡ b ∷ rest → from xs ms ≡ over) → by_sound h (symbols_in ms) (λ s. s ∷ symbols_in ms) ≡ b ∷ rest
          → by_sound h (from xs ms) (λ s. after (xs ++ (s ∷ [])) ms) ≡ over
      by Quiet on e = on e
      by (Symbol s) on e =
          let i : s ≡ b = cc in
          let j : symbols_in ms ≡ rest = cc in
          subst (λ (c : ℕ). after (xs ++ (c ∷ [])) ms ≡ over) (sym i) (f ms j)

  -- before NN
  on_over : (ys : List ℕ) (ms : List Moment) → drop 4 ys ≡ [] → from ys ms ≡ over → after ys ms ≡ over
  on_over ys ms d e = early_on (head_read ys d) (from ys ms) ys ms e

  -- the fifth symbol is above 16
  read_long : {q z p s n : ℕ} {rest : List ℕ} (ms : List Moment) → symbols_in ms ≡ q ∷ z ∷ p ∷ s ∷ n ∷ rest → 16 < n → from [] ms ≡ over
  read_long {q} {z} {p} {s} {n} ms e l =
      next_symbol [] ms e (λ m₁ e₁. on_over (q ∷ []) m₁ refl
      (next_symbol (q ∷ []) m₁ e₁ (λ m₂ e₂. on_over (q ∷ z ∷ []) m₂ refl
      (next_symbol (q ∷ z ∷ []) m₂ e₂ (λ m₃ e₃. on_over (q ∷ z ∷ p ∷ []) m₃ refl
      (next_symbol (q ∷ z ∷ p ∷ []) m₃ e₃ (λ m₄ e₄. on_over (q ∷ z ∷ p ∷ s ∷ []) m₄ refl
      (next_symbol (q ∷ z ∷ p ∷ s ∷ []) m₄ e₄ (λ m₅ e₅.
      vain_ends (nn_vain q z p s l) (from (q ∷ z ∷ p ∷ s ∷ n ∷ []) m₅) (q ∷ z ∷ p ∷ s ∷ n ∷ []) m₅)))))))))

-- ---- an owner that sends: its own NN is at most 16, so it heard another symbol there

data Differs : List ℕ → List ℕ → Type 0 where
  here : {x y : ℕ} {xs ys : List ℕ} → (x ≡ y → ⊥) → Differs (x ∷ xs) (y ∷ ys)
  there : {x y : ℕ} {xs ys : List ℕ} → Differs xs ys → Differs (x ∷ xs) (y ∷ ys)

sent_other : (s : Sender) (t : Time) (k : List Moment → Share) {ys bs : List ℕ} → Differs ys bs → (ms : List Moment) → symbols_in ms ≡ bs
    → sent s t ys k ms ≡ over
sent_other s t k (here d) [] e = clash (cc)
sent_other s t k (there d) [] e = clash (cc)
sent_other s t k (here {x = y} {y = b} {xs = ys} {ys = bs} d) (x ∷ ms) e = by x.heard e
  where
    by : (h : Sound) → by_sound h (symbols_in ms) (λ c. c ∷ symbols_in ms) ≡ b ∷ bs → cond (is_symbol y h) (sent s t ys k ms) over ≡ over
    by Quiet e = refl
    by (Symbol c) e = let i : c ≡ b = cc in rw (i, ne_eqb y b d)
sent_other s t k (there {x = y} {y = b} {xs = ys} {ys = bs} d) (x ∷ ms) e = by x.heard (λ j. sent_other s t k d ms j) e
  where
    by : (h : Sound) → (symbols_in ms ≡ bs → sent s t ys k ms ≡ over) → by_sound h (symbols_in ms) (λ c. c ∷ symbols_in ms) ≡ b ∷ bs
        → cond (is_symbol y h) (sent s t ys k ms) over ≡ over
    by Quiet on e = refl
    by (Symbol c) on e = heard_it (eqb y c)
      where
        heard_it : (q : Bool) → cond q (sent s t ys k ms) over ≡ over
        heard_it true = let j : symbols_in ms ≡ bs = cc in on j
        heard_it false = refl

own_other : (t : Telegram) → Full t → {q z p s n : ℕ} {rest : List ℕ} → 16 < n → Differs (telegram_form t) (q ∷ z ∷ p ∷ s ∷ n ∷ rest)
unfolding telegram_form form covered
own_other t f {n = n} l =
    there (there (there (there (here (λ e.
    let i : length (bytes_of t.load) ≡ n = e in
    omega (arith, length-take t.load.nn t.load.bytes, f))))))

-- ---- every station

module _ (a : ℕ) (m : Bool) where
  -- the fifth symbol since the last AA is above 16
  pub long_over : (earlier : List (List Moment)) (now : List Moment) → Every FullIn now
      → {q z p s n : ℕ} {rest : List ℕ} → symbols_in now ≡ q ∷ z ∷ p ∷ s ∷ n ∷ rest → 16 < n → share_after a m earlier now ≡ over
  long_over [] now w e l = refl
  long_over (g ∷ gs) [] w e l = clash (cc)
  long_over (g ∷ gs) (x ∷ ms) (next f w) e l = by (admitted_by a m (g ∷ gs)) x.waits f
    where
      reader : part_read (station a m) (x ∷ ms) ≡ over
      reader = read_long a m once (read_again (station a m)) (x ∷ ms) e l

      by : (adm : Bool) (ws : List Telegram) → Every Full ws → owned_by adm a ws x.heard (λ t. own_sent t (x ∷ ms)) (part_read (station a m) (x ∷ ms)) ≡ over
      by adm [] f = reader
      by adm (t ∷ ts) (next f _) = either (cond adm (is_symbol a x.heard) false)
        where
          either : (q : Bool) → cond q (own_sent t (x ∷ ms)) (part_read (station a m) (x ∷ ms)) ≡ over
          either true = sent_other (owner t) once _ (own_other t f l) (x ∷ ms) e
          either false = reader

  module _ (earlier : List (List Moment)) where
    -- who has no share gets none before the next AA
    one_over : (ms : List Moment) (x : Moment) → share_after a m earlier ms ≡ over → share_after a m earlier (ms ++ (x ∷ [])) ≡ over
    one_over ms x e = by (wins a m earlier ms x) refl
      where
        by : (q : Bool) → wins a m earlier ms x ≡ q → share_after a m earlier (ms ++ (x ∷ [])) ≡ over
        by true i = let f = before_won x a m earlier ms i in clash (cc)
        by false i = share_next x a m earlier ms i ∙ ap (λ u. nextShare u x) e

    stays_over : (ms ns : List Moment) → share_after a m earlier ms ≡ over → share_after a m earlier (ms ++ ns) ≡ over
    stays_over ms [] e = rw (append-nil ms) e
    stays_over ms (x ∷ ns) e = subst (λ us. share_after a m earlier us ≡ over) (append_assoc ms (x ∷ []) ns) (stays_over (ms ++ (x ∷ [])) ns (one_over ms x e))

    -- NN of the part that it reads, first time or again, is above 16
    pub part_over : (ms ns : List Moment) (x : Moment) {b : ℕ} {c : Bool} {t : Time} {q z p s n : ℕ}
        → share_after a m earlier ms ≡ reads (station b c) t (q ∷ z ∷ p ∷ s ∷ []) → x.heard ≡ Symbol n → 16 < n
        → share_after a m earlier (ms ++ (x ∷ ns)) ≡ over
    part_over ms ns x {b} {c} {t} {q} {z} {p} {s} {n} e h l =
        subst (λ us. share_after a m earlier us ≡ over) (append_assoc ms (x ∷ []) ns) (stays_over (ms ++ (x ∷ [])) ns (by (wins a m earlier ms x) refl))
      where
        by : (w : Bool) → wins a m earlier ms x ≡ w → share_after a m earlier (ms ++ (x ∷ [])) ≡ over
        by true i = let f = before_won x a m earlier ms i in clash (cc)
        by false i =
            share_next x a m earlier ms i ∙ ap (λ u. nextShare u x) e
            ∙ rw h (vain_ends b c t (rereads (station b c) t) (nn_vain q z p s l) (read_so_far (station b c) t (q ∷ z ∷ p ∷ s ∷ n ∷ [])) (q ∷ z ∷ p ∷ s ∷ n ∷ []) [])

    -- NN of the answer that it reads, first time or again, is above 16
    pub answer_releases : (ms : List Moment) (x : Moment) {u : Telegram} {t : Time} {n : ℕ}
        → share_after a m earlier ms ≡ reads (asker u) t [] → x.heard ≡ Symbol n → 16 < n → share_after a m earlier (ms ++ (x ∷ [])) ≡ releases
    answer_releases ms x {u} {t} {n} e h l = by (wins a m earlier ms x) refl
      where
        by : (w : Bool) → wins a m earlier ms x ≡ w → share_after a m earlier (ms ++ (x ∷ [])) ≡ releases
        by true i = let f = before_won x a m earlier ms i in clash (cc)
        by false i = share_next x a m earlier ms i ∙ ap (λ v. nextShare v x) e ∙ rw (h, answer_too_long l)
