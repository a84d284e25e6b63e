-- The share of a station after one slot more, not AA: who wins the wire begins its part, for all others it is the next share.
-- Assumes nothing.
use mathlib.Core.Path.{◌≡◌, refl, sym, ap, ◌∙◌}
use mathlib.Core.Bool.{Bool, true, false, cond, false≢true}
use mathlib.Core.List.{List, [], ◌∷◌, ◌++◌}
use Prim.Native.Nat.{ℕ}
use borrow.Author.Tests.{eqb-true}
use Rattle.wire.specs.declared.part.Telegram.{Telegram}
use Rattle.station.specs.declared.phase.Sound.{Sound}
use Rattle.station.specs.declared.phase.Sound.TheVariants.{Quiet, Symbol}
use Rattle.history.specs.Moments.{Moment, is_symbol}
use Rattle.history.specs.Share.{Share, reads, once, station, part_read, own_sent}
use Rattle.history.specs.Admission.{some, admitted_by}
use Rattle.history.specs.Observer.{owned_by, share_after}
use Rattle.history.specs.Observer as observer
use Rattle.history.proofs.Steps.{next, Goes, part_read_steps, own_steps}

-- the observer's word, for a slot
abbrev pub wins : ℕ → Bool → List (List Moment) → List Moment → Moment → Bool
wins a m earlier now x = observer.wins a m (record { earlier = earlier; now = now }) x.waits x.heard

-- before the first AA none is admitted
pub none_admitted : (a : ℕ) (m : Bool) → admitted_by a m [] ≡ false
unfolding admitted_by
none_admitted a true = refl
none_admitted a false = refl

owned_not : (adm : Bool) (a : ℕ) (ws : List Telegram) (h : Sound) (f : Telegram → Share) (o : Share)
    → cond (cond adm (some ws) false) (is_symbol a h) false ≡ false → owned_by adm a ws h f o ≡ o
owned_not adm a [] h f o e = refl
owned_not true a (t ∷ ts) h f o e = rw e
owned_not false a (t ∷ ts) h f o e = refl

module _ (x : Moment) where
  owned_steps : (adm : Bool) (a : ℕ) (ws : List Telegram) (h : Sound) {f g : Telegram → Share} {o p : Share} → ((t : Telegram) → Goes x (f t) (g t)) → Goes x o p
      → Goes x (owned_by adm a ws h f o) (owned_by adm a ws h g p)
  owned_steps adm a [] h k e = e
  owned_steps adm a (t ∷ ts) h {f} {g} {o} {p} k e = by (cond adm (is_symbol a h) false)
    where
      by : (r : Bool) → Goes x (cond r (f t) o) (cond r (g t) p)
      by true = k t
      by false = e

  pub share_next : (a : ℕ) (m : Bool) (earlier : List (List Moment)) (now : List Moment) → wins a m earlier now x ≡ false
      → share_after a m earlier (now ++ (x ∷ [])) ≡ next (share_after a m earlier now) x
  share_next a m [] now e = refl
  share_next a m (f ∷ fs) [] e = owned_not (admitted_by a m (f ∷ fs)) a x.waits x.heard (λ t. own_sent t (x ∷ [])) (part_read (station a m) (x ∷ [])) e ∙ (part_read_steps x (station a m) []).goes
  share_next a m (f ∷ fs) (y ∷ ms) e =
      (owned_steps (admitted_by a m (f ∷ fs)) a y.waits y.heard (λ t. own_steps x t (y ∷ ms)) (part_read_steps x (station a m) (y ∷ ms))).goes

  -- who wins the wire
  pub record Won (a : ℕ) (m : Bool) (earlier : List (List Moment)) (now : List Moment) : Type 0 where
    pub telegram : Telegram
    pub others : List Telegram
    pub waits : x.waits ≡ telegram ∷ others
    pub hears : x.heard ≡ Symbol a
    pub share : share_after a m earlier (now ++ (x ∷ [])) ≡ own_sent telegram (x ∷ [])

  own_heard : (a : ℕ) (h : Sound) → is_symbol a h ≡ true → h ≡ Symbol a
  own_heard a Quiet e = absurd (false≢true e)
  own_heard a (Symbol b) e = ap Symbol (sym (eqb-true a b e))

  pub share_won : (a : ℕ) (m : Bool) (earlier : List (List Moment)) (now : List Moment) → wins a m earlier now x ≡ true → Won a m earlier now
  share_won a m earlier (y ∷ ms) e = absurd (false≢true e)
  share_won a m [] [] e = absurd (false≢true (rw (none_admitted a m) at e))
  share_won a m (f ∷ fs) [] e = by (admitted_by a m (f ∷ fs)) x.waits refl refl e
    where
      by : (adm : Bool) (ws : List Telegram) → admitted_by a m (f ∷ fs) ≡ adm → x.waits ≡ ws → cond (cond adm (some ws) false) (is_symbol a x.heard) false ≡ true
          → Won a m (f ∷ fs) []
      by true [] i j e = absurd (false≢true e)
      by false ws i j e = absurd (false≢true e)
      by true (t ∷ ts) i j e = record { telegram = t; others = ts; waits = j; hears = own_heard a x.heard e; share = rw (i, j, e) }

-- who wins the wire read nothing yet
pub before_won : (x : Moment) (a : ℕ) (m : Bool) (earlier : List (List Moment)) (now : List Moment) → wins a m earlier now x ≡ true
    → share_after a m earlier now ≡ reads (station a m) once []
before_won x a m earlier (y ∷ ms) e = absurd (false≢true e)
before_won x a m [] [] e = absurd (false≢true (rw (none_admitted a m) at e))
before_won x a m (f ∷ fs) [] e = refl
