-- A scenario followed with a log: noted are the slots that told somebody something, one after the other. Assumes nothing.
use mathlib.Core.Path.{◌≡◌, refl, sym, ◌∙◌}
use mathlib.Core.Bool.{Bool, true, false, cond, true≢false}
use mathlib.Core.List.{List, []}
use Prim.Native.Nat.{ℕ, zero, suc}
use Rattle.bus.specs.Bus.{powered_on}
use Rattle.bus.specs.declared.bus.Bus.{Bus}
use Rattle.walk.specs.Follow.{told_at, told_from, told_on}
use Rattle.walk.specs.Walk.{before, is_end, to_go, walked}
use Rattle.walk.specs.declared.walk.Moment.{Moment}
use Rattle.walk.specs.declared.walk.Moment.TheVariants.{Called, Told, Passed, Ended}
use Rattle.walk.specs.declared.walk.Place.{Place}
use Rattle.walk.specs.Walk.{Step}
use Rattle.buslog.specs.Ring.{Ring}
use Rattle.buslog.specs.Slots.{noted_slots}
use Rattle.diary.specs.Follow.{noted_at, followed_from, followed}

-- one moment, and then others
noted_told : (m : Moment) (b : Bus) (d : Ring) (rest : List Bus) → noted_slots (noted_at m b d) rest ≡ noted_slots d (told_at m b rest)
unfolding noted_slots
noted_told (Called v) b d rest = refl
noted_told Told b d rest = refl
noted_told Passed b d rest = refl
noted_told Ended b d rest = refl

-- the end notes nothing
noted_end : (m : Moment) (b : Bus) (d : Ring) → is_end m ≡ true → noted_at m b d ≡ d
noted_end (Called v) b d e = refl
noted_end Told b d e = absurd (true≢false (sym e))
noted_end Passed b d e = refl
noted_end Ended b d e = refl

follows_from : (k : ℕ) (b : Bus) (p : Place) (s : List ℕ) (d : Ring) → followed_from k b p s d ≡ noted_slots d (told_from k b p s)
unfolding followed_from told_from noted_slots
follows_from zero b p s d = refl
follows_from (suc k) b p s d = go (is_end n.moment) refl (follows_from k n.bus n.place s (noted_at n.moment n.bus d))
  where
    n : Step
    n = walked b p s false

    go : (t : Bool) → is_end n.moment ≡ t
        → followed_from k n.bus n.place s (noted_at n.moment n.bus d) ≡ noted_slots (noted_at n.moment n.bus d) (told_from k n.bus n.place s)
        → cond t (noted_at n.moment n.bus d) (followed_from k n.bus n.place s (noted_at n.moment n.bus d))
        ≡ noted_slots d (cond t [] (told_at n.moment n.bus (told_from k n.bus n.place s)))
    go true e h = noted_end n.moment n.bus d e
    go false e h = h ∙ noted_told n.moment n.bus d (told_from k n.bus n.place s)

pub follows_told : (s : List ℕ) (d : Ring) → followed d s ≡ noted_slots d (told_on powered_on (before 0) s)
unfolding followed told_on
follows_told s d = follows_from (suc (to_go (before 0) s)) powered_on (before 0) s d
