-- A scenario followed with a log: noted is what told somebody something, of all its moments, one after the other. Assumes nothing.
use mathlib.Core.Path.{◌≡◌, refl, ap, ◌∙◌}
use mathlib.Core.List.{List, [], ◌∷◌}
use Prim.Native.Nat.{ℕ}
use Rattle.bus.specs.declared.bus.Bus.{Bus}
use Rattle.walk.specs.Field.{Bytes}
use Rattle.walk.specs.Follow as walk
use Rattle.walk.specs.Form.{form_of}
use Rattle.walk.specs.Moments.{Now, moments}
use Rattle.std.specs.Prelude.{Ok}
use Rattle.walk.specs.declared.walk.Moment.{Moment}
use Rattle.walk.specs.declared.walk.Moment.TheVariants.{Called, Told, Passed, Ended}
use Rattle.walk.proofs.FollowsTheMoments.{told_of_moments}
use Rattle.buslog.specs.Ring.{Ring}
use Rattle.buslog.specs.Slots.{noted_slots}
use Rattle.diary.specs.Follow.{followed, told_at, told_buses}
use Rattle.diary.proofs.Following.{follows_told}

-- the slots told, as the walk has them and as the log has them
same_told : (l : List Now) → walk.told_buses l ≡ told_buses l
unfolding walk.told_buses told_buses
same_told [] = refl
same_told (n ∷ l) = go n.moment (same_told l)
  where
    go : (m : Moment) → walk.told_buses l ≡ told_buses l → walk.told_at m n.bus (walk.told_buses l) ≡ told_at m n.bus (told_buses l)
    go (Called v) h = h
    go Told h = ap (λ (v : List Bus). n.bus ∷ v) h
    go Passed h = h
    go Ended h = h

pub follows_the_moments : (s : List ℕ) (d : Ring) → Bytes s → form_of s ≡ Ok tt → followed d s ≡ noted_slots d (told_buses (moments s))
follows_the_moments s d bytes g =
    follows_told s d ∙ ap (λ (v : List Bus). noted_slots d v) (told_of_moments s bytes g ∙ same_told (moments s))
