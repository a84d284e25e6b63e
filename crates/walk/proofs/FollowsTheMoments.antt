-- A scenario followed: heard is what told somebody something, of all its moments, one after the other. Assumes nothing.
use mathlib.Core.Path.{◌≡◌, refl, sym, ap, ◌∙◌}
use mathlib.Core.Bool.{true, false, cond, true≢false}
use mathlib.Core.List.{List, [], ◌∷◌}
use Prim.Native.Nat.{ℕ, zero, suc, ◌<◌}
use native.Mathlib.Omega.{arith}
use Rattle.bus.specs.Bus.{powered_on}
use Rattle.bus.specs.declared.bus.Bus.{Bus}
use Rattle.walk.specs.Field.{Bytes}
use Rattle.walk.specs.Follow.{followed, told_at, told_buses, told_from, told_on, heard_slots}
use Rattle.walk.specs.Form.{form_of}
use Rattle.walk.specs.Moments.{Now, moments, is_passed, without_ends, Gives, last, one}
use Rattle.walk.specs.Walk.{before, is_end, to_go}
use Rattle.std.specs.Prelude.{Ok}
use Rattle.walk.specs.declared.walk.Moment.{Moment}
use Rattle.walk.specs.declared.walk.Moment.TheVariants.{Called, Told, Passed, Ended}
use Rattle.walk.specs.declared.walk.Place.{Place}
use Rattle.walk.proofs.Given.{walk_gives_others}
use Rattle.walk.proofs.Going.{walked_nearer}
use Rattle.walk.proofs.Told.{follows_told}

-- the ends of fields tell nobody anything
without_told : (l : List Now) → told_buses (without_ends l) ≡ told_buses l
unfolding told_buses without_ends
without_told [] = refl
without_told (n ∷ l) = go n.moment refl (without_told l)
  where
    go : (m : Moment) → n.moment ≡ m → told_buses (without_ends l) ≡ told_buses l
        → told_buses (cond (is_passed m) (without_ends l) (n ∷ without_ends l)) ≡ told_at m n.bus (told_buses l)
    go (Called v) e h = simp e h
    go Told e h = simp e (ap (λ (v : List Bus). n.bus ∷ v) h)
    go Passed e h = h
    go Ended e h = simp e h

-- what the walk gives
told_given : (s : List ℕ) → Bytes s → (k : ℕ) {b : Bus} {p : Place} {l : List Now} → Gives false s b p l → to_go p s < k
    → told_from k b p s ≡ told_buses l
unfolding told_from told_buses
told_given s bytes zero w h = absurd (omega arith)
told_given s bytes (suc k) (last {n = n} e f) h = simp (e, f) (at_end n.moment f)
  where
    at_end : (m : Moment) → is_end m ≡ true → [] ≡ told_at m n.bus []
    at_end (Called v) f = refl
    at_end Told f = absurd (true≢false (sym f))
    at_end Passed f = refl
    at_end Ended f = refl
told_given s bytes (suc k) {b} {p} (one {n = n} {l = l} e f w) h =
    let near : to_go n.place s < to_go p s = rw e at (walked_nearer b p s false bytes (rw e f)) in
    simp (e, f) (ap (λ (v : List Bus). told_at n.moment n.bus v) (told_given s bytes k w (omega (arith, near))))

-- the slots that a listener hears are those of the scenario's moments
pub told_of_moments : (s : List ℕ) → Bytes s → form_of s ≡ Ok tt → told_on powered_on (before 0) s ≡ told_buses (moments s)
unfolding told_on
told_of_moments s bytes g =
    told_given s bytes (suc (to_go (before 0) s)) (walk_gives_others s bytes g) (omega arith) ∙ without_told (moments s)

pub follows_the_moments : {A : Type 0} (hear : A → Bus → A) (s : List ℕ) (a : A) → Bytes s → form_of s ≡ Ok tt
    → followed hear a s ≡ heard_slots hear a (told_buses (moments s))
follows_the_moments hear s a bytes g = follows_told hear s a ∙ ap (λ (v : List Bus). heard_slots hear a v) (told_of_moments s bytes g)
