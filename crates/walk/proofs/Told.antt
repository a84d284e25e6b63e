-- The slots that told somebody something, one after the other. Assumes nothing.
use mathlib.Core.Path.{◌≡◌, refl, ap, ◌∙◌}
use mathlib.Core.Bool.{Bool, true, false, cond}
use mathlib.Core.List.{List, []}
use mathlib.Core.Logic.{◌⊎◌, inl, inr}
use Prim.Native.Nat.{ℕ, zero, suc, ◌<◌}
use native.Mathlib.Omega.{arith}
use Rattle.bus.specs.Bus.{powered_on}
use Rattle.bus.specs.declared.bus.Bus.{Bus}
use Rattle.std.specs.Prelude.{Result, ⊤}
use Rattle.bus.specs.declared.refusal.Refusal.{Refusal}
use Rattle.walk.specs.Field.{Bytes}
use Rattle.walk.specs.Follow.{heard_at, followed_from, followed, told_at, told_from, told_on, heard_slots}
use Rattle.walk.specs.Walk.{before, is_end, to_go, walked}
use Rattle.walk.specs.declared.walk.Moment.{Moment}
use Rattle.walk.specs.declared.walk.Moment.TheVariants.{Called, Told, Passed, Ended}
use Rattle.walk.specs.declared.walk.Place.{Place}
use Rattle.walk.specs.Walk.{Step}
use Rattle.walk.proofs.Going.{walked_nearer}

-- more turns than enough give the same
same_told : (k j : ℕ) (b : Bus) (p : Place) (s : List ℕ) → Bytes s → to_go p s < k → to_go p s < j → told_from k b p s ≡ told_from j b p s
unfolding told_from
same_told zero j b p s bytes l m = absurd (omega arith)
same_told (suc k) zero b p s bytes l m = absurd (omega arith)
same_told (suc k) (suc j) b p s bytes l m =
    go (is_end n.moment) refl (same_told k j n.bus n.place s bytes)
  where
    n : Step
    n = walked b p s false

    go : (t : Bool) → is_end n.moment ≡ t
        → (to_go n.place s < k → to_go n.place s < j → told_from k n.bus n.place s ≡ told_from j n.bus n.place s)
        → cond t [] (told_at n.moment n.bus (told_from k n.bus n.place s)) ≡ cond t [] (told_at n.moment n.bus (told_from j n.bus n.place s))
    go true e h = refl
    go false e h =
        let near : to_go n.place s < to_go p s = walked_nearer b p s false bytes e in
        ap (λ (l : List Bus). told_at n.moment n.bus l) (h (omega arith) (omega arith))

-- the scenario is over
pub told_end : (b : Bus) (p : Place) (s : List ℕ) {n : Step} → walked b p s false ≡ n → is_end n.moment ≡ true → told_on b p s ≡ []
unfolding told_on told_from
told_end b p s e f = simp (e, f)

-- a moment more
pub told_next : (b : Bus) (p : Place) (s : List ℕ) {n : Step} → Bytes s → walked b p s false ≡ n → is_end n.moment ≡ false
    → told_on b p s ≡ told_at n.moment n.bus (told_on n.bus n.place s)
unfolding told_on told_from
told_next b p s {n} bytes e f =
    let near : to_go n.place s < to_go p s = rw e at (walked_nearer b p s false bytes (rw e f)) in
    simp (e, f) (ap (λ (l : List Bus). told_at n.moment n.bus l) (same_told (to_go p s) (suc (to_go n.place s)) n.bus n.place s bytes near (omega arith)))

-- a moment that tells nobody anything and is not the end
pub record Passes (m : Moment) : Type 0 where
  pub goes_on : is_end m ≡ false
  pub tells_nobody : (b : Bus) (rest : List Bus) → told_at m b rest ≡ rest

pub passes : (m : Moment) → ((v : Result ⊤ Refusal) × (m ≡ Called v)) ⊎ (m ≡ Passed) → Passes m
passes m (inl (v, e)) = rw e (record { goes_on = refl; tells_nobody = λ b rest. refl })
passes m (inr e) = rw e (record { goes_on = refl; tells_nobody = λ b rest. refl })

-- whoever follows a scenario hears them
module _ {A : Type 0} (hear : A → Bus → A) where
  heard_told : (m : Moment) (b : Bus) (a : A) (rest : List Bus) → heard_slots hear (heard_at hear m b a) rest ≡ heard_slots hear a (told_at m b rest)
  unfolding heard_slots
  heard_told (Called v) b a rest = refl
  heard_told Told b a rest = refl
  heard_told Passed b a rest = refl
  heard_told Ended b a rest = refl

  follows_from : (k : ℕ) (b : Bus) (p : Place) (s : List ℕ) (a : A) → followed_from hear k b p s a ≡ heard_slots hear a (told_from k b p s)
  unfolding followed_from told_from heard_slots
  follows_from zero b p s a = refl
  follows_from (suc k) b p s a = go (is_end n.moment) refl (follows_from k n.bus n.place s (heard_at hear n.moment n.bus a))
    where
      n : Step
      n = walked b p s false

      ended : (m : Moment) → is_end m ≡ true → heard_at hear m n.bus a ≡ a
      ended (Called v) e = refl
      ended Told e = let z : ◌≡◌ {A = ℕ} 0 1 = cc in absurd (omega arith)
      ended Passed e = refl
      ended Ended e = refl

      go : (t : Bool) → is_end n.moment ≡ t
          → followed_from hear k n.bus n.place s (heard_at hear n.moment n.bus a) ≡ heard_slots hear (heard_at hear n.moment n.bus a) (told_from k n.bus n.place s)
          → cond t (heard_at hear n.moment n.bus a) (followed_from hear k n.bus n.place s (heard_at hear n.moment n.bus a))
          ≡ heard_slots hear a (cond t [] (told_at n.moment n.bus (told_from k n.bus n.place s)))
      go true e h = ended n.moment e
      go false e h = h ∙ heard_told n.moment n.bus a (told_from k n.bus n.place s)

  pub follows_told : (s : List ℕ) (a : A) → followed hear a s ≡ heard_slots hear a (told_on powered_on (before 0) s)
  unfolding followed told_on
  follows_told s a = follows_from (suc (to_go (before 0) s)) powered_on (before 0) s a
