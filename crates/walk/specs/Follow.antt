-- A scenario followed by somebody who listens: what each of its slots told changes what is kept. Assumes nothing.
use Rattle.std.specs.Prelude.{false, cond, List, [], ◌∷◌, ℕ, zero, suc}
use Rattle.bus.specs.Bus.{powered_on}
use Rattle.bus.specs.declared.bus.Bus.{Bus}
use Rattle.walk.specs.Moments.{Now}
use Rattle.walk.specs.Walk.{before, is_end, to_go, walked}
use Rattle.walk.specs.declared.follow.Listening.{Listening}
use Rattle.walk.specs.declared.walk.Moment.{Moment}
use Rattle.walk.specs.declared.walk.Moment.TheVariants.{Called, Told, Passed, Ended}
use Rattle.walk.specs.declared.walk.Place.{Place}

-- a slot that told somebody something is heard; no other moment is
abbrev pub heard_at : {A : Type 0} → (A → Bus → A) → Moment → Bus → A → A
heard_at hear (Called v) b a = a
heard_at hear Told b a = hear a b
heard_at hear Passed b a = a
heard_at hear Ended b a = a

-- moment after moment to the scenario's end
unfoldable pub followed_from : {A : Type 0} → (A → Bus → A) → ℕ → Bus → Place → List ℕ → A → A
followed_from hear zero b p s a = a
followed_from hear (suc k) b p s a =
    let n = walked b p s false in
    let more = heard_at hear n.moment n.bus a in
    let further = followed_from hear k n.bus n.place s more in
    cond (is_end n.moment) more further

-- from power-on
unfoldable pub followed : {A : Type 0} → (A → Bus → A) → A → List ℕ → A
followed hear a s = followed_from hear (suc (to_go (before 0) s)) powered_on (before 0) s a

-- ---- the same by the moments

-- the buses of the moments at which a slot told somebody something
abbrev pub told_at : Moment → Bus → List Bus → List Bus
told_at (Called v) b rest = rest
told_at Told b rest = b ∷ rest
told_at Passed b rest = rest
told_at Ended b rest = rest

unfoldable pub told_buses : List Now → List Bus
told_buses [] = []
told_buses (n ∷ ns) = told_at n.moment n.bus (told_buses ns)

-- the same from a place on, to the scenario's end
unfoldable pub told_from : ℕ → Bus → Place → List ℕ → List Bus
told_from zero b p s = []
told_from (suc k) b p s =
    let n = walked b p s false in
    let rest = told_from k n.bus n.place s in
    cond (is_end n.moment) [] (told_at n.moment n.bus rest)

unfoldable pub told_on : Bus → Place → List ℕ → List Bus
told_on b p s = told_from (suc (to_go p s)) b p s

-- what an iterator over them has still to give
abbrev pub told_left : Listening → List Bus
told_left t = told_on t.bus t.place t.s.now

-- some slots, one after the other
unfoldable pub heard_slots : {A : Type 0} → (A → Bus → A) → A → List Bus → A
heard_slots hear a [] = a
heard_slots hear a (b ∷ bs) = heard_slots hear (hear a b) bs
