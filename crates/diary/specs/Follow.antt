-- A scenario followed with a log: what each of its slots told is noted. Assumes nothing.
use Rattle.std.specs.Prelude.{false, cond, List, [], ◌∷◌, ℕ, zero, suc}
use Rattle.bus.specs.Bus.{powered_on}
use Rattle.bus.specs.declared.bus.Bus.{Bus}
use Rattle.walk.specs.Moments.{Now}
use Rattle.walk.specs.Walk.{before, is_end, to_go, walked}
use Rattle.walk.specs.declared.walk.Moment.{Moment}
use Rattle.walk.specs.declared.walk.Moment.TheVariants.{Called, Told, Passed, Ended}
use Rattle.walk.specs.declared.walk.Place.{Place}
use Rattle.buslog.specs.Note.{note_in}
use Rattle.buslog.specs.Ring.{Ring}

-- a slot that told somebody something is noted; no other moment is
abbrev pub noted_at : Moment → Bus → Ring → Ring
noted_at (Called v) b d = d
noted_at Told b d = (note_in d b).ring
noted_at Passed b d = d
noted_at Ended b d = d

-- moment after moment to the scenario's end
unfoldable pub followed_from : ℕ → Bus → Place → List ℕ → Ring → Ring
followed_from zero b p s d = d
followed_from (suc k) b p s d =
    let n = walked b p s false in
    let more = noted_at n.moment n.bus d in
    let further = followed_from k n.bus n.place s more in
    cond (is_end n.moment) more further

-- from a place on
abbrev pub followed_on : Bus → Place → List ℕ → Ring → Ring
followed_on b p s d = followed_from (suc (to_go p s)) b p s d

-- from power-on
unfoldable pub followed : Ring → List ℕ → Ring
followed d s = followed_on powered_on (before 0) s d

-- the buses of the moments at which a slot told somebody something
abbrev pub told_at : Moment → Bus → List Bus → List Bus
told_at (Called v) b rest = rest
told_at Told b rest = b ∷ rest
told_at Passed b rest = rest
told_at Ended b rest = rest

unfoldable pub told_buses : List Now → List Bus
told_buses [] = []
told_buses (n ∷ ns) = told_at n.moment n.bus (told_buses ns)
