-- A scenario followed with a table: counted is what told somebody something, of all its moments, one after the other. Assumes nothing.
use mathlib.Core.Path.{◌≡◌}
use mathlib.Core.List.{List}
use Prim.Native.Nat.{ℕ}
use Rattle.walk.specs.Field.{Bytes}
use Rattle.walk.specs.Form.{form_of}
use Rattle.std.specs.Prelude.{Ok}
use Rattle.walk.proofs.FollowsTheMoments as walk
use Rattle.tally.specs.Follow.{unused, counted_in, followed, counted_of}

pub follows_the_moments : (s : List ℕ) → Bytes s → form_of s ≡ Ok tt → followed s ≡ counted_of s
unfolding followed
follows_the_moments s bytes g = walk.follows_the_moments counted_in s unused bytes g
