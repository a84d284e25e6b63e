-- What the display's lines are to say, by a walk over all stations when each field is over (02, E7): nothing of bits. Assumes nothing.
use Rattle.std.specs.Prelude.{cond, List, [], ◌∷◌}
use Rattle.walk.specs.Moments.{Now, is_passed}
use Rattle.screen.specs.ReadBack.{Said, said}
use Rattle.promises.specs.Next.{walk_over}

unfoldable pub walked_of : List Now → List Said
walked_of [] = []
walked_of (n ∷ ns) = let rest = walked_of ns in cond (is_passed n.moment) (said n.bus.slot (walk_over n.bus) ∷ rest) rest
