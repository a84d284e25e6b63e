-- The lines of `display` say, field after field, whom a walk over all stations finds (02, E7). Assumes nothing.
use mathlib.Core.Path.{◌≡◌, refl, ◌∙◌}
use mathlib.Core.List.{List}
use Prim.Native.Nat.{ℕ}
use Rattle.laws.proofs.FirstIs.{Every, none, next}
use Rattle.walk.specs.Field.{Bytes}
use Rattle.walk.specs.Form.{form_of}
use Rattle.walk.specs.Moments.{Now, moments}
use Rattle.std.specs.Prelude.{Ok}
use Rattle.screen.specs.Output.{displayed}
use Rattle.screen.specs.ReadBack.{read_text, said_of}
use Rattle.screen.proofs.LinesReadBack.{lines_read_back}
use Rattle.promises.proofs.NextIsTheWalk.{next_is_the_walk}
use Rattle.printed.specs.ShownWalk.{walked_of}
use Rattle.printed.proofs.Reached.{Reached, moments_reached}

said_walked : {l : List Now} → Every Reached l → said_of l ≡ walked_of l
unfolding said_of walked_of
said_walked none = refl
said_walked (next r rs) = rw (next_is_the_walk r, said_walked rs)

-- for every scenario of good form
pub shown_is_the_walk : (s : List ℕ) → Bytes s → form_of s ≡ Ok tt → read_text (displayed s) ≡ walked_of (moments s)
shown_is_the_walk s bytes g = lines_read_back s g ∙ said_walked (moments_reached s bytes)
