-- The shares of a block as the code writes them, one at a time. Assumes nothing.
use mathlib.Core.Path.{◌≡◌}
use mathlib.Core.List.{List, [], ◌∷◌, ◌++◌}
use lib.Ieee.{Float}
use Rattle.std.proofs.Common.{append-nil, append_assoc, sym}
use Rattle.sheet.specs.Decimal.{float_text}
use Rattle.sheet.specs.Lines.{shares_text}

pub shares_snoc : (xs : List Float) (x : Float) → shares_text (xs ++ (x ∷ [])) ≡ shares_text xs ++ (32 ∷ float_text x)
unfolding shares_text
shares_snoc [] x = append-nil (32 ∷ float_text x)
shares_snoc (y ∷ ys) x = rw (shares_snoc ys x) (sym (append_assoc (32 ∷ float_text y) (shares_text ys) (32 ∷ float_text x)))
