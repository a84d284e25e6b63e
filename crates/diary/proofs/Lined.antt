-- A record's line as the code writes it. Assumes nothing.
use mathlib.Core.Path.{◌≡◌, refl}
use mathlib.Core.List.{List, [], ◌∷◌, ◌++◌}
use Prim.Native.Nat.{ℕ, ◌-◌, ◌≤◌, ◌<◌}
use native.Mathlib.Omega.{arith}
use lib.ListN.{length, get_or, take, drop}
use lib.Seq.{take_all}
use Rattle.scenario.specs.Pen.{byte_text}
use Rattle.scenario.specs.Lines.{newline, hexes_text}
use Rattle.diary.specs.Lines.{digits_text, record_line}

-- the first byte, the others, a line feed
pub some_line : (rec : List ℕ) → 0 < length rec
    → record_line rec ≡ byte_text (get_or rec 0 0) ++ hexes_text (take (length rec - 1) (drop 1 rec)) ++ newline
unfolding record_line digits_text
some_line [] h = absurd (omega arith)
some_line (b ∷ bs) h =
    let others : length (b ∷ bs) - 1 ≡ length bs = omega arith in
    rw (others, take_all (length bs) bs (omega arith))

pub no_line : (rec : List ℕ) → length rec ≤ 0 → record_line rec ≡ newline
unfolding record_line
no_line [] h = refl
no_line (b ∷ bs) h = absurd (omega arith)
