-- Who may send its QQ after an AA, from what was heard before it (01, "Admission"). Assumes nothing.
use Rattle.std.specs.Prelude.{Bool, true, false, cond, List, [], ◌∷◌, ℕ, eqb, length}
use Rattle.address.specs.Half.{low_half}
use Rattle.wire.specs.declared.part.Telegram.{Telegram}
use Rattle.history.specs.Moments.{Moment, by_sound, symbols_in}

-- a telegram waits
abbrev pub some : List Telegram → Bool
some [] = false
some (t ∷ ts) = true

-- it sent its QQ in the first slot of a stretch, and heard another symbol, whose low half is its class
abbrev pub marks_in : ℕ → Bool → List Moment → Bool
marks_in a admitted [] = false
marks_in a admitted (m ∷ ms) =
    cond (cond admitted (some m.waits) false)
    (by_sound m.heard false (λ s. cond (eqb s a) false (eqb (low_half s) (low_half a)))) false

-- an AA admits all masters, unless exactly one symbol was heard since the AA before; then those that marked themselves.
-- The stretches before that AA, newest first; the first AA ever admits all
abbrev pub admits_all : ℕ → List (List Moment) → Bool
admits_all a [] = false
admits_all a (g ∷ []) = true
admits_all a (g ∷ f ∷ older) =
    cond (eqb (length (symbols_in g)) 1) (marks_in a (admits_all a (f ∷ older)) g) true

-- only masters are admitted
unfoldable pub admitted_by : ℕ → Bool → List (List Moment) → Bool
admitted_by a master earlier = cond master (admits_all a earlier) false
