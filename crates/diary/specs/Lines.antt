-- The held records as lines: every byte in two hex digits, with a blank between (02, E1). Assumes nothing.
use Rattle.std.specs.Prelude.{List, [], ◌∷◌, ◌++◌, ℕ, zero, suc, ◌+◌, ◌*◌, ◌/◌, length, get_or, take, drop}
use Rattle.laws.specs.AtMost.{at_most}
use Rattle.scenario.specs.Lines.{newline, hexes_text}
use Rattle.scenario.specs.Pen.{hex_digit}

-- a byte in two digits
unfoldable pub digits_text : ℕ → List ℕ
digits_text b = hex_digit (b / 16) ∷ hex_digit b ∷ []

-- a record's bytes, and a line feed
unfoldable pub record_line : List ℕ → List ℕ
record_line [] = newline
record_line (b ∷ bs) = digits_text b ++ hexes_text bs ++ newline

-- how many bytes the first record has: tag, two bytes of length and as many as they say, but never more than there are
unfoldable pub size_of : List ℕ → ℕ
size_of bs = at_most (3 + 256 * get_or bs 1 0 + get_or bs 2 0) (length bs)

-- one record after the other
unfoldable pub lines_from : ℕ → List ℕ → List ℕ
lines_from zero bs = []
lines_from (suc k) [] = []
lines_from (suc k) (b ∷ bs) =
    let size = size_of (b ∷ bs) in
    record_line (take size (b ∷ bs)) ++ lines_from k (drop size (b ∷ bs))

-- a record has a byte at least
unfoldable pub lines_text : List ℕ → List ℕ
lines_text bs = lines_from (length bs) bs
