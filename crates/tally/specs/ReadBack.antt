-- The lines of `counts` read back, for the law that each gives its pair and its counts. Assumes nothing.
use Rattle.std.specs.Prelude.{cond, List, [], ◌∷◌, ℕ, ◌+◌, ◌*◌, ltb, take, drop}
use Rattle.pairs.specs.Counts.{tally}
use Rattle.pairs.specs.Table.{pair}
use Rattle.pairs.specs.declared.Pair.{Pair}
use Rattle.pairs.specs.declared.Tally.{Tally}
use Rattle.scenario.specs.ReadBack.{decimal_digit, read_byte}

-- a number, and what stands behind its digits
pub record Number : Type 0 where
  pub value : ℕ
  pub behind : List ℕ

abbrev pub number : ℕ → List ℕ → Number
number n t = record { value = n; behind = t }

-- digit after digit behind what is read so far, up to what is none
unfoldable pub number_from : ℕ → List ℕ → Number
number_from n [] = number n []
number_from n (c ∷ cs) =
    let more = number_from (n * 10 + decimal_digit c) cs in
    cond (ltb (decimal_digit c) 10) more (number n (c ∷ cs))

-- a number behind ` taken `, and one behind ` failed `
unfoldable pub read_tally : List ℕ → Tally
read_tally t =
    let taken = number_from 0 (drop 7 t) in
    tally taken.value (number_from 0 (drop 8 taken.behind)).value

-- two hex digits, a space and two more, both counts
unfoldable pub read_pair : List ℕ → Pair
read_pair l = pair (read_byte (32 ∷ take 2 l)) (read_byte (take 3 (drop 2 l))) (read_tally (drop 5 l))

-- both counts behind `others`
unfoldable pub read_others : List ℕ → Tally
read_others l = read_tally (drop 6 l)
