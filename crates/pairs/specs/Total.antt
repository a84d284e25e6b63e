-- All that a table and the counts beside it have counted, and that no count has stopped (02, E9). Assumes nothing.
use Rattle.std.specs.Prelude.{List, [], ◌∷◌, ℕ, ◌+◌, ◌<◌, take, get_or}
use Rattle.pairs.specs.declared.Counts.{Counts}
use Rattle.pairs.specs.declared.Pair.{Pair}
use Rattle.pairs.specs.declared.Tally.{Tally}
use Rattle.pairs.specs.Counts.{greatest}
use Rattle.pairs.specs.Table.{blank}

abbrev pub both : Tally → ℕ
both n = n.taken + n.failed

unfoldable pub sum_of : List Pair → ℕ
sum_of [] = 0
sum_of (p ∷ t) = both p.tally + sum_of t

-- the records in use and the others
unfoldable pub total : List Pair → Counts → ℕ
total t c = sum_of (take c.used t) + both c.others

abbrev pub CountsOn : Tally → Type 0
CountsOn n = (n.taken < greatest) × (n.failed < greatest)

pub record NoneStopped (t : List Pair) (c : Counts) : Type 0 where
  pub of_records : (i : ℕ) → i < c.used → CountsOn (get_or t i blank).tally
  pub of_others : CountsOn c.others
