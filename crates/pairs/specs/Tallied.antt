-- A table and the counts beside it hold what a recount of these transfers gives (02, E9). Assumes nothing.
use Rattle.std.specs.Prelude.{◌≡◌, List, length, take}
use Rattle.pairs.specs.declared.Counts.{Counts}
use Rattle.pairs.specs.declared.Pair.{Pair}
use Rattle.pairs.specs.declared.Transfer.{Transfer}
use Rattle.pairs.specs.Counts.{records}
use Rattle.pairs.specs.Recount.{recorded, records_of, others_of}

pub record Tallied (t : List Pair) (c : Counts) (xs : List Transfer) : Type 0 where
  pub whole : length t ≡ records
  pub used : c.used ≡ length (recorded xs)
  pub recs : take c.used t ≡ records_of xs
  pub others : c.others ≡ others_of xs
