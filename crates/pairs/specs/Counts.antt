-- What is kept beside the table, and a count (02, E9). Assumes nothing.
use Rattle.std.specs.Prelude.{Bool, cond, ℕ, ◌+◌}
use Rattle.laws.specs.AtMost.{at_most}
use Rattle.pairs.specs.declared.Counts.{Counts}
use Rattle.pairs.specs.declared.Tally.{Tally}
use Rattle.pairs.specs.declared.UnderWay.{UnderWay}
use Rattle.pairs.specs.UnderWay.{nothing_known}

abbrev pub tally : ℕ → ℕ → Tally
tally taken failed = record { taken = taken; failed = failed }

abbrev pub counts : ℕ → Tally → UnderWay → Counts
counts used others u = record { used = used; others = others; current = u }

-- a table of 64 records
abbrev pub records : ℕ
records = 64

-- a count stops at 4,294,967,295
abbrev pub greatest : ℕ
greatest = 4294967295

unfoldable pub up : ℕ → ℕ
up n = at_most (n + 1) greatest

-- one transfer more, taken or failed
unfoldable pub raise : Tally → Bool → Tally
raise t taken = cond taken (tally (up t.taken) t.failed) (tally t.taken (up t.failed))

-- how many records are in use: never more than there are
unfoldable pub in_use : Counts → ℕ
in_use c = at_most c.used records

-- no record in use, no transfer counted
unfoldable pub uncounted : UnderWay → Counts
uncounted u = counts 0 (tally 0 0) u

-- nothing is known
unfoldable pub fresh : Counts
fresh = uncounted nothing_known

-- all counts are cleared; what is known of the transfer under way stays
unfoldable pub cleared : Counts → Counts
cleared c = uncounted c.current
