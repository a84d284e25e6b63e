-- Worked runs on tables set near a limit: a count stops, the 64th pair has the last record, the 65th is among the others. Assumes nothing.
use mathlib.Core.Path.{◌≡◌, refl}
use mathlib.Core.Bool.{Bool, true, false}
use mathlib.Core.List.{List, [], ◌∷◌, ◌++◌}
use Prim.Native.Nat.{ℕ, zero, suc, ◌-◌}
use lib.ListN.{length, replicate}
use Rattle.std.specs.Prelude.{Some, Ok}
use Rattle.pairs.specs.declared.Pair.{Pair}
use Rattle.pairs.specs.declared.Tally.{Tally}
use Rattle.pairs.specs.Counts.{tally, counts, records, up, raise, in_use}
use Rattle.pairs.specs.Hear.{heard}
use Rattle.pairs.specs.Table.{pair, blank, is_of, find, place_in, raised, opened, noted, settled, Counting, counting, counts_after, counted_one, count_in}
use Rattle.pairs.specs.UnderWay.{nothing_known}

-- the table and its counts where these records are in use
abbrev held : List Pair → Tally → Counting
held ps others =
    counting (ps ++ replicate (records - length ps) blank) (Ok (counts (length ps) others nothing_known))

-- with a transfer from qq to 08
abbrev after : Counting → ℕ → Bool → Counting
after k qq taken =
    count_in k.table (heard (counts_after k.kept) nothing_known (Some (record { qq = qq; zz = 8; taken = taken })))

-- n pairs
abbrev many : ℕ → List Pair
many zero = []
many (suc n) = pair n 8 (tally 1 0) ∷ many n

-- a master's pair with 08
abbrev of10 : ℕ → ℕ → List Pair
of10 taken failed = pair 16 8 (tally taken failed) ∷ []

pub record Runs : Type 0 where
  -- a count at its last step, and at its stop
  pub taken_last : after (held (of10 4294967294 7) (tally 0 0)) 16 true ≡ held (of10 4294967295 7) (tally 0 0)
  pub taken_stays : after (held (of10 4294967295 7) (tally 0 0)) 16 true ≡ held (of10 4294967295 7) (tally 0 0)
  pub failed_last : after (held (of10 7 4294967294) (tally 0 0)) 16 false ≡ held (of10 7 4294967295) (tally 0 0)
  pub failed_stays : after (held (of10 7 4294967295) (tally 0 0)) 16 false ≡ held (of10 7 4294967295) (tally 0 0)
  -- the 64th pair, and the 65th
  pub last_record : after (held (many 63) (tally 0 0)) 200 true ≡ held (many 63 ++ (pair 200 8 (tally 1 0) ∷ [])) (tally 0 0)
  pub no_record : after (held (many 64) (tally 0 0)) 200 true ≡ held (many 64) (tally 1 0)
  -- the others' counts stop too
  pub others_last : after (held (many 64) (tally 4294967294 7)) 200 true ≡ held (many 64) (tally 4294967295 7)
  pub others_stay : after (held (many 64) (tally 4294967295 7)) 200 true ≡ held (many 64) (tally 4294967295 7)
  pub others_failed_last : after (held (many 64) (tally 7 4294967294)) 200 false ≡ held (many 64) (tally 7 4294967295)
  pub others_failed_stay : after (held (many 64) (tally 7 4294967295)) 200 false ≡ held (many 64) (tally 7 4294967295)

pub worked : Runs
unfolding count_in counted_one place_in find is_of noted raised opened settled in_use raise up
worked = record {
  taken_last = refl;
  taken_stays = refl;
  failed_last = refl;
  failed_stays = refl;
  last_record = refl;
  no_record = refl;
  others_last = refl;
  others_stay = refl;
  others_failed_last = refl;
  others_failed_stay = refl;
}
