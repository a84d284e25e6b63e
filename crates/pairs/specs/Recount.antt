-- A recount of transfers by pair: nothing here knows of a table (02, E9). Lists of transfers are latest first. Assumes nothing.
use Rattle.std.specs.Prelude.{Bool, true, false, cond, List, [], ◌∷◌, ◌++◌, map, ℕ, ◌+◌, eqb, take, Result, Ok, Err}
use Rattle.laws.specs.AtMost.{at_most}
use Rattle.pairs.specs.declared.AskError.{AskError}
use Rattle.pairs.specs.declared.AskError.TheVariants.{NoRecord}
use Rattle.pairs.specs.declared.Pair.{Pair}
use Rattle.pairs.specs.declared.Tally.{Tally}
use Rattle.pairs.specs.declared.Transfer.{Transfer}
use Rattle.pairs.specs.Counts.{tally, greatest, records}
use Rattle.pairs.specs.Table.{pair}

-- source and destination
pub record Ends : Type 0 where
  pub source : ℕ
  pub destination : ℕ

abbrev pub ends : ℕ → ℕ → Ends
ends qq zz = record { source = qq; destination = zz }

abbrev pub ends_of : Transfer → Ends
ends_of x = ends x.qq x.zz

unfoldable pub same : Ends → Ends → Bool
same p q = cond (eqb p.source q.source) (eqb p.destination q.destination) false

unfoldable pub among : Ends → List Ends → Bool
among p [] = false
among p (q ∷ ps) = let rest = among p ps in cond (same q p) true rest

-- the different pairs, in the order of their first free line
unfoldable pub pairs_of : List Transfer → List Ends
pairs_of [] = []
pairs_of (x ∷ back) = let ps = pairs_of back in cond (among (ends_of x) ps) ps (ps ++ (ends_of x ∷ []))

-- the first 64 of them have records
unfoldable pub recorded : List Transfer → List Ends
recorded xs = take records (pairs_of xs)

abbrev pub alike : Bool → Bool → Bool
alike true b = b
alike false b = cond b false true

-- the transfers taken (true), or failed (false), of which something else holds too
unfoldable pub how_many : (Ends → Bool) → Bool → List Transfer → ℕ
how_many such got [] = 0
how_many such got (x ∷ back) =
    let n = how_many such got back in
    cond (such (ends_of x)) (cond (alike got x.taken) (n + 1) n) n

-- both counts, each kept at 4,294,967,295
unfoldable pub tally_of : (Ends → Bool) → List Transfer → Tally
tally_of such xs = tally (at_most (how_many such true xs) greatest) (at_most (how_many such false xs) greatest)

-- a pair's record
unfoldable pub record_of : List Transfer → Ends → Pair
record_of xs p = pair p.source p.destination (tally_of (same p) xs)

unfoldable pub records_of : List Transfer → List Pair
records_of xs = map (record_of xs) (recorded xs)

-- all pairs that have none
abbrev pub has_none : List Ends → Ends → Bool
has_none ps p = cond (among p ps) false true

unfoldable pub others_of : List Transfer → Tally
others_of xs = tally_of (has_none (recorded xs)) xs

-- what is answered of a pair
unfoldable pub answer_of : List Transfer → ℕ → ℕ → Result Tally AskError
answer_of xs qq zz = cond (among (ends qq zz) (recorded xs)) (Ok (tally_of (same (ends qq zz)) xs)) (Err NoRecord)
