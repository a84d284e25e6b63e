-- A reader of tagged records, from the request's words alone: it uses nothing of what writes them (02, E1, E4 and E6). Assumes nothing.
use Rattle.std.specs.Prelude.{cond, List, [], ◌∷◌, ◌++◌, ℕ, zero, suc, ◌+◌, ◌-◌, ◌*◌, eqb, length, get_or, take, drop}
use Rattle.std.proofs.Math.Option.{Option, none, some}
use Rattle.wire.specs.declared.pair.WrongPair.{WrongPair}
use Rattle.station.specs.Events.{Word, owns, taken, failed, free, given, answer}

-- what a record says
pub record Entry : Type 0 where
  pub slot : ℕ
  pub station : ℕ
  pub word : Word
  pub values : List ℕ
  -- the elapsed slots, on free lines only
  pub elapsed : Option ℕ
  -- which pair was broken, where a failed line says so
  pub pair : Option WrongPair

-- tags: 1 owns, 2 taken, 3 failed, 4 free, 5 given, 6 answer, and no others
unfoldable pub word_of : ℕ → Option Word
word_of n =
    cond (eqb n 1) (some owns)
    (cond (eqb n 2) (some taken)
    (cond (eqb n 3) (some failed)
    (cond (eqb n 4) (some free)
    (cond (eqb n 5) (some given)
    (cond (eqb n 6) (some answer) none)))))

-- the number that four bytes make, high first
unfoldable pub number_in : List ℕ → ℕ
number_in v = get_or v 0 0 * 16777216 + get_or v 1 0 * 65536 + get_or v 2 0 * 256 + get_or v 3 0

-- what stands behind the station: values; in a failed record the number alone is one, in a free record four bytes of elapsed slots
-- stand at the end
unfoldable pub values_in : Word → List ℕ → List ℕ
values_in owns vs = vs
values_in taken vs = vs
values_in failed vs = take 1 vs
values_in free vs = take (length vs - 4) vs
values_in given vs = vs
values_in answer vs = vs

unfoldable pub elapsed_in : Word → List ℕ → Option ℕ
elapsed_in owns vs = none
elapsed_in taken vs = none
elapsed_in failed vs = none
elapsed_in free vs = some (number_in (drop (length vs - 4) vs))
elapsed_in given vs = none
elapsed_in answer vs = none

-- behind the number of a failed record: two bytes, or none
abbrev pub two_bytes : List ℕ → Option WrongPair
two_bytes [] = none
two_bytes (p ∷ xs) = some (record { position = p; symbol = get_or xs 0 0 })

unfoldable pub pair_in : Word → List ℕ → Option WrongPair
pair_in owns vs = none
pair_in taken vs = none
pair_in failed vs = two_bytes (drop 1 vs)
pair_in free vs = none
pair_in given vs = none
pair_in answer vs = none

-- a value: four bytes of slot number, the station, the rest
unfoldable pub entry_in : Word → List ℕ → Entry
entry_in w v =
    record {
      slot = number_in v;
      station = get_or v 4 0;
      word = w;
      values = values_in w (drop 5 v);
      elapsed = elapsed_in w (drop 5 v);
      pair = pair_in w (drop 5 v);
    }

-- a record of another tag says nothing
abbrev pub entries_in : Option Word → List ℕ → List Entry
entries_in none v = []
entries_in (some w) v = entry_in w v ∷ []

-- tag, two bytes of length, high first, as many bytes of value as they say; then the next; at most k of them
unfoldable pub read_from : ℕ → List ℕ → List Entry
read_from zero bs = []
read_from (suc k) [] = []
read_from (suc k) (tag ∷ bs) =
    let size = get_or bs 0 0 * 256 + get_or bs 1 0 in
    let later = read_from k (drop size (drop 2 bs)) in
    entries_in (word_of tag) (take size (drop 2 bs)) ++ later

-- a record has a byte at least
abbrev pub read_entries : List ℕ → List Entry
read_entries bs = read_from (length bs) bs
