-- A block of 1 to 8 DATA1c shares, accepted only if all are present and the codes add up to 200 (02, E2). Assumes nothing.
use Rattle.std.specs.Prelude.{ℕ, ◌-◌, Bool, false, cond, List, [], ◌∷◌, ◌++◌, length, sum, replicate, pos, ◌==◌, nat_lt, Float, Option, Some, None, is_none, Result, Ok, Err}
use Rattle.std.specs.Float.{fin}
use Rattle.std.specs.List.{list_any}
use Rattle.value.specs.Read.{percent_of, read_share}
use Rattle.value.specs.Value.{is_gone}
use Rattle.value.specs.declared.block.BlockError.{BlockError}
use Rattle.value.specs.declared.block.BlockError.TheVariants.{NoBlock, ShareMissing, NotAHundred}
use Rattle.value.specs.declared.block.Shares.{Shares}
use Rattle.value.specs.declared.value.Value.{Value}

abbrev pub most_shares : ℕ
most_shares = 8

-- what can be wrong with a share: no value has its code, or it is missing
abbrev pub is_valueless : Option Value → Bool
is_valueless r = is_none r

abbrev pub is_absent : Option Value → Bool
is_absent (Some v) = is_gone v
is_absent None = false

-- some share of the block
abbrev pub any_shows : (Option Value → Bool) → List ℕ → Bool
any_shows f bs = list_any (λ b. f (read_share b)) bs

abbrev pub sum_of : List ℕ → ℕ
sum_of bs = sum bs

-- the shares in percent, in their order
unfoldable pub percents_of : List ℕ → List Float
percents_of [] = []
percents_of (b ∷ bs) = percent_of b ∷ percents_of bs

-- with zeros behind them
unfoldable pub shares_of : List ℕ → Shares
shares_of bs =
    record {
      count = length bs;
      percents = percents_of bs ++ replicate (most_shares - length bs) (fin false 0 (pos 0));
    }

-- of several faults the one with the lowest number is named, whichever share has it; a block that is refused gives no shares
unfoldable pub block_of : List ℕ → Result Shares BlockError
block_of bs =
    cond (length bs == 0) (Err NoBlock)
    (cond (nat_lt most_shares (length bs)) (Err NoBlock)
    (cond (any_shows is_valueless bs) (Err NoBlock)
    (cond (any_shows is_absent bs) (Err ShareMissing)
    (cond (sum_of bs == 200) (Ok (shares_of bs)) (Err NotAHundred)))))
