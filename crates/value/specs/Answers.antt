-- 02's number, 0 where nothing is refused, and values for each case of an answer. Assumes nothing.
use Rattle.std.specs.Prelude.{ℕ, List, [], ◌∷◌, take, Float, Option, Some, None, Result, Ok, Err}
use Rattle.value.specs.declared.block.BlockError.{BlockError}
use Rattle.value.specs.declared.block.BlockError.TheVariants.{NoBlock, ShareMissing, NotAHundred}
use Rattle.value.specs.declared.block.Shares.{Shares}
use Rattle.value.specs.declared.value.Value.{Value}
use Rattle.value.specs.declared.write.Code.{Code}
use Rattle.value.specs.declared.write.Code.TheVariants.{One, Two}

abbrev pub reading_number : Option Value → ℕ
reading_number (Some v) = 0
reading_number None = 17

abbrev pub reading_values : Option Value → List Value
reading_values (Some v) = v ∷ []
reading_values None = []

abbrev pub code_number : Option Code → ℕ
code_number (Some (One b)) = 0
code_number (Some (Two low high)) = 0
code_number None = 17

abbrev pub code_bytes : Option Code → List ℕ
code_bytes (Some (One b)) = b ∷ []
code_bytes (Some (Two low high)) = low ∷ high ∷ []
code_bytes None = []

abbrev pub fault_number : BlockError → ℕ
fault_number NoBlock = 17
fault_number ShareMissing = 18
fault_number NotAHundred = 19

abbrev pub block_number : Result Shares BlockError → ℕ
block_number (Ok s) = 0
block_number (Err e) = fault_number e

-- the shares in percent; a refused block gives none
abbrev pub block_percents : Result Shares BlockError → List Float
block_percents (Ok s) = take s.count s.percents
block_percents (Err e) = []
