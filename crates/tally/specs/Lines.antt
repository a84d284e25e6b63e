-- The bytes of the lines of `counts` (02, E9). Assumes nothing.
use Rattle.std.specs.Prelude.{List, [], ◌∷◌, ◌++◌, ℕ, Result, Ok, Err}
use Rattle.pairs.specs.declared.AskError.{AskError}
use Rattle.pairs.specs.declared.AskError.TheVariants.{NoRecord, OtherLength}
use Rattle.pairs.specs.declared.Pair.{Pair}
use Rattle.pairs.specs.declared.Tally.{Tally}
use Rattle.scenario.specs.Lines.{newline, refused_text}
use Rattle.scenario.specs.Pen.{byte_text, hex_text, decimal_text}

-- " taken "
abbrev pub taken_word : List ℕ
taken_word = 32 ∷ 116 ∷ 97 ∷ 107 ∷ 101 ∷ 110 ∷ 32 ∷ []

-- " failed "
abbrev pub failed_word : List ℕ
failed_word = 32 ∷ 102 ∷ 97 ∷ 105 ∷ 108 ∷ 101 ∷ 100 ∷ 32 ∷ []

-- "others"
abbrev pub others_word : List ℕ
others_word = 111 ∷ 116 ∷ 104 ∷ 101 ∷ 114 ∷ 115 ∷ []

-- both counts, and a line feed
unfoldable pub tally_text : Tally → List ℕ
tally_text t = taken_word ++ decimal_text t.taken ++ failed_word ++ decimal_text t.failed ++ newline

-- `10 08 taken 3 failed 1`
unfoldable pub pair_text : ℕ → ℕ → Tally → List ℕ
pair_text qq zz t = byte_text qq ++ hex_text zz ++ tally_text t

-- `others taken 0 failed 0`
unfoldable pub others_text : Tally → List ℕ
others_text t = others_word ++ tally_text t

-- a line for each record
unfoldable pub records_text : List Pair → List ℕ
records_text [] = []
records_text (p ∷ ps) = pair_text p.qq p.zz p.tally ++ records_text ps

-- and last the others
abbrev pub all_text : List Pair → Tally → List ℕ
all_text ps others = records_text ps ++ others_text others

-- `refused 20`
abbrev pub refused20 : List ℕ
refused20 = refused_text ++ decimal_text 20 ++ newline

-- a pair's line alone; no table here has another length
abbrev pub answer_text : ℕ → ℕ → Result Tally AskError → List ℕ
answer_text qq zz (Ok t) = pair_text qq zz t
answer_text qq zz (Err NoRecord) = refused20
answer_text qq zz (Err OtherLength) = []
