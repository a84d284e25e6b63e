-- By computing: the lines as the request writes them, byte by byte; an empty scenario has no records, a bad form its line alone.
-- Assumes nothing.
use mathlib.Core.Path.{◌≡◌, refl}
use mathlib.Core.List.{[], ◌∷◌}
use Rattle.walk.specs.Field.{field_at}
use Rattle.walk.specs.Follow.{told_buses}
use Rattle.walk.specs.Form.{form_from, form_of}
use Rattle.walk.specs.Moments.{moments_from, moments}
use Rattle.pairs.specs.Counts.{tally}
use Rattle.pairs.specs.Ended.{ended_in}
use Rattle.pairs.specs.Recount.{among, pairs_of, recorded, how_many, tally_of, records_of, others_of, answer_of}
use Rattle.scenario.specs.Pen.{hex_digit, hex_text, last_digit, digits_of, decimal_text}
use Rattle.tally.specs.Lines.{tally_text, pair_text, others_text, records_text}
use Rattle.tally.specs.Output.{lines_from, counts_output}
use Rattle.tally.specs.declared.ask.Question.TheVariants.{All, Pair}
use Rattle.std.specs.Prelude.{Some, None}

-- `10 08 taken 3 failed 1`
pub a_pair : pair_text 0x10 0x08 (tally 3 1)
    ≡ 49 ∷ 48 ∷ 32 ∷ 48 ∷ 56 ∷ 32 ∷ 116 ∷ 97 ∷ 107 ∷ 101 ∷ 110 ∷ 32 ∷ 51 ∷ 32 ∷ 102 ∷ 97 ∷ 105 ∷ 108 ∷ 101 ∷ 100 ∷ 32 ∷ 49 ∷ 10 ∷ []
unfolding pair_text tally_text hex_text hex_digit decimal_text digits_of last_digit
a_pair = refl

-- `others taken 0 failed 0`
pub no_others : others_text (tally 0 0)
    ≡ 111 ∷ 116 ∷ 104 ∷ 101 ∷ 114 ∷ 115 ∷ 32 ∷ 116 ∷ 97 ∷ 107 ∷ 101 ∷ 110 ∷ 32 ∷ 48 ∷ 32 ∷ 102 ∷ 97 ∷ 105 ∷ 108 ∷ 101 ∷ 100 ∷ 32 ∷ 48 ∷ 10 ∷ []
unfolding others_text tally_text decimal_text digits_of last_digit
no_others = refl

pub empty_counts_nothing : counts_output (Some All) [] ≡ others_text (tally 0 0)
unfolding counts_output form_of form_from moments moments_from told_buses lines_from ended_in records_of others_of tally_of recorded pairs_of how_many records_text
empty_counts_nothing = refl

-- `refused 20`
pub empty_has_no_pair : counts_output (Some (Pair 0x10 0x08)) [] ≡ 114 ∷ 101 ∷ 102 ∷ 117 ∷ 115 ∷ 101 ∷ 100 ∷ 32 ∷ 50 ∷ 48 ∷ 10 ∷ []
unfolding counts_output form_of form_from moments moments_from told_buses lines_from ended_in answer_of recorded pairs_of among decimal_text digits_of last_digit
empty_has_no_pair = refl

-- a tag and nothing behind it: `refused 14 0`
pub bad_form_alone : counts_output (Some All) (0x01 ∷ []) ≡ 114 ∷ 101 ∷ 102 ∷ 117 ∷ 115 ∷ 101 ∷ 100 ∷ 32 ∷ 49 ∷ 52 ∷ 32 ∷ 48 ∷ 10 ∷ []
unfolding counts_output form_of form_from field_at decimal_text digits_of last_digit
bad_form_alone = refl

-- and nothing at all where the arguments cannot be read
pub unreadable_alone : counts_output None (0x01 ∷ []) ≡ []
unfolding counts_output
unreadable_alone = refl
