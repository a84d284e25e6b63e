-- What the counts are asked, as their user says it (02, E9). Assumes nothing.
use Rattle.std.specs.Prelude.{Bool, false, cond, List, ℕ, ◌+◌, ◌-◌, ◌*◌, eqb, ltb, leb, length, get_or, Option, Some, None}
use Rattle.tally.specs.declared.ask.Question.{Question}
use Rattle.tally.specs.declared.ask.Question.TheVariants as question

abbrev pub is_from : ℕ → ℕ → ℕ → Bool
is_from low high c = cond (ltb c low) false (leb c high)

-- 0 to 9, A to F, a to f
unfoldable pub digit_of : ℕ → Option ℕ
digit_of c =
    cond (is_from 48 57 c) (Some (c - 48)) (cond (is_from 65 70 c) (Some (c - 55)) (cond (is_from 97 102 c) (Some (c - 87)) None))

abbrev pub byte_as : Option ℕ → Option ℕ → Option ℕ
byte_as (Some high) (Some low) = Some (high * 16 + low)
byte_as (Some high) None = None
byte_as None low = None

-- exactly two digits
unfoldable pub byte_of : List ℕ → Option ℕ
byte_of w = cond (eqb (length w) 2) (byte_as (digit_of (get_or w 0 0)) (digit_of (get_or w 1 0))) None

abbrev pub pair_of : ℕ → Option ℕ → Option Question
pair_of qq (Some zz) = Some (question.Pair qq zz)
pair_of qq None = None

abbrev pub pair_as : Option ℕ → Option ℕ → Option Question
pair_as (Some qq) destination = pair_of qq destination
pair_as None destination = None

-- of two words; none where one of them cannot be read
unfoldable pub question_of : List ℕ → List ℕ → Option Question
question_of first second = pair_as (byte_of first) (byte_of second)
