-- By computing: the lines as the request writes them, byte by byte; an empty scenario prints nothing, a bad form its line alone.
-- Assumes nothing.
use mathlib.Core.Path.{◌≡◌, refl}
use mathlib.Core.List.{[], ◌∷◌}
use Rattle.std.specs.Prelude.{Some, None}
use Rattle.walk.specs.Field.{field_at}
use Rattle.walk.specs.Form.{form_from, form_of}
use Rattle.walk.specs.Moments.{moments_from, moments}
use Rattle.scenario.specs.Pen.{hex_digit, hex_text, last_digit, digits_of, decimal_text}
use Rattle.screen.specs.Lines.{line_text}
use Rattle.screen.specs.Output.{shown_of, displayed}

-- `11 next 10`
pub ten_is_shown : line_text 11 (Some 0x10) ≡ 49 ∷ 49 ∷ 32 ∷ 110 ∷ 101 ∷ 120 ∷ 116 ∷ 32 ∷ 49 ∷ 48 ∷ 10 ∷ []
unfolding line_text decimal_text digits_of last_digit hex_text hex_digit
ten_is_shown = refl

-- `11 next nobody`
pub nobody_is_shown : line_text 11 None ≡ 49 ∷ 49 ∷ 32 ∷ 110 ∷ 101 ∷ 120 ∷ 116 ∷ 32 ∷ 110 ∷ 111 ∷ 98 ∷ 111 ∷ 100 ∷ 121 ∷ 10 ∷ []
unfolding line_text decimal_text digits_of last_digit
nobody_is_shown = refl

pub empty_shows_nothing : displayed [] ≡ []
unfolding displayed form_of form_from moments moments_from shown_of
empty_shows_nothing = refl

-- a tag and nothing behind it: `refused 14 0`
pub bad_form_alone : displayed (0x01 ∷ []) ≡ 114 ∷ 101 ∷ 102 ∷ 117 ∷ 115 ∷ 101 ∷ 100 ∷ 32 ∷ 49 ∷ 52 ∷ 32 ∷ 48 ∷ 10 ∷ []
unfolding displayed form_of form_from field_at decimal_text digits_of last_digit
bad_form_alone = refl
