-- The whole output of `display` as a function of its input (02, E7). Assumes nothing.
use Rattle.std.specs.Prelude.{List, [], ◌∷◌, ◌++◌, ℕ}
use Rattle.walk.specs.Form.{form_of}
use Rattle.walk.specs.Moments.{Now, moments}
use Rattle.std.specs.Prelude.{Result, ⊤, Ok, Err}
use Rattle.walk.specs.declared.form.FormError.{FormError}
use Rattle.walk.specs.declared.form.FormError.TheVariants.{BadField, TooLong}
use Rattle.scenario.specs.Lines.{form_text}
use Rattle.screen.specs.Lines.{shown_text}

-- the lines of some moments
unfoldable pub shown_of : List Now → List ℕ
shown_of [] = []
shown_of (n ∷ ns) = shown_text n.moment n.bus ++ shown_of ns

-- the line of a bad form alone, else a line for each field
abbrev pub displayed_as : Result ⊤ FormError → List ℕ → List ℕ
displayed_as (Ok tt) s = shown_of (moments s)
displayed_as (Err (BadField at)) s = form_text (Err (BadField at))
displayed_as (Err TooLong) s = form_text (Err TooLong)

unfoldable pub displayed : List ℕ → List ℕ
displayed s = displayed_as (form_of s) s
