-- What `display` is handed to write, by its own steps: the form's line, or the fills (02, E7). Assumes nothing.
use Rattle.std.specs.Prelude.{◌≡◌, Bool, true, false, List, ℕ, take}
use Rattle.walk.specs.Form.{form_of}
use Rattle.std.specs.Prelude.{Result, ⊤, Ok, Err}
use Rattle.walk.specs.declared.form.FormError.{FormError}
use Rattle.walk.specs.declared.form.FormError.TheVariants.{BadField, TooLong}
use Rattle.scenario.specs.Lines.{form_text}
use Rattle.scenario.specs.declared.pen.Pen.{Pen}
use Rattle.scenario.specs.Pen.{pen, penned}
use Rattle.screen.specs.Fill.{started, Prints}

abbrev pub is_good : Result ⊤ FormError → Bool
is_good (Ok tt) = true
is_good (Err (BadField at)) = false
is_good (Err TooLong) = false

-- with a buffer to fill: the line of a bad form alone; else the fills of all fields
pub data Writes (s buffer : List ℕ) : List ℕ → Type 0 where
  refused : {q : Pen} → is_good (form_of s) ≡ false → penned (pen buffer 0) (form_text (form_of s)) ≡ q → Writes s buffer (take q.at q.page)
  printed : {n : ℕ} {x : List ℕ} → form_of s ≡ Ok tt → Prints s started buffer n x → Writes s buffer x
