-- The whole output of `values` as a function of its sheet, by lists alone (02, E2). Assumes nothing.
use Rattle.std.specs.Prelude.{cond, List, [], ◌++◌, ℕ, zero, suc, ltb, length}
use Rattle.std.specs.Prelude.{Result, ⊤, Ok, Err}
use Rattle.walk.specs.declared.form.FormError.{FormError}
use Rattle.walk.specs.declared.form.FormError.TheVariants.{BadField, TooLong}
use Rattle.scenario.specs.Lines.{form_text}
use Rattle.sheet.specs.Field.{field_at}
use Rattle.sheet.specs.Form.{form_of}
use Rattle.sheet.specs.Lines.{line_at}

-- the line of the field at a place, and those of the fields behind it
unfoldable pub lines_from : ℕ → List ℕ → ℕ → List ℕ
lines_from zero s at = []
lines_from (suc k) s at =
    let p = field_at s at in
    let rest = lines_from k s p.next in
    cond (ltb at (length s)) (line_at s p ++ rest) []

-- a sheet has no more fields than bytes
unfoldable pub lines_text : List ℕ → List ℕ
lines_text s = lines_from (length s) s 0

-- the line of a bad form alone; else the lines of all fields
abbrev pub output_of : Result ⊤ FormError → List ℕ → List ℕ
output_of (Ok tt) s = lines_text s
output_of (Err (BadField at)) s = form_text (Err (BadField at))
output_of (Err TooLong) s = form_text (Err TooLong)

unfoldable pub values_output : List ℕ → List ℕ
values_output s = output_of (form_of s) s
