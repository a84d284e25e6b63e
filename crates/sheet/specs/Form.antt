-- The form of a whole sheet (02, E2): 15 too long, 14 the first field that is none. Assumes nothing.
use Rattle.std.specs.Prelude.{cond, List, ℕ, zero, suc, ltb, length}
use Rattle.walk.specs.Form.{most}
use Rattle.std.specs.Prelude.{Result, ⊤, Ok, Err}
use Rattle.walk.specs.declared.form.FormError.{FormError}
use Rattle.walk.specs.declared.form.FormError.TheVariants.{BadField, TooLong}
use Rattle.sheet.specs.Field.{field_at, is_bad}

-- field after field from a place on; a sheet has no more fields than bytes
unfoldable pub form_from : ℕ → List ℕ → ℕ → Result ⊤ FormError
form_from zero s at = Ok tt
form_from (suc k) s at =
    let rest = form_from k s (field_at s at).next in
    let here = cond (is_bad (field_at s at).entry) (Err (BadField at)) rest in
    cond (ltb at (length s)) here (Ok tt)

-- at most 65,536 bytes
unfoldable pub form_of : List ℕ → Result ⊤ FormError
form_of s = let fields = form_from (length s) s 0 in cond (ltb most (length s)) (Err TooLong) fields
