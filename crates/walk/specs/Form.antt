-- The form of a whole scenario (01, "Bench program"): 15 too long, 14 the first field that is none. Assumes nothing.
use Rattle.std.specs.Prelude.{cond, List, ℕ, zero, suc, ltb, length}
use Rattle.std.specs.Prelude.{Result, ⊤, Ok, Err}
use Rattle.walk.specs.declared.form.FormError.{FormError}
use Rattle.walk.specs.declared.form.FormError.TheVariants.{BadField, TooLong}
use Rattle.walk.specs.Field.{field_at, is_bad}

-- at most 65,536 bytes
abbrev pub most : ℕ
most = 65536

-- field after field from a place on; a scenario has no more fields than bytes
unfoldable pub form_from : ℕ → List ℕ → ℕ → Result ⊤ FormError
form_from zero s at = Ok tt
form_from (suc k) s at =
    let rest = form_from k s (field_at s at).next in
    let here = cond (is_bad (field_at s at).field) (Err (BadField at)) rest in
    cond (ltb at (length s)) here (Ok tt)

unfoldable pub form_of : List ℕ → Result ⊤ FormError
form_of s = let fields = form_from (length s) s 0 in cond (ltb most (length s)) (Err TooLong) fields
