-- What `values` is handed to write is exactly its defined output, for every input. Assumes nothing.
use mathlib.Core.Path.{◌≡◌, refl, ap, subst, ◌∙◌}
use mathlib.Core.Bool.{false}
use mathlib.Core.List.{List}
use Prim.Native.Nat.{ℕ}
use native.Mathlib.Omega.{arith}
use lib.ListN.{length}
use Rattle.std.specs.Prelude.{Result, ⊤, Ok, Err}
use Rattle.walk.specs.declared.form.FormError.{FormError}
use Rattle.walk.specs.declared.form.FormError.TheVariants.{BadField, TooLong}
use Rattle.scenario.specs.Lines.{form_text}
use Rattle.scenario.specs.Pen.{room, pen, penned}
use Rattle.scenario.proofs.Fills.{written_bytes}
use Rattle.scenario.proofs.Fits.{form_most}
use Rattle.sheet.specs.Form.{form_of}
use Rattle.sheet.specs.Output.{output_of, values_output}
use Rattle.sheet.specs.Writes.{is_good, Writes, refused, printed}
use Rattle.sheet.proofs.FillsAreLines.{fills_are_lines}

module _ (s buffer : List ℕ) (whole : length buffer ≡ room) where
  -- the form's line alone
  refuses : (f : Result ⊤ FormError) → form_of s ≡ f → is_good f ≡ false → Writes s buffer (form_text f)
  refuses f e g =
      subst (λ (v : List ℕ). Writes s buffer v) (written_bytes buffer (form_text f) whole (omega (arith, form_most f)))
      (refused (ap is_good e ∙ g) (ap (λ (x : Result ⊤ FormError). penned (pen buffer 0) (form_text x)) e))

  by_form : (f : Result ⊤ FormError) → form_of s ≡ f → Writes s buffer (output_of f s)
  by_form (Ok tt) e = let all = fills_are_lines s buffer whole in printed {n = all.fills} e all.prints
  by_form (Err (BadField at)) e = refuses (Err (BadField at)) e refl
  by_form (Err TooLong) e = refuses (Err TooLong) e refl

  -- into any buffer
  pub values_prints : Writes s buffer (values_output s)
  unfolding values_output
  values_prints = by_form (form_of s) refl
