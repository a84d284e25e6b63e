-- What `display` is handed to write is exactly its defined output, for every input. Assumes nothing.
use mathlib.Core.Path.{◌≡◌, refl, ap, subst, ◌∙◌}
use mathlib.Core.Bool.{false}
use mathlib.Core.List.{List}
use Prim.Native.Nat.{ℕ}
use native.Mathlib.Omega.{arith}
use lib.ListN.{length}
use Rattle.walk.specs.Field.{Bytes}
use Rattle.walk.specs.Form.{form_of}
use Rattle.std.specs.Prelude.{Result, ⊤, Ok, Err}
use Rattle.walk.specs.declared.form.FormError.{FormError}
use Rattle.walk.specs.declared.form.FormError.TheVariants.{BadField, TooLong}
use Rattle.scenario.specs.Lines.{form_text}
use Rattle.scenario.specs.Pen.{room, pen, penned}
use Rattle.scenario.proofs.Fills.{written_bytes}
use Rattle.scenario.proofs.Fits.{form_most}
use Rattle.screen.specs.Output.{displayed_as, displayed}
use Rattle.screen.specs.Writes.{is_good, Writes, refused, printed}
use Rattle.screen.proofs.FillsAreShown.{fills_are_shown}

module _ (s buffer : List ℕ) (bytes : Bytes s) (whole : length buffer ≡ room) where
  -- the form's line alone
  refuses : (f : Result ⊤ FormError) → form_of s ≡ f → is_good f ≡ false → Writes s buffer (form_text f)
  refuses f e g =
      subst (λ (v : List ℕ). Writes s buffer v) (written_bytes buffer (form_text f) whole (omega (arith, form_most f)))
      (refused (ap is_good e ∙ g) (ap (λ (x : Result ⊤ FormError). penned (pen buffer 0) (form_text x)) e))

  shown_good : form_of s ≡ Ok tt → Writes s buffer (displayed_as (Ok tt) s)
  unfolding displayed
  shown_good e = let all = rw e at (fills_are_shown s buffer bytes whole e) in printed {n = all.fills} e all.prints

  by_form : (f : Result ⊤ FormError) → form_of s ≡ f → Writes s buffer (displayed_as f s)
  by_form (Ok tt) e = shown_good e
  by_form (Err (BadField at)) e = refuses (Err (BadField at)) e refl
  by_form (Err TooLong) e = refuses (Err TooLong) e refl

  -- into any buffer
  pub display_prints : Writes s buffer (displayed s)
  unfolding displayed
  display_prints = by_form (form_of s) refl
