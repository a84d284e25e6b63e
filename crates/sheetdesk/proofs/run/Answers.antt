use Rattle.std.proofs.Common.{◌≡◌, ℕ, List, refl, sym, ap, subst, ◌∙◌}
use mathlib.Core.Bool.{true≢false}
use Rattle.std.specs.Result.{OnOk}
use Rattle.std.specs.Io.KnownBytes.{Appends}
use Rattle.std.specs.Prelude.{Result, ⊤, Ok, Err}
use Rattle.walk.specs.declared.form.FormError.{FormError}
use Rattle.walk.specs.declared.form.FormError.TheVariants.{BadField, TooLong}
use Rattle.scenario.specs.Lines.{form_text}
use Rattle.scenario.specs.Pen.{blank}
use Rattle.scenario.proofs.Written.{blank_whole}
use Rattle.sheet.specs.Fill.{Prints}
use Rattle.sheet.specs.Form.{form_of}
use Rattle.sheet.specs.Output.{output_of, values_output}
use Rattle.sheet.specs.Writes.{is_good, Writes, refused, printed}
use Rattle.sheet.proofs.ValuesPrints.{values_prints}
use Rattle.sheetdesk.proofs.run.Goals as goal

-- The output of a sheet that is one is what fills print.
shows : {s buffer x : List ℕ} → Writes s buffer x → form_of s ≡ Ok tt → (n : ℕ) × Prints s 0 buffer n x
shows (refused b e) good = absurd (true≢false (sym (ap is_good good) ∙ b))
shows (printed {n = n} e p) good = (n, p)

-- Of a bad form the line stands alone.
alone_as : (f : Result ⊤ FormError) (s : List ℕ) → (f ≡ Ok tt → ⊥) → form_text f ≡ output_of f s
alone_as (Ok tt) s b = absurd (b refl)
alone_as (Err (BadField at)) s b = refl
alone_as (Err TooLong) s b = refl

alone : (f : Result ⊤ FormError) (s : List ℕ) → f ≡ form_of s → (f ≡ Ok tt → ⊥) → form_text f ≡ values_output s
unfolding values_output
alone f s e b = alone_as f s b ∙ ap (λ (x : Result ⊤ FormError). output_of x s) e

pub returns-in-Ok-clause-ok : goal.returns-in-Ok-clause-ok
returns-in-Ok-clause-ok g c =
    let s = c.args.s.now in
    c.print.ensures.ok (values_output s) (shows (values_prints s blank.page blank_whole) (sym c.form_of.ensures ∙ c.in-Ok.is))

pub returns-in_default-clause-ok : goal.returns-in_default-clause-ok
returns-in_default-clause-ok g c =
    subst (λ t. OnOk c.refuse.result (Appends (g.W.Write.contents c.args.to.now) (g.W.Write.contents c.refuse.new.to) t))
    (alone c.form_of.result c.args.s.now c.form_of.ensures (c.in_default.not-Ok tt)) c.refuse.ensures.ok
