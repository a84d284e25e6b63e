use Rattle.std.proofs.Common.{◌≡◌, ℕ, List, refl, sym, ap, subst, ◌∙◌, rules}
use mathlib.Core.Bool.{true≢false}
use Rattle.std.specs.Result.{OnOk}
use Rattle.std.specs.Io.KnownBytes.{Appends}
use Rattle.walk.specs.Field.{Bytes}
use Rattle.walk.specs.Form.{form_of}
use Rattle.std.specs.Prelude.{Result, ⊤, Ok, Err}
use Rattle.walk.specs.declared.form.FormError.{FormError}
use Rattle.walk.specs.declared.form.FormError.TheVariants.{BadField, TooLong}
use Rattle.scenario.specs.Lines.{form_text}
use Rattle.scenario.specs.Pen.{blank}
use Rattle.scenario.proofs.Written.{blank_whole}
use Rattle.screen.specs.declared.fill.Showing.{Showing}
use Rattle.screen.specs.Fill.{started}
use Rattle.screen.specs.Output.{displayed_as, displayed}
use Rattle.screen.specs.Series.{PrintsAll}
use Rattle.screen.specs.Writes.{is_good, Writes, refused, printed}
use Rattle.screen.proofs.DisplayPrints.{display_prints}
use Rattle.screendesk.proofs.run.Goals as goal

-- What is displayed of a scenario that is one is what fills print.
shows : {s buffer x : List ℕ} {g : Showing} → g ≡ started → Writes s buffer x → form_of s ≡ Ok tt → PrintsAll s g buffer x
shows b (refused r e) good = absurd (true≢false (sym (ap is_good good) ∙ r))
shows {s = s} {buffer = buffer} {x = x} b (printed {n = n} e p) good = subst (λ (v : Showing). PrintsAll s v buffer x) (sym b) (n, p)

-- Of a bad form the line stands alone.
alone_as : (f : Result ⊤ FormError) (s : List ℕ) → (f ≡ Ok tt → ⊥) → form_text f ≡ displayed_as f s
alone_as (Ok tt) s b = absurd (b refl)
alone_as (Err (BadField at)) s b = refl
alone_as (Err TooLong) s b = refl

alone : (f : Result ⊤ FormError) (s : List ℕ) → f ≡ form_of s → (f ≡ Ok tt → ⊥) → form_text f ≡ displayed s
unfolding displayed
alone f s e b = alone_as f s b ∙ ap (λ (x : Result ⊤ FormError). displayed_as x s) e

pub returns-in-Ok-clause-ok : goal.returns-in-Ok-clause-ok
returns-in-Ok-clause-ok g c =
    let s = c.args.s.now in
    let all : Bytes s = λ i. search rules in
    c.print.ensures.ok (displayed s) (shows c.start.ensures (display_prints s blank.page all blank_whole) (sym c.form_of.ensures ∙ c.in-Ok.is))

pub returns-in_default-clause-ok : goal.returns-in_default-clause-ok
returns-in_default-clause-ok g c =
    subst (λ t. OnOk c.refuse.result (Appends (g.W.Write.contents c.args.to.now) (g.W.Write.contents c.refuse.new.to) t))
    (alone c.form_of.result c.args.s.now c.form_of.ensures (c.in_default.not-Ok tt)) c.refuse.ensures.ok
