use Rattle.std.proofs.Common.{◌≡◌, ◌≢◌, ℕ, List, Some, refl, ap, subst, ◌∙◌}
use Rattle.std.specs.Result.{OnOk}
use Rattle.std.specs.Io.KnownBytes.{Appends}
use Rattle.walk.specs.Form.{form_of}
use Rattle.std.specs.Prelude.{Result, ⊤, Ok, Err}
use Rattle.walk.specs.declared.form.FormError.{FormError}
use Rattle.walk.specs.declared.form.FormError.TheVariants.{BadField, TooLong}
use Rattle.scenario.specs.Lines.{form_text}
use Rattle.tally.specs.Output.{counts_as, counts_output}
use Rattle.tally.specs.declared.ask.Question.{Question}
use Rattle.countdesk.proofs.run.Goals as goal

-- Of a bad form the line stands alone.
alone_as : (f : Result ⊤ FormError) (q : Question) (s : List ℕ) → f ≢ (Ok tt) → form_text f ≡ counts_as f q s
alone_as (Ok tt) q s b = absurd (b refl)
alone_as (Err (BadField at)) q s b = refl
alone_as (Err TooLong) q s b = refl

alone : (f : Result ⊤ FormError) (q : Question) (s : List ℕ) → f ≡ form_of s → f ≢ (Ok tt) → form_text f ≡ counts_output (Some q) s
unfolding counts_output
alone f q s e b = alone_as f q s b ∙ ap (λ (x : Result ⊤ FormError). counts_as x q s) e

pub returns-in_default-clause-ok : goal.returns-in_default-clause-ok
returns-in_default-clause-ok g c =
    subst (λ t. OnOk c.refuse.result (Appends (g.W.Write.contents c.args.to.now) (g.W.Write.contents c.refuse.new.to) t))
    (alone c.form_of.result c.args.q c.args.s.now c.form_of.ensures (c.in_default.not-Ok tt)) c.refuse.ensures.ok
