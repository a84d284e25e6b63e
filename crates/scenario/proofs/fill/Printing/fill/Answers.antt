-- `scenario::fill::Printing::fill` meets its contract: the opening is written, and the fields if they are next.
use Rattle.std.proofs.Common.{◌≡◌, List, ◌++◌, ℕ, refl, ap, ◌∙◌}
use Rattle.std.specs.Prelude.{Result, ⊤, Ok, Err}
use Rattle.walk.specs.declared.form.FormError.{FormError}
use Rattle.walk.specs.declared.form.FormError.TheVariants.{BadField, TooLong}
use Rattle.scenario.specs.declared.fill.Printing.{Printing}
use Rattle.scenario.specs.declared.fill.Stage.{Stage}
use Rattle.scenario.specs.declared.fill.Stage.TheVariants.{Opening, Fields, Done}
use Rattle.scenario.specs.Lines.{form_text}
use Rattle.scenario.specs.Output.{header}
use Rattle.scenario.specs.Fill.{printed, after_form, opened, opening_text, filling, filled_as, filled}
use Rattle.scenario.specs.declared.pen.Pen.{Pen}
use Rattle.scenario.specs.Pen.{penned, rewound}
use Rattle.scenario.proofs.Written.{nothing, both}
use Rattle.scenario.proofs.fill.Printing.fill.Goals as goal
use Rattle.scenario.proofs.fill.Printing.fill.Goals.{in-Opening, in_default}

-- what is next, and what is written of it
record Begun (g : Printing) (page : List ℕ) (h : Printing) (q : Pen) : Type 0 where
  next : h ≡ printed (opened g.stage) g.place g.bus
  text : q ≡ penned (rewound page) (opening_text g.stage)

opens : (g : Printing) (page : List ℕ) {h : Printing} {q : Pen} {t : Stage} (f : Result ⊤ FormError) → g.stage ≡ Opening f → t ≡ after_form f
    → h ≡ printed t g.place g.bus → q ≡ penned (rewound page) (header ++ form_text f) → Begun g page h q
opens g page {h} {q} {t} f e a i j = record { next = rw e (i ∙ ap (λ (u : Stage). printed u g.place g.bus) a); text = rw e j }

goes : (g : Printing) (page : List ℕ) {h : Printing} {q : Pen} → ((f : Result ⊤ FormError) → g.stage ≡ Opening f → ⊥) → h ≡ g → q ≡ rewound page → Begun g page h q
goes g page {h} {q} n i j = go g.stage refl
  where
    go : (t : Stage) → g.stage ≡ t → Begun g page h q
    go (Opening f) e = absurd (n f e)
    go Fields e = record { next = rw e (i ∙ ap (λ (u : Stage). printed u g.place g.bus) e); text = rw e (j ∙ nothing _) }
    go Done e = record { next = rw e (i ∙ ap (λ (u : Stage). printed u g.place g.bus) e); text = rw e (j ∙ nothing _) }

finish : (g h : Printing) (s page : List ℕ) (q : Pen) → Begun g page h q → filled_as h.stage h.place h.bus s q ≡ filled g s page
unfolding filled
finish g h s page q b = rw (b.next, b.text)

-- nothing is left where the fields are not next
over : (g h : Printing) (s page : List ℕ) (q : Pen) → Begun g page h q → (h.stage ≡ Fields → ⊥) → filling h q ≡ filled g s page
unfolding filled
over g h s page q b n = rw (b.next, b.text) (go g.stage (rw b.next at n))
  where
    go : (t : Stage) → (opened t ≡ Fields → ⊥)
        → filling (printed (opened t) g.place g.bus) (penned (rewound page) (opening_text t)) ≡ filled_as (opened t) g.place g.bus s (penned (rewound page) (opening_text t))
    go (Opening (Ok tt)) n = absurd (n refl)
    go (Opening (Err (BadField at))) n = refl
    go (Opening (Err TooLong)) n = refl
    go Fields n = absurd (n refl)
    go Done n = refl

pub returns-in-Fields : goal.returns-in-Fields
returns-in-Fields c =
    let begun : Begun c.args.self.now c.args.out.now.page c.match-self.self c.match-self.out =
    elim c.match-self.branch [
      | in-Opening w ↦ opens _ _ w.in-Opening.f w.in-Opening.is w.after_form-self.ensures w.self-is (w.out-is ∙ both _ _ _ (w.word.ensures ∙ ap (λ (q : Pen). penned q header) c.rewind.ensures) w.form_line.ensures)
      | in_default w ↦ goes _ _ w.in_default.not-Opening w.self-is (w.out-is ∙ c.rewind.ensures)
    ] in
    rw (← finish c.args.self.now c.match-self.self c.args.s.now c.args.out.now.page c.match-self.out begun, c.in-Fields.is) c.fields.ensures

pub returns-in_default-stage : goal.returns-in_default-stage
returns-in_default-stage c =
    let begun : Begun c.args.self.now c.args.out.now.page c.match-self.self c.match-self.out =
    elim c.match-self.branch [
      | in-Opening w ↦ opens _ _ w.in-Opening.f w.in-Opening.is w.after_form-self.ensures w.self-is (w.out-is ∙ both _ _ _ (w.word.ensures ∙ ap (λ (q : Pen). penned q header) c.rewind.ensures) w.form_line.ensures)
      | in_default w ↦ goes _ _ w.in_default.not-Opening w.self-is (w.out-is ∙ c.rewind.ensures)
    ] in
    over c.args.self.now c.match-self.self c.args.s.now c.args.out.now.page c.match-self.out begun c.in_default-stage.not-Fields
