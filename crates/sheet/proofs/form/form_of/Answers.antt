-- `sheet::form::form_of` meets its contract: enough turns are left for the bytes that are left.
use Rattle.std.specs.Prelude.{is_some}
use mathlib.Core.Path.{◌≡◌, refl, sym, ap, ◌∙◌}
use mathlib.Core.Bool.{Bool, true, false, not}
use mathlib.Core.List.{List}
use Prim.Native.Nat.{ℕ}
use Rattle.sheet.specs.declared.field.Placed.{Placed}
use Rattle.sheet.specs.Field.{field_at, is_bad}
use Rattle.sheet.specs.Form.{form_of}
use Rattle.sheet.proofs.Fields.{found_next, found_bad, found_end}
use Rattle.sheet.proofs.form.form_of.Goals as goal

-- what the code asks of the field is what its definition says
asked : (s : List ℕ) (at : ℕ) (p : Placed) (b : Bool) → p ≡ field_at s at → is_some p.entry ≡ not b → is_bad (field_at s at).entry ≡ b
asked s at p b e f = sym (ap (λ (q : Placed). is_bad q.entry) e) ∙ ap not f ∙ twice b
  where
    twice : (b : Bool) → not (not b) ≡ b
    twice true = refl
    twice false = refl

pub returns-then-is_none : goal.returns-then-is_none
returns-then-is_none c =
    let s = c.args.s.now in
    found_bad s c.loop-at.at (form_of s) c.loop-at-test.true (asked _ _ _ _ c.field_at-field.ensures c.is_none.ensures ∙ c.if-is_none.true) c.loop-at.invariant.1

pub loop-at-preserved : goal.loop-at-preserved
loop-at-preserved c =
    let s = c.args.s.now in (
      c.loop-at.invariant.0,
      rw c.field_at-field.ensures
          (found_next s c.loop-at.at (form_of s) c.loop-at-test.true (asked _ _ _ _ c.field_at-field.ensures c.is_none.ensures ∙ c.if-is_none.false) c.loop-at.invariant.1),
    )

pub returns : goal.returns
returns c =
    let s = c.args.s.now in
    found_end s c.loop-at.at (form_of s) c.loop-at-test.false c.loop-at.invariant.1
