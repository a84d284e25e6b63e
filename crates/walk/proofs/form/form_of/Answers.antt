-- `walk::form::form_of` meets its contract: enough turns are left for the bytes that are left.
use mathlib.Core.Path.{◌≡◌, refl, sym, ap, ◌∙◌}
use mathlib.Core.Bool.{Bool, true, false, not}
use mathlib.Core.List.{List}
use Prim.Native.Nat.{ℕ}
use borrow.Author.Tests.{lt-ltb, le-ltb}
use lib.ListN.{length}
use Rattle.std.specs.Prelude.{Option, Some, None, is_some}
use Rattle.walk.specs.declared.field.Field.{Field}
use Rattle.walk.specs.declared.field.Placed.{Placed}
use Rattle.walk.specs.Field.{field_at, is_bad}
use Rattle.walk.specs.Form.{most, form_of}
use Rattle.walk.proofs.Fields.{next_past, found_next, found_bad, found_end}
use native.Mathlib.Omega.{arith}
use Rattle.walk.proofs.form.form_of.Goals as goal

-- what the code asks of the field is what its definition says
asked : (s : List ℕ) (at : ℕ) (p : Placed) (b : Bool) → p ≡ field_at s at → is_some p.field ≡ not b → is_bad (field_at s at).field ≡ b
asked s at p b e f = rw (← e) (bad p.field b f)
  where
    bad : (f : Option Field) (b : Bool) → is_some f ≡ not b → is_bad f ≡ b
    bad (Some f) true e = sym e
    bad (Some f) false e = refl
    bad None true e = refl
    bad None false e = sym e

pub returns-then-s-gt-MOST : goal.returns-then-s-gt-MOST
unfolding form_of
returns-then-s-gt-MOST c = simp (lt-ltb _ _ c.if-s-gt-MOST.true)

pub loop-at-init : goal.loop-at-init
unfolding form_of
loop-at-init c =
    let s = c.args.s.now in
    (c.if-s-gt-MOST.false, (length s, omega arith, sym (simp (le-ltb most (length s) c.if-s-gt-MOST.false))))

pub returns-then-is_none : goal.returns-then-is_none
returns-then-is_none c =
    let s = c.args.s.now in
    found_bad s c.loop-at.at (form_of s) c.loop-at-test.true (asked _ _ _ _ c.field_at-placed.ensures (c.is_none.ensures ∙ ap not c.if-is_none.true)) c.loop-at.invariant.1

pub loop-at-smaller : goal.loop-at-smaller
loop-at-smaller c =
    let s = c.args.s.now in
    omega (
      arith,
      next_past s c.loop-at.at (asked _ _ _ _ c.field_at-placed.ensures (c.is_none.ensures ∙ ap not c.if-is_none.false)),
      ap (λ (p : Placed). p.next) c.field_at-placed.ensures,
    )

pub loop-at-preserved : goal.loop-at-preserved
loop-at-preserved c =
    let s = c.args.s.now in (
      c.loop-at.invariant.0,
      rw c.field_at-placed.ensures
          (found_next s c.loop-at.at (form_of s) c.loop-at-test.true (asked _ _ _ _ c.field_at-placed.ensures (c.is_none.ensures ∙ ap not c.if-is_none.false)) c.loop-at.invariant.1),
    )

pub returns : goal.returns
returns c =
    let s = c.args.s.now in
    found_end s c.loop-at.at (form_of s) c.loop-at-test.false c.loop-at.invariant.1
