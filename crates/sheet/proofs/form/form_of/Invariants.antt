-- `sheet::form::form_of` meets its contract: enough turns are left for the bytes that are left.
use Prim.Native.Nat.{◌-◌, ◌≤◌}
use lib.ListN.{length}
use Rattle.walk.specs.Form.{most}
use Rattle.sheet.specs.Form.{form_of}
use Rattle.sheet.proofs.Fields.{Finds}
use Rattle.sheet.proofs.form.form_of.Given as goal

abbrev pub invariant-loop-at : goal.invariant-loop-at
invariant-loop-at l =
    (length l.s ≤ most) × Finds l.s l.at (form_of l.s)

abbrev pub decreases-loop-at : goal.decreases-loop-at
decreases-loop-at l =
    length l.s - l.at
