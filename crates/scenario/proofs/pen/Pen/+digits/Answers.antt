-- `scenario::pen::Pen::digits` meets its contract.
use mathlib.Core.Path.{◌∙◌}
use Rattle.scenario.proofs.Written.{nothing, both, no_digits, one_digit, more_digits}
use Rattle.scenario.proofs.pen.Pen.+digits.Goals as goal
use Rattle.scenario.proofs.pen.Pen.+digits.Goals.{then-n-ge10, else-n-ge10}

pub returns-after-n-ge10 : goal.returns-after-n-ge10
returns-after-n-ge10 t c =
    let a = c.args in
    elim c.if-n-ge10.branch [
      | then-n-ge10 w ↦ rw (more_digits a.most a.n c.if-most-gt0.true w.if-n-ge10.true, ← c.last_digit.ensures) (both _ _ _ (w.self-is ∙ w.digits.ensures) c.put.ensures)
      | else-n-ge10 w ↦ rw (one_digit a.most a.n c.if-most-gt0.true w.if-n-ge10.false, ← c.last_digit.ensures, ← w.self-is) c.put.ensures
    ]

pub returns-else-most-gt0 : goal.returns-else-most-gt0
returns-else-most-gt0 t c =
    let a = c.args in
    rw (no_digits a.most a.n c.if-most-gt0.false) (nothing _)
