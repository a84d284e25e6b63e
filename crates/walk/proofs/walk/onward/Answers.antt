-- `walk::walk::onward` meets its contract: enough turns are left for what is to go.
use mathlib.Core.Path.{sym, ◌∙◌}
use native.Mathlib.Omega.{arith}
use Rattle.walk.proofs.Going.{passed_nearer, goes_first, goes_here, goes_on}
use Rattle.walk.proofs.walk.onward.Goals as goal

pub loop-moment-init : goal.loop-moment-init
loop-moment-init c = goes_first _ _ _ _

pub returns-then-not-passed_by : goal.returns-then-not-passed_by
returns-then-not-passed_by c =
    goes_here c.loop-moment.invariant (sym c.next-moment.ensures) (sym c.passed_by.ensures ∙ c.if-not-passed_by.true)

pub loop-moment-smaller : goal.loop-moment-smaller
loop-moment-smaller c =
    passed_nearer c.loop-moment.bus c.loop-moment.place c.args.s.now c.args.ends (λ i. omega (arith, c.type_inv.s i)) (sym c.next-moment.ensures) (sym c.passed_by.ensures ∙ c.if-not-passed_by.false)

pub loop-moment-preserved : goal.loop-moment-preserved
loop-moment-preserved c =
    goes_on (λ i. omega (arith, c.type_inv.s i)) c.loop-moment.invariant (sym c.next-moment.ensures) (sym c.passed_by.ensures ∙ c.if-not-passed_by.false)
