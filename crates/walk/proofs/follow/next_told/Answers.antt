-- `walk::follow::next_told` meets its contract: what is still to come is what was.
use Rattle.std.proofs.Common.{false, sym, ap, ◌∙◌, arith}
use Rattle.walk.specs.Walk.{is_end}
use Rattle.walk.proofs.Going.{walked_nearer}
use Rattle.walk.proofs.Told.{passes, told_end, told_next}
use Rattle.walk.proofs.follow.next_told.Goals as goal

pub returns-in-Told-clause-told : goal.returns-in-Told-clause-told
returns-in-Told-clause-told c = λ _.
    sym c.loop.invariant
    ∙ rw c.in-Told.is at
    (told_next c.loop.bus c.loop.place c.args.s.now (λ i. omega (arith, c.type_inv.s i)) (sym c.onward.ensures) (ap is_end c.in-Told.is))

pub returns-in-Ended-clause-over : goal.returns-in-Ended-clause-over
returns-in-Ended-clause-over c = λ _.
    sym c.loop.invariant ∙ told_end c.loop.bus c.loop.place c.args.s.now (sym c.onward.ensures) (ap is_end c.in-Ended.is)

pub loop-smaller : goal.loop-smaller
loop-smaller c =
    let e = sym c.onward.ensures in
    rw e at (walked_nearer c.loop.bus c.loop.place c.args.s.now false (λ i. omega (arith, c.type_inv.s i)) (rw e (passes _ c.in-Called.is).goes_on))

pub loop-preserved : goal.loop-preserved
loop-preserved c =
    let p = passes _ c.in-Called.is in
    sym (told_next c.loop.bus c.loop.place c.args.s.now (λ i. omega (arith, c.type_inv.s i)) (sym c.onward.ensures) p.goes_on
    ∙ p.tells_nobody _ _)
    ∙ c.loop.invariant
