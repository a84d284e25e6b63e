use Rattle.std.proofs.Common.{true, false, take}
use Rattle.pairs.proofs.HeardLines.{pass_on, pass_end, slot_heard}
use Rattle.pairs.proofs.Counts.hear.Goals as goal

pub loop-t-preserved : goal.loop-t-preserved
loop-t-preserved c =
    pass_on false (take c.attached.result c.args.b.turns) c.loop-t.t-index _ c.loop-t.h c.loop-t-test.true c.first_of.ensures c.loop-t.invariant

pub loop-u-preserved : goal.loop-u-preserved
loop-u-preserved c =
    pass_on true (take c.attached.result c.args.b.turns) c.loop-u.u-index _ c.loop-u.h c.loop-u-test.true c.last_of.ensures c.loop-u.invariant

pub returns : goal.returns
returns c =
    slot_heard c.args.self c.args.b c.attached.result c.attached.ensures
    (pass_end false _ c.loop-t.t-index c.loop-t.h c.loop-t-test.false c.loop-t.invariant)
    (pass_end true _ c.loop-u.u-index c.loop-u.h c.loop-u-test.false c.loop-u.invariant)
