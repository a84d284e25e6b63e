-- `bus::bus::Bus::run` meets its contract.
use Rattle.std.proofs.Common.{◌∙◌, sym, refl}
use Rattle.bus.proofs.Strides.{tens_on, tens_less, stops, continues, ends}
use Rattle.bus.proofs.bus.Bus.run.Goals as goal

pub loop-left-smaller-then-goes_by_tens : goal.loop-left-smaller-then-goes_by_tens
loop-left-smaller-then-goes_by_tens c =
    tens_less c.loop-left.self _ c.loop-left.left refl (sym c.goes_by_tens.ensures ∙ c.if-goes_by_tens.true)

pub loop-left-preserved-then-goes_by_tens : goal.loop-left-preserved-then-goes_by_tens
loop-left-preserved-then-goes_by_tens c =
    c.loop-left.invariant ∙ tens_on c.loop-left.self _ c.loop-left.left refl (sym c.goes_by_tens.ensures ∙ c.if-goes_by_tens.true)

pub loop-left-preserved : goal.loop-left-preserved
loop-left-preserved c =
    let b = c.loop-left.self in
    let next = c.slot.ensures.bus in
    c.loop-left.invariant ∙ continues b _ c.loop-left.left c.loop-left-test.true next (sym c.slot.ensures.told ∙ c.if-slot.false)

pub returns-after-loop-left : goal.returns-after-loop-left
returns-after-loop-left c = sym (c.loop-left.invariant ∙ ends c.loop-left.self c.loop-left.left c.loop-left-test.false)

pub returns-then-slot : goal.returns-then-slot
returns-then-slot c =
    let b = c.loop-left.self in
    let next = c.slot.ensures.bus in
    sym (c.loop-left.invariant ∙ stops b _ c.loop-left.left c.loop-left-test.true next (sym c.slot.ensures.told ∙ c.if-slot.true))
