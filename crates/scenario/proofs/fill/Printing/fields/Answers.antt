-- `scenario::fill::Printing::fields` meets its contract.
use Rattle.std.proofs.Common.{◌≡◌, refl, sym, ap, ◌∙◌, rules}
use Rattle.bus.specs.Bus.{Answer}
use Rattle.walk.specs.Walk.{called, came, next, is_end}
use Rattle.walk.specs.Walk.{Step}
use Rattle.walk.proofs.Going.{next_is, ran, heard}
use Rattle.walk.proofs.Nearer.{nearer}
use Rattle.scenario.specs.declared.fill.Stage.{Stage}
use Rattle.scenario.specs.Fill.{filling, printed}
use Rattle.scenario.proofs.Filling.{fills_first, fills_full, fills_next, fills_over, fills_came, came_nearer}
use Rattle.scenario.proofs.Written.{nothing}
use Rattle.scenario.proofs.fill.Printing.fields.Goals as goal
use Rattle.scenario.proofs.fill.Printing.fields.Goals.{in-Slots, in-Hear}

pub loop-out-init : goal.loop-out-init
loop-out-init c = record { bytes = λ i. search rules; comes = fills_first _ _ _ _; going = refl }

pub loop-out-smaller-in-Call : goal.loop-out-smaller-in-Call
loop-out-smaller-in-Call c =
    let l = c.loop-out in
    let e = next_is l.bus l.place _ c.ahead-ahead.ensures c.in-Call.is in
    rw c.within-place.ensures (rw e at (nearer l.bus l.place _ l.invariant.bytes (ap (λ (n : Step). is_end n.moment) e)))

pub loop-out-preserved-in-Call : goal.loop-out-preserved-in-Call
loop-out-preserved-in-Call c =
    let l = c.loop-out in
    let e =
    next_is l.bus l.place _ c.ahead-ahead.ensures c.in-Call.is
    ∙ ap (λ (r : Answer). called r c.ahead-ahead.result.to) (sym c.apply-verdict.ensures) in
    record {
      bytes = l.invariant.bytes;
      comes = rw c.within-place.ensures (fills_next l.invariant.bytes l.invariant.comes c.loop-out-test.true e refl c.verdict_line.ensures);
      going = l.invariant.going;
    }

pub loop-out-smaller-in-Pass : goal.loop-out-smaller-in-Pass
loop-out-smaller-in-Pass c =
    let l = c.loop-out in
    let e = next_is l.bus l.place _ c.ahead-ahead.ensures c.in-Pass.is in
    rw c.before-place.ensures (rw e at (nearer l.bus l.place _ l.invariant.bytes (ap (λ (n : Step). is_end n.moment) e)))

pub loop-out-preserved-in-Pass : goal.loop-out-preserved-in-Pass
loop-out-preserved-in-Pass c =
    let l = c.loop-out in
    let e = next_is l.bus l.place _ c.ahead-ahead.ensures c.in-Pass.is in
    record {
      bytes = l.invariant.bytes;
      comes = rw c.before-place.ensures (fills_next l.invariant.bytes l.invariant.comes c.loop-out-test.true e refl (nothing _));
      going = l.invariant.going;
    }

pub returns-in-End : goal.returns-in-End
returns-in-End c =
    let l = c.loop-out in
    rw c.before-place-in-End.ensures
    (fills_over l.invariant.comes c.loop-out-test.true (next_is l.bus l.place _ c.ahead-ahead.ensures c.in-End.is) refl refl c.end_line.ensures)

pub loop-out-smaller : goal.loop-out-smaller
loop-out-smaller c =
    let l = c.loop-out in
    -- slots were run, undisturbed or heard as given
    let ran : next l.bus l.place c.args.s.now ≡ came c.match-ahead.bus c.ahead-ahead.result.to c.match-ahead.left =
    elim c.match-ahead.branch [
      | in-Slots w ↦ rw (w.bus-is, w.left-is) (next_is l.bus l.place _ c.ahead-ahead.ensures w.in-Slots.is ∙ ran _ _ _ _ _ w.run-left.ensures)
      | in-Hear w ↦ rw (w.bus-is, w.left-is) (next_is l.bus l.place _ c.ahead-ahead.ensures w.in-Hear.is ∙ heard _ _ _ _ w.slot_heard.ensures.bus)
    ] in
    rw c.came-place.ensures (came_nearer l.bus l.place _ c.match-ahead.bus _ c.match-ahead.left _ l.invariant.bytes ran c.slot_lines-told.ensures.told)

pub loop-out-preserved : goal.loop-out-preserved
loop-out-preserved c =
    let l = c.loop-out in
    -- slots were run, undisturbed or heard as given
    let ran : next l.bus l.place c.args.s.now ≡ came c.match-ahead.bus c.ahead-ahead.result.to c.match-ahead.left =
    elim c.match-ahead.branch [
      | in-Slots w ↦ rw (w.bus-is, w.left-is) (next_is l.bus l.place _ c.ahead-ahead.ensures w.in-Slots.is ∙ ran _ _ _ _ _ w.run-left.ensures)
      | in-Hear w ↦ rw (w.bus-is, w.left-is) (next_is l.bus l.place _ c.ahead-ahead.ensures w.in-Hear.is ∙ heard _ _ _ _ w.slot_heard.ensures.bus)
    ] in
    record {
      bytes = l.invariant.bytes;
      comes = rw c.came-place.ensures
          (fills_came c.match-ahead.bus _ c.match-ahead.left _ l.invariant.bytes l.invariant.comes c.loop-out-test.true ran c.slot_lines-told.ensures.told c.slot_lines-told.ensures.lines);
      going = l.invariant.going;
    }

pub returns-after-loop-out : goal.returns-after-loop-out
returns-after-loop-out c =
    let l = c.loop-out in
    ap (λ (t : Stage). filling (printed t l.place l.bus) l.out) l.invariant.going ∙ fills_full l.invariant.comes c.loop-out-test.false
