-- `screen::fill::Showing::fill` meets its contract: enough turns are left for what is to go.
use Rattle.std.proofs.Common.{true, refl, sym, ap, ◌∙◌, rules}
use mathlib.Core.Bool.{Bool}
use Rattle.walk.proofs.Going.{walked_nearer}
use Rattle.screen.specs.Fill.{so_far}
use Rattle.screen.proofs.Filling.{fills_first, fills_full, fills_end, fills_on, shown_is}
use Rattle.screen.proofs.fill.Showing.fill.Goals as goal

pub loop-out-init : goal.loop-out-init
loop-out-init c = record { bytes = λ i. search rules; comes = rw c.rewind.ensures (fills_first c.args.self.now _ _); going = refl }

pub returns-then-is_end : goal.returns-then-is_end
returns-then-is_end c =
    fills_end c.loop-out.invariant.comes c.loop-out-test.true c.onward-moment.ensures (sym c.is_end.ensures ∙ c.if-is_end.true)
    (shown_is _ c.onward-moment.result c.onward-moment.new.bus c.shown.ensures c.next.ensures) refl

pub loop-out-smaller : goal.loop-out-smaller
loop-out-smaller c =
    let l = c.loop-out in
    let e = sym c.onward-moment.ensures in
    rw e at (walked_nearer l.self.bus l.self.place _ true l.invariant.bytes (rw e (sym c.is_end.ensures ∙ c.if-is_end.false)))

pub loop-out-preserved : goal.loop-out-preserved
loop-out-preserved c =
    let l = c.loop-out in
    record {
      bytes = l.invariant.bytes;
      comes = fills_on l.invariant.bytes l.invariant.comes c.loop-out-test.true c.onward-moment.ensures (sym c.is_end.ensures ∙ c.if-is_end.false)
          (shown_is _ c.onward-moment.result c.onward-moment.new.bus c.shown.ensures c.next.ensures);
      going = l.invariant.going;
    }

pub returns-after-loop-out : goal.returns-after-loop-out
returns-after-loop-out c =
    let l = c.loop-out in
    fills_full l.invariant.comes c.loop-out-test.false (ap (λ (d : Bool). so_far l.self.place l.self.bus d) l.invariant.going)
