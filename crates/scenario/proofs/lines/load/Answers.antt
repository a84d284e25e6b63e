-- `scenario::lines::load` meets its contract.
use Rattle.std.proofs.Common.{◌≡◌, ◌≤◌, take, arith, rules}
use Rattle.wire.proofs.Filling.{count_at_most, counted_bytes}
use Rattle.wire.specs.Form.{bytes_of}
use Rattle.scenario.specs.Pen.{hex_text}
use Rattle.scenario.specs.Lines.{hexes_text, load_text}
use Rattle.scenario.proofs.Written.{nothing, both, one_more, all_of}
use Rattle.scenario.proofs.Texts.{hexes_snoc}
use Rattle.scenario.proofs.lines.load.Goals as goal

pub shared_ref_as_front-b-items : goal.shared_ref_as_front-b-items
shared_ref_as_front-b-items c =
    let h : c.count_of-nn.result ≤ 16 = rw c.count_of-nn.ensures (count_at_most _) in omega arith

pub loop-b-init : goal.loop-b-init
unfolding hexes_text
loop-b-init c = nothing _

pub loop-b-preserved : goal.loop-b-preserved
loop-b-preserved c = one_more hexes_text hex_text hexes_snoc _ _ _ _ c.loop-b-test.true c.loop-b.invariant c.hex-in-loop-b.ensures

pub returns : goal.returns
unfolding load_text
returns c =
    let l = c.args.l in
    let e : take c.from.result l.bytes ≡ bytes_of l = rw (c.from.ensures, c.count_of-nn.ensures) (counted_bytes l (search rules)) in
    rw (← c.count_of-nn.ensures, ← e) (both _ _ _ c.hex.ensures (all_of hexes_text _ _ _ c.loop-b-test.false c.loop-b.invariant))
