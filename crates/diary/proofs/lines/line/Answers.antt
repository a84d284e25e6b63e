-- `diary::lines::line` meets its contract.
use native.Mathlib.Omega.{arith}
use Rattle.scenario.specs.Lines.{hexes_text}
use Rattle.scenario.specs.Pen.{hex_text}
use Rattle.scenario.proofs.Texts.{hexes_snoc}
use Rattle.scenario.proofs.Written.{nothing, both, one_more, all_of}
use Rattle.diary.proofs.Lined.{some_line, no_line}
use Rattle.diary.proofs.lines.line.Goals as goal
use Rattle.diary.proofs.lines.line.Goals.{in_default, in-len1-up+else-loop-b-test}

pub loop-b-init : goal.loop-b-init
unfolding hexes_text
loop-b-init c = nothing _

pub loop-b-preserved : goal.loop-b-preserved
loop-b-preserved c = one_more hexes_text hex_text hexes_snoc _ _ _ _ c.loop-b-test.true c.loop-b.invariant c.hex.ensures

pub returns : goal.returns
returns c =
    let rec = c.args.rec.now in
    elim c.if-rec-lt1.branch [
      | in_default w ↦ rw (no_line rec (omega arith)) (rw w.out-is at c.word.ensures)
      | in-len1-up+else-loop-b-test w ↦
          rw (some_line rec (omega arith))
          (both _ _ _ (both _ _ _ w.byte.ensures (all_of hexes_text _ _ _ w.loop-b-test.false w.loop-b.invariant)) (rw w.out-is at c.word.ensures))
    ]
