-- `sheet::lines::shares` meets its contract.
use Rattle.std.proofs.Common.{◌∷◌, []}
use lib.Ieee.{Float}
use Rattle.scenario.proofs.Written.{nothing, both, one_more, all_of}
use Rattle.sheet.specs.Decimal.{float_text}
use Rattle.sheet.specs.Lines.{shares_text}
use Rattle.sheet.proofs.Shown.{shares_snoc}
use Rattle.sheet.proofs.lines.shares.Goals as goal

pub loop-x-init : goal.loop-x-init
unfolding shares_text
loop-x-init c = nothing _

pub loop-x-preserved : goal.loop-x-preserved
loop-x-preserved c =
    one_more shares_text (λ (x : Float). 32 ∷ float_text x) shares_snoc _ _ _ _ c.loop-x-test.true c.loop-x.invariant
    (both _ (32 ∷ []) _ c.word.ensures c.float.ensures)

pub returns : goal.returns
returns c = all_of shares_text _ _ _ c.loop-x-test.false c.loop-x.invariant
