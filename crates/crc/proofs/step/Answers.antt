-- `crc::step` meets its contract: what is reduced so far has been multiplied by x once for each turn.
use Rattle.std.proofs.Common.{◌≡◌, ℕ, zero, suc, refl, ap, ◌∙◌, add-one}
use Rattle.std.proofs.Math.Nat.{le_antisymm}
use Rattle.crc.specs.Crc.{times_x, times_xⁿ, crc_step}
use Rattle.crc.proofs.step.Goals as goal

one_more : (n r : ℕ) → times_xⁿ (suc n) r ≡ times_x (times_xⁿ n r)
unfolding times_xⁿ
one_more zero r = refl
one_more (suc n) r = one_more n (times_x r)

pub loop-init : goal.loop-init
unfolding times_xⁿ
loop-init c = refl

pub loop-preserved : goal.loop-preserved
loop-preserved c =
    rw (add-one, one_more c.loop.counter _) (c.times_x-reduced.ensures ∙ ap times_x c.loop.invariant)

pub returns : goal.returns
unfolding crc_step
returns c =
    rw (c.loop.invariant, le_antisymm c.loop.auto.counter-end c.loop-test.false)
