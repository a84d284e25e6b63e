use Rattle.std.proofs.Common.{[], ◌∷◌, refl}
use Rattle.scenario.proofs.Written.{one_more}
use Rattle.scenario.proofs.pen.Pen.word.Goals as goal

pub loop-b-preserved : goal.loop-b-preserved
loop-b-preserved c =
    one_more (λ xs. xs) (λ x. x ∷ []) (λ xs x. refl) _ _ _ _ c.loop-b-test.true c.loop-b.invariant c.laid-at.ensures
