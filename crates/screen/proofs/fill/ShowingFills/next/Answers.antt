-- A fill of the display's lines leaves fewer to come.
use Rattle.std.proofs.Common.{sym, subst, ◌<◌, rules}
use Rattle.screen.specs.Fill.{Fill}
use Rattle.screen.specs.Series.{fills_to_come}
use Rattle.screen.proofs.Fewer.{fewer}
use Rattle.screen.proofs.fill.ShowingFills.next.Goals as goal

pub returns-clause-nearer : goal.returns-clause-nearer
returns-clause-nearer c =
    let s = c.args.s.now in
    let g = c.args.self.now in
    λ d. subst (λ (v : Fill). fills_to_come s v.showing < fills_to_come s g) (sym c.fill.ensures) (fewer g s c.args.out.now.page (λ i. search rules) d)
