-- A fill of a scenario leaves fewer to come.
use Rattle.std.proofs.Common.{sym, subst, ◌<◌, rules}
use Rattle.scenario.specs.Fill.{Fill}
use Rattle.scenario.specs.Series.{fills_to_come}
use Rattle.scenario.proofs.Fewer.{fewer}
use Rattle.scenario.proofs.fill.PrintingFills.next.Goals as goal

pub returns-clause-nearer : goal.returns-clause-nearer
returns-clause-nearer c =
    let s = c.args.s.now in
    let g = c.args.self.now in
    λ d. subst (λ (v : Fill). fills_to_come s v.printing < fills_to_come s g) (sym c.fill.ensures) (fewer g s c.args.out.now.page (λ i. search rules) d)
