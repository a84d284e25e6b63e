use Rattle.std.proofs.Common.{sym, subst, rules}
use Rattle.walk.specs.Field.{Bytes}
use Rattle.scenario.specs.Output.{output}
use Rattle.scenario.specs.Pen.{blank}
use Rattle.scenario.specs.Series.{PrintsAll}
use Rattle.scenario.proofs.Written.{blank_whole}
use Rattle.printed.proofs.Output.{fills_are_output}
use Rattle.desk.proofs.run.Goals as goal

pub returns-clause-ok : goal.returns-clause-ok
returns-clause-ok g c =
    let s = c.args.s.now in
    let all : Bytes s = λ i. search rules in
    let p = fills_are_output s blank.page all blank_whole in
    c.print.ensures.ok (output s) (subst (λ v. PrintsAll s v blank.page (output s)) (sym c.start.ensures) (p.fills, p.prints))
