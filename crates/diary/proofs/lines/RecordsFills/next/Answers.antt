-- A fill of the records' lines leaves fewer to come.
use Rattle.std.proofs.Common.{length, ap, arith}
use borrow.Author.Tests.{leb-false}
use Rattle.diary.specs.Fill.{Fill}
use Rattle.diary.proofs.Filling.{gets_on}
use Rattle.diary.proofs.lines.RecordsFills.next.Goals as goal

pub returns-clause-nearer : goal.returns-clause-nearer
returns-clause-nearer c =
    let held = c.args.held.now in
    let at = c.args.self.now.next in
    λ o. let here = leb-false (length held) at o in
    omega (arith, here, ap (λ (f : Fill). f.next) c.fill.ensures, gets_on held at c.args.out.now.page here)
