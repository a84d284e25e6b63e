-- A fill of a sheet's lines leaves fewer to come.
use Rattle.std.proofs.Common.{length, ap, arith}
use borrow.Author.Tests.{leb-false}
use Rattle.sheet.specs.Fill.{Fill}
use Rattle.sheet.proofs.Filling.{gets_on}
use Rattle.sheet.proofs.fill.FieldsFills.next.Goals as goal

pub returns-clause-nearer : goal.returns-clause-nearer
returns-clause-nearer c =
    let s = c.args.s.now in
    let at = c.args.self.now.next in
    λ o. let here = leb-false (length s) at o in
    omega (arith, here, ap (λ (f : Fill). f.next) c.fill.ensures, gets_on s at c.args.out.now.page here)
