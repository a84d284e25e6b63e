use Rattle.pairs.proofs.Placed.{refused_ask, asked_at, asked_nowhere}
use Rattle.pairs.proofs.ask.Goals as goal

pub returns-then-table-ne-RECORDS : goal.returns-then-table-ne-RECORDS
returns-then-table-ne-RECORDS c = refused_ask c.args.table.now c.args.c c.args.qq c.args.zz c.if-table-ne-RECORDS.true

pub returns-in-Some : goal.returns-in-Some
returns-in-Some c =
    asked_at c.args.table.now c.args.c c.args.qq c.args.zz c.if-table-ne-RECORDS.false c.in_use.ensures c.in-Some.ensures

pub returns-in-None : goal.returns-in-None
returns-in-None c =
    asked_nowhere c.args.table.now c.args.c c.args.qq c.args.zz c.if-table-ne-RECORDS.false c.in_use.ensures c.in-None.ensures
