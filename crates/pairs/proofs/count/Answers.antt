use Rattle.pairs.specs.Counts.{in_use}
use Rattle.pairs.proofs.Placed.{refused, went_on, counted_at, counted_new, counted_among}
use Rattle.pairs.proofs.count.Goals as goal

pub returns-then-table-ne-RECORDS : goal.returns-then-table-ne-RECORDS
returns-then-table-ne-RECORDS c = refused c.args.table.now c.args.h c.if-table-ne-RECORDS.true

pub returns-in_default : goal.returns-in_default
returns-in_default c = went_on c.args.table.now c.args.h c.if-table-ne-RECORDS.false c.in_default.is

pub returns-in-Some-find : goal.returns-in-Some-find
unfolding in_use
returns-in-Some-find c =
    counted_at c.args.table.now c.args.h c.if-table-ne-RECORDS.false c.in-Some.x c.in-Some.is c.in_use-n.ensures c.in-Some-find.ensures c.raise.ensures

pub returns-then-n-lt-RECORDS : goal.returns-then-n-lt-RECORDS
unfolding in_use
returns-then-n-lt-RECORDS c =
    counted_new c.args.table.now c.args.h c.if-table-ne-RECORDS.false c.in-Some.x c.in-Some.is c.in_use-n.ensures c.in_default-find.ensures
    c.if-n-lt-RECORDS.true c.opened.ensures

pub returns-else-n-lt-RECORDS : goal.returns-else-n-lt-RECORDS
unfolding in_use
returns-else-n-lt-RECORDS c =
    counted_among c.args.table.now c.args.h c.if-table-ne-RECORDS.false c.in-Some.x c.in-Some.is c.in_use-n.ensures c.in_default-find.ensures
    c.if-n-lt-RECORDS.false c.raise-else-n-lt-RECORDS.ensures
