-- `log::read::Log::oldest` meets its contract.
use borrow.Author.Tests.{le-leb, lt-leb, eq-eqb, ne_eqb}
use Rattle.buslog.specs.Read.{copy_of, oldest_into}
use Rattle.buslog.proofs.log.Log.oldest.Goals as goal

pub returns-then-self-eq0 : goal.returns-then-self-eq0
unfolding oldest_into
returns-then-self-eq0 c = rw (eq-eqb _ _ c.if-self-eq0.true)

pub returns-then-out-n : goal.returns-then-out-n
unfolding oldest_into
returns-then-out-n c = rw (ne_eqb _ _ c.if-self-eq0.false, ← c.size_of_oldest-n.ensures, lt-leb _ _ c.if-out-n.true)

pub returns : goal.returns
unfolding oldest_into copy_of
returns c = rw (ne_eqb _ _ c.if-self-eq0.false, ← c.size_of_oldest-n.ensures, le-leb _ _ c.if-out-n.false, c.copy.ensures)
