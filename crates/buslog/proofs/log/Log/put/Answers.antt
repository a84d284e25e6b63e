-- `log::ring::Log::put` meets its contract.
use borrow.Author.Tests.{lt-ltb, le-ltb}
use Rattle.buslog.specs.Ring.{pushed_one, pushed}
use Rattle.buslog.proofs.log.Log.put.Goals as goal
use Rattle.buslog.proofs.log.Log.put.Goals.{else-self-via-then-self+else-at-bytes, else-self-via-else-self}

pub returns-then-at-bytes : goal.returns-then-at-bytes
unfolding pushed pushed_one
returns-then-at-bytes c = simp (lt-ltb _ _ c.if-at-bytes.true, lt-ltb _ _ c.if-self.true, ← c.place-at.ensures)

pub returns-else-self : goal.returns-else-self
unfolding pushed pushed_one
returns-else-self c =
    elim c.else-self.branch [
      | else-self-via-then-self+else-at-bytes w ↦ simp (le-ltb _ _ w.if-at-bytes.false, lt-ltb _ _ w.if-self.true, ← c.place-at.ensures)
      | else-self-via-else-self w ↦ simp (le-ltb _ _ w.if-self.false)
    ]
