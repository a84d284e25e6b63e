-- `diary::lines::Records::fill` meets its contract.
use Prim.Native.Nat.{◌-◌}
use lib.ListN.{length}
use Rattle.diary.specs.Fill.{filled}
use Rattle.diary.proofs.Filling.{FillsTo}
use Rattle.diary.proofs.lines.Records.fill.Given as goal

abbrev pub invariant-loop-self : goal.invariant-loop-self
invariant-loop-self l =
    FillsTo l.held l.self.next l.out (filled l.held l.fn.self.next l.fn.out.page)

abbrev pub decreases-loop-self : goal.decreases-loop-self
decreases-loop-self l =
    length l.held - l.self.next
