-- `sheet::fill::Fields::fill` meets its contract.
use Prim.Native.Nat.{◌-◌}
use lib.ListN.{length}
use Rattle.sheet.specs.Fill.{filled}
use Rattle.sheet.proofs.Filling.{FillsTo}
use Rattle.sheet.proofs.fill.Fields.fill.Given as goal

abbrev pub invariant-loop-self : goal.invariant-loop-self
invariant-loop-self l =
    FillsTo l.s l.self.next l.out (filled l.s l.fn.self.next l.fn.out.page)

abbrev pub decreases-loop-self : goal.decreases-loop-self
decreases-loop-self l =
    length l.s - l.self.next
