-- `desk::print` ends, since each fill leaves fewer to come; what is written, and behind it what the fills to come print, is all of it.
use Rattle.std.proofs.Common.{◌≡◌, ℕ, List, ◌++◌}
use Rattle.std.specs.Io.KnownBytes.{Appends}
use Rattle.scenario.specs.Pen.{blank}
use Rattle.desk.proofs.print.Given as goal

abbrev pub invariant-loop-out : goal.invariant-loop-out
invariant-loop-out g l =
    (x : List ℕ) → g.P.Fills.Prints l.s l.fn.p blank.page x
    → (written : List ℕ) × (rest : List ℕ)
    × g.P.Fills.Prints l.s l.p l.out.page rest
    × Appends (g.W.Write.contents l.fn.to) (g.W.Write.contents l.to) written
    × (written ++ rest ≡ x)

abbrev pub decreases-loop-out : goal.decreases-loop-out
decreases-loop-out g l = g.P.Fills.left l.s l.p
