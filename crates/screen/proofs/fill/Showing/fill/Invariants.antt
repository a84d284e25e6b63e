-- `screen::fill::Showing::fill` meets its contract: enough turns are left for what is to go.
use Rattle.std.proofs.Common.{◌≡◌, false}
use Rattle.walk.specs.Field.{Bytes}
use Rattle.walk.specs.Walk.{to_go}
use Rattle.screen.specs.Fill.{filled}
use Rattle.screen.proofs.Filling.{FillsTo}
use Rattle.screen.proofs.fill.Showing.fill.Given as goal

abbrev pub invariant-loop-out : goal.invariant-loop-out
invariant-loop-out l =
    record {
      bytes : Bytes l.s;
      comes : FillsTo l.self.bus l.self.place l.s l.out (filled l.fn.self l.s l.fn.out.page);
      going : l.self.done ≡ false;
    }

abbrev pub decreases-loop-out : goal.decreases-loop-out
decreases-loop-out l = to_go l.self.place l.s
