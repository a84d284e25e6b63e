-- `scenario::fill::Printing::fields` meets its contract: enough turns are left for what is to go.
use Rattle.std.proofs.Common.{◌≡◌}
use Rattle.walk.specs.Field.{Bytes}
use Rattle.walk.specs.Walk.{to_go}
use Rattle.scenario.specs.declared.fill.Stage.TheVariants.{Fields}
use Rattle.scenario.specs.Fill.{fields_filled}
use Rattle.scenario.proofs.Filling.{FillsTo}
use Rattle.scenario.proofs.fill.Printing.fields.Given as goal

abbrev pub invariant-loop-out : goal.invariant-loop-out
invariant-loop-out l =
    record {
      bytes : Bytes l.s;
      comes : FillsTo l.bus l.place l.s l.out (fields_filled l.initial.place l.initial.bus l.s l.initial.out);
      going : l.stage ≡ Fields;
    }

abbrev pub decreases-loop-out : goal.decreases-loop-out
decreases-loop-out l = to_go l.place l.s
