-- `scenario::fill::slot_lines` meets its contract: the lines of the first stations are written, and whether one of them was told something.
use Rattle.std.proofs.Common.{◌≡◌, true, false, take}
use Rattle.laws.specs.First.{first_from, is_found}
use Rattle.bus.specs.Events.{lines_of}
use Rattle.bus.specs.Find.{meets}
use Rattle.bus.specs.declared.find.Query.TheVariants.{WasTold}
use Rattle.scenario.specs.Lines.{text_at}
use Rattle.scenario.specs.Pen.{penned}
use Rattle.scenario.proofs.fill.slot_lines.Given as goal

abbrev pub invariant-loop-t : goal.invariant-loop-t
invariant-loop-t l =
    record {
      written : l.out ≡ penned l.initial.out (text_at l.time (lines_of false (take l.t-index l.turns)));
      asked : l.told ≡ is_found (first_from (meets WasTold) 0 (take l.t-index l.turns));
    }

abbrev pub invariant-loop-t-2 : goal.invariant-loop-t-2
invariant-loop-t-2 l = l.out ≡ penned l.initial.out (text_at l.time (lines_of true (take l.t-index l.turns)))
