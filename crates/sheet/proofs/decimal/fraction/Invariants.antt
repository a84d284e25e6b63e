-- `sheet::decimal::fraction` meets its contract.
use Rattle.std.proofs.Common.{◌≡◌, ◌-◌, ◌<◌}
use Rattle.scenario.specs.Pen.{penned}
use Rattle.sheet.specs.Decimal.{fraction_text}
use Rattle.sheet.proofs.decimal.fraction.Given as goal

abbrev pub invariant-loop : goal.invariant-loop
invariant-loop l = (l.left < 256) × (penned l.out (fraction_text (8 - l.counter) l.left) ≡ penned l.initial.out (fraction_text 8 l.part))
