-- `crc::step` meets its contract: what is reduced so far has been multiplied by x once for each turn.
use Rattle.std.proofs.Common.{◌≡◌}
use Rattle.crc.specs.Crc.{times_xⁿ}
use Rattle.crc.proofs.step.Given as goal

abbrev pub invariant-loop : goal.invariant-loop
invariant-loop l =
    l.reduced ≡ times_xⁿ l.counter l.initial.reduced
