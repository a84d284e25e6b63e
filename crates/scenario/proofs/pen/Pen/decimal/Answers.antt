-- `scenario::pen::Pen::decimal` meets its contract: a number below 10 is its last digit.
use native.Mathlib.Omega.{arith}
use Rattle.scenario.specs.Pen.{decimal_text}
use Rattle.scenario.proofs.Written.{one_digit}
use Rattle.scenario.proofs.pen.Pen.decimal.Goals as goal

pub returns-then-n-lt10 : goal.returns-then-n-lt10
unfolding decimal_text
returns-then-n-lt10 c = rw (one_digit 10 c.args.n (omega arith) c.if-n-lt10.true, ← c.last_digit.ensures) c.put.ensures
