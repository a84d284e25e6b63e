-- `scenario::pen::Pen::digits` ends: the measure is how many digits are written at most.
use Rattle.scenario.proofs.pen.Pen.+digits.Given as goal

abbrev pub decreases-digits : goal.decreases-digits
decreases-digits l = l.most
