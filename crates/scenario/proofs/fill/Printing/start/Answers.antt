-- `scenario::fill::Printing::start` meets its contract.
use Rattle.scenario.specs.Fill.{started}
use Rattle.scenario.proofs.fill.Printing.start.Goals as goal

pub returns : goal.returns
unfolding started
returns c = simp (c.power_on.ensures, c.before-2.ensures, c.form_of.ensures)
