-- `screen::fill::Showing::start` meets its contract.
use Rattle.screen.specs.Fill.{started}
use Rattle.screen.proofs.fill.Showing.start.Goals as goal

pub returns : goal.returns
unfolding started
returns c = simp (c.power_on.ensures, c.before-2.ensures)
