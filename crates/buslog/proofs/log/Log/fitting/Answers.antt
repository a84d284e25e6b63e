-- `log::read::Log::fitting` meets its contract.
use native.Mathlib.Omega.{arith}
use Rattle.buslog.proofs.Going.{fewer, fits_end, fits_full, fits_on}
use Rattle.buslog.proofs.log.Log.fitting.Goals as goal

pub returns-then-n-used : goal.returns-then-n-used
returns-then-n-used c = fits_full c.loop-rest.invariant.1 c.size_of_oldest-size.ensures c.loop-rest-test.true c.if-n-used.true

pub loop-rest-smaller : goal.loop-rest-smaller
loop-rest-smaller c = fewer _ _ c.size_of_oldest-size.ensures c.without-rest.ensures c.loop-rest-test.true

pub loop-rest-preserved : goal.loop-rest-preserved
loop-rest-preserved c = (omega arith, fits_on c.loop-rest.invariant.1 c.size_of_oldest-size.ensures c.without-rest.ensures c.loop-rest-test.true c.if-n-used.false)

pub returns : goal.returns
returns c = fits_end c.loop-rest.invariant.1 c.loop-rest-test.false
