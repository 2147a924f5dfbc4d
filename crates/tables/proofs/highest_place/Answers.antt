-- `highest_place` counts the zeros above the highest bit that is set.
use native.Mathlib.Omega.{arith}
use Rattle.tables.proofs.Places.{top_found, leading_few}
use Rattle.tables.proofs.highest_place.Goals as goal

pub overflow_sub-result : goal.overflow_sub-result
overflow_sub-result c = omega (arith, leading_few c.args.mask c.ranges.mask.fits)

pub returns : goal.returns
returns c = top_found c.args.mask c.ranges.mask.fits
