-- `least_of_four` takes the fewest of four states' units.
use Rattle.searches.proofs.Lowest.{fewest_four}
use Rattle.searches.proofs.fewest.least_of_four.Goals as goal

pub returns : goal.returns
returns c =
    fewest_four _ _ _ _ _ _ c.load.ensures c.load-2.ensures c.load-3.ensures c.load-4.ensures _ c.fewest_of_four.ensures
