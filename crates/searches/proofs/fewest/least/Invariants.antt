-- `least` goes on one by one where `least_by_four` ends, with the same invariant.
use Rattle.words.specs.Tables.{table_of}
use Rattle.searches.specs.Least.{Lowest}
use Rattle.searches.proofs.fewest.least.Given as goal

abbrev pub invariant-loop-i : goal.invariant-loop-i
invariant-loop-i l = Lowest (table_of l.words) l.i l.units.0 l.from
