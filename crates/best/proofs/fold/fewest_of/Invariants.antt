-- `fewest_of` goes from place to place. The invariant of its loop: the search for the fewest units has come to place `i`.
use Prim.Native.Nat.{◌<◌}
use lib.ListN.{take}
use Rattle.words.specs.BestTables.{table_of}
use Rattle.rules.specs.Best.{kind}
use Rattle.tables.proofs.Folding.{Fewest}
use Rattle.best.proofs.fold.fewest_of.Given as goal

abbrev pub invariant-loop-i : goal.invariant-loop-i
invariant-loop-i l = (l.fewest < l.i) × Fewest kind (take l.n (table_of l.words)) l.fewest l.units.0 l.i
