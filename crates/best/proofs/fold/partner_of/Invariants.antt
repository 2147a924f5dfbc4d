-- `partner_of` goes from place to place among the others. The invariant of its loop: the search for the partner has come to place `j`.
use lib.ListN.{take}
use Rattle.rules.specs.Ordered.{remove}
use Rattle.words.specs.BestTables.{table_of}
use Rattle.best.proofs.Folding.{Nearest}
use Rattle.best.proofs.fold.partner_of.Given as goal

abbrev pub invariant-loop-j : goal.invariant-loop-j
invariant-loop-j l = Nearest l.s (remove l.at (take l.n (table_of l.words))) l.partner l.near l.j
