-- `count` goes through the slot. The invariant of its loop: the first n states have units, so that the rest tells.
use Rattle.rules.specs.Table.{listing}
use Rattle.words.specs.Tables.{table_of}
use Rattle.tables.proofs.Nodes.{FilledTo}
use Rattle.estimate.proofs.slots.count.Given as goal

abbrev pub invariant-loop-n : goal.invariant-loop-n
invariant-loop-n l = FilledTo listing (table_of l.work) l.at l.n
