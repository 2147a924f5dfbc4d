-- `uses_each` goes through the states. The invariant of its loop: the test of the states that are left is the test of all.
use Rattle.std.proofs.Common.{◌≡◌, drop}
use Rattle.rules.specs.AnyTable.{uses_from}
use Rattle.rules.specs.Table.{listing}
use Rattle.rules.specs.Entries.{rows_of}
use Rattle.words.specs.Tables.{table_of}
use Rattle.pairings.specs.Rows.{side_of}
use Rattle.pairings.proofs.uses_each.Given as goal

abbrev pub invariant-loop-a : goal.invariant-loop-a
invariant-loop-a l =
    uses_from listing (side_of l.second) (rows_of l.rows) l.a (drop l.a (table_of l.words)) ≡ uses_from listing (side_of l.second) (rows_of l.rows) 0 (table_of l.words)
