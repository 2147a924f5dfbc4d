-- `spends` takes the units of one row after the other. The invariant of its loop: what all rows use and what is left is what the rows to come use and the
-- units.
use Rattle.std.proofs.Common.{◌≡◌, ◌+◌, length, drop}
use Rattle.rules.specs.AnyTable.{used_at}
use Rattle.rules.specs.Entries.{rows_of}
use Rattle.pairings.specs.Rows.{side_of}
use Rattle.pairings.proofs.spends.Given as goal

abbrev pub invariant-loop-row : goal.invariant-loop-row
invariant-loop-row l = used_at (side_of l.second) l.place (rows_of l.rows) + l.left ≡ used_at (side_of l.second) l.place (drop (length l.yielded) (rows_of l.rows)) + l.units
