-- `in_form` counts the rows down, entry by entry. The invariant of its loop: the test of the entries that are left, with the rows that are left, is the test
-- of all.
use Rattle.std.proofs.Common.{◌≡◌, ◌*◌, ◌&&◌, eqb, drop}
use Rattle.rules.specs.Entries.{few_rows, rows_told, in_form}
use Rattle.pairings.proofs.in_form.Given as goal

abbrev pub invariant-loop-many : goal.invariant-loop-many
invariant-loop-many l = (few_rows (drop l.many-index l.counts) && eqb l.left (rows_told (drop l.many-index l.counts) * 3)) ≡ in_form l.joins l.counts l.rows
