-- `is_whole` meets its contract. The invariant of its loop: WHOLE and the units of the states that are left are what is left of WHOLE and the
-- units of all.
use Rattle.std.proofs.Common.{◌≡◌, ◌+◌, ◌≤◌, drop}
use Rattle.rules.specs.Units.{whole}
use Rattle.rules.specs.AnyTable.{total}
use Rattle.any_table.proofs.is_whole.Given as goal

abbrev pub invariant-loop-i : goal.invariant-loop-i
invariant-loop-i g l =
    let k = g.K.Kind in
    (l.left ≤ whole) × (whole + total k.listing (drop l.i (k.states l.words)) ≡ l.left + total k.listing (k.states l.words))
