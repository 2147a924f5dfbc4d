-- `pair_entry` finds the entry's rows, which stand behind those of the entries before it.
use Prim.Native.Nat.{◌+◌, ◌-◌, ◌*◌}
use native.Mathlib.Omega.{arith}
use lib.ListN.{drop, length-take}
use Rattle.rules.specs.Entries.{entry_of}
use Rattle.estimate.proofs.HandedIn.{none_front, entry_none, entry_there, entry_rows, entry_is}
use Rattle.estimate.proofs.handed.pair_entry.Goals as goal

pub returns-then-many : goal.returns-then-many
returns-then-many c = let a = c.args in
    none_front (entry_of a.counts.now a.rows.now a.number) _ _ _ _ _
    (entry_none a.counts.now a.rows.now a.number _ c.many_of-many.ensures c.if-many.true)
    c.pair_up-states.ensures

pub rows_before-from-requires : goal.rows_before-from-requires
rows_before-from-requires c = let a = c.args in
    let form = c.requires.5 in
    let there = entry_there a.counts.now a.rows.now a.number _ c.many_of-many.ensures c.if-many.false form in
    (omega (arith, there), omega (arith, form.all))

pub overflow_mul-from : goal.overflow_mul-from
overflow_mul-from c = let a = c.args in
    let rows = entry_rows a.counts.now a.rows.now a.number _ c.many_of-many.ensures c.if-many.false c.requires.5 in
    omega (arith, rows.1, c.rows_before-from.ensures)

pub overflow_mul-to : goal.overflow_mul-to
overflow_mul-to c = let a = c.args in
    let rows = entry_rows a.counts.now a.rows.now a.number _ c.many_of-many.ensures c.if-many.false c.requires.5 in
    omega (arith, rows.0)

pub overflow_add-to : goal.overflow_add-to
overflow_add-to c = let a = c.args in
    let rows = entry_rows a.counts.now a.rows.now a.number _ c.many_of-many.ensures c.if-many.false c.requires.5 in
    omega (arith, rows.1, c.rows_before-from.ensures)

pub offset_bounds-rows-from : goal.offset_bounds-rows-from
offset_bounds-rows-from c = let a = c.args in
    let rows = entry_rows a.counts.now a.rows.now a.number _ c.many_of-many.ensures c.if-many.false c.requires.5 in
    omega (arith, rows.1, c.rows_before-from.ensures)

pub slice_bounds-pair_given-end : goal.slice_bounds-pair_given-end
slice_bounds-pair_given-end c = let a = c.args in
    let rows = entry_rows a.counts.now a.rows.now a.number _ c.many_of-many.ensures c.if-many.false c.requires.5 in
    omega (arith, rows.1, c.rows_before-from.ensures)

pub pair_given-requires : goal.pair_given-requires
pair_given-requires c = let a = c.args in
    let p = c.requires in
    let many = c.many_of-many in
    let from = c.rows_before-from.result in
    let rows = entry_rows a.counts.now a.rows.now a.number _ many.ensures c.if-many.false p.5 in
    (p.0, p.1, p.2, p.3, p.4, omega (arith, rows.0, length-take (from * 3 + many.result * 3 - from * 3) (drop (from * 3) a.rows.now)))

pub returns : goal.returns
returns c = let a = c.args in
    let p = c.requires in
    rw (entry_is a.counts.now a.rows.now a.number _ c.many_of-many.ensures c.if-many.false p.5
    c.rows_before-from.result c.rows_before-from.ensures)
    c.pair_given.ensures
