-- `work_graphs` meets its contract.
use mathlib.Core.Path.{◌≡◌, refl, ap, ◌∙◌}
use Prim.Native.Nat.{ℕ, ◌+◌, ◌-◌, ◌*◌, ◌≤◌, ◌<◌}
use native.Mathlib.Omega.{arith}
use borrow.Author.Rules.{rules}
use lib.ListN.{length, take, drop}
use Rattle.curve_numbers.specs.Places.{end_of}
use Rattle.curve_numbers.proofs.Places.{ends_later}
use Rattle.nightly.specs.Rows.{row_of}
use Rattle.nightly.proofs.Working.{halfway_start, all_reported, all_written, few_yet, ends_inside, room_for_row, row_fits, halfway_next}
use Rattle.nightly.proofs.graphs.work_graphs.Goals as goal
use Rattle.nightly.proofs.graphs.work_graphs.Goals.{After-end_of-end, After-work_graph-row}

pub loop-at-init : goal.loop-at-init
loop-at-init c =
    (search rules, refl, refl, refl, halfway_start c.args.allowance c.args.numbers.now c.args.rows.now c.requires.0)

-- where the graph ends
inside : (c : After-end_of-end) → let l = c.loop-at in
    (l.at + 1 ≤ c.end_of-end.result) × (c.end_of-end.result ≤ length c.args.numbers.now)
inside c =
    let l = c.loop-at in
    let ns = c.args.numbers.now in (
      omega (arith, c.end_of-end.ensures, ends_later 1 ns l.at c.loop-at-test.true),
      omega (arith, c.end_of-end.ensures, ends_inside c.args.allowance ns l.count l.at l.report l.rows l.invariant.4 c.loop-at-test.true),
    )

few : (c : After-end_of-end) → c.loop-at.count < 256
few c =
    let l = c.loop-at in
    few_yet c.args.allowance c.args.numbers.now l.count l.at l.report l.rows l.invariant.4 c.loop-at-test.true

-- the room has a place for its row
room : (c : After-end_of-end) → c.loop-at.count * 5 + 5 ≤ length c.loop-at.rows
room c =
    let l = c.loop-at in
    omega (arith, room_for_row c.args.allowance c.args.numbers.now l.count l.at l.report l.rows l.invariant.4 c.loop-at-test.true, c.requires.1, l.invariant.1)

-- its row is that of its numbers
row_is : (c : After-work_graph-row) → let l = c.loop-at in
    let ns = c.args.numbers.now in
    c.work_graph-row.result ≡ row_of c.args.allowance (take (end_of 1 ns l.at - (l.at + 1)) (drop (l.at + 1) ns))
row_is c =
    let l = c.loop-at in
    let ns = c.args.numbers.now in
    c.work_graph-row.ensures.value ∙ ap (λ (e : ℕ). row_of c.args.allowance (take (e - (l.at + 1)) (drop (l.at + 1) ns))) c.end_of-end.ensures

pub work_graph-row-requires : goal.work_graph-row-requires
work_graph-row-requires c =
    let l = c.loop-at in
    (room (goal.at.work_graph-row-requires c).After-end_of-end, omega (arith, l.invariant.2, c.requires.2), omega (arith, l.invariant.3, c.requires.3))

pub tally-report-requires : goal.tally-report-requires
tally-report-requires c =
    let l = c.loop-at in
    row_fits c.args.allowance c.args.numbers.now l.count l.at l.report l.rows l.invariant.4 c.loop-at-test.true _ (row_is (goal.at.tally-report-requires c).After-work_graph-row)

pub overflow_add-count : goal.overflow_add-count
overflow_add-count c = omega (arith, few (goal.at.overflow_add-count c).After-end_of-end)

pub loop-at-smaller : goal.loop-at-smaller
loop-at-smaller c =
    omega (arith, (inside (goal.at.loop-at-smaller c).After-end_of-end).0, (inside (goal.at.loop-at-smaller c).After-end_of-end).1)

pub loop-at-preserved : goal.loop-at-preserved
loop-at-preserved c =
    let l = c.loop-at in (
      (inside (goal.at.loop-at-preserved c).After-end_of-end).1,
      search rules,
      search rules,
      search rules,
      halfway_next c.args.allowance c.args.numbers.now l.count l.at l.report l.rows l.invariant.4 c.loop-at-test.true _ (row_is (goal.at.loop-at-preserved c).After-work_graph-row) _ c.tally-report.ensures _
          c.work_graph-row.ensures.rows_after (room (goal.at.loop-at-preserved c).After-end_of-end) _ c.end_of-end.ensures,
    )

pub returns : goal.returns
returns c =
    let l = c.loop-at in
    let ns = c.args.numbers.now in record { value = all_reported c.args.allowance ns l.count l.at l.report l.rows l.invariant.4 c.loop-at-test.false; rows_after = all_written c.args.allowance ns l.count l.at l.report l.rows l.invariant.4 c.loop-at-test.false }

pub overflow_add-at : goal.overflow_add-at
overflow_add-at c = omega (arith, (inside c).0)

pub slice_bounds-work_graph-count : goal.slice_bounds-work_graph-count
slice_bounds-work_graph-count c = omega (arith, (inside c).0)

pub slice_bounds-work_graph-start : goal.slice_bounds-work_graph-start
slice_bounds-work_graph-start c = omega (arith, (inside c).0)

pub slice_bounds-work_graph-end : goal.slice_bounds-work_graph-end
slice_bounds-work_graph-end c = omega (arith, (inside c).1)
