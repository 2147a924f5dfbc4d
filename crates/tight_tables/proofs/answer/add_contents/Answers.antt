-- `add_contents` adds row after row, each of which ends in the room.
use Rattle.std.proofs.Common.{length, arith}
use Rattle.tight_rows.specs.Room.{words_of}
use Rattle.tight_rows.specs.Grid.{grid_of}
use Rattle.tight_tables.proofs.Answering.{row_inside, cell_fits, one_column}
use Rattle.tight_tables.proofs.answer.add_contents.Goals as goal

pub add_cells-requires : goal.add_cells-requires
add_cells-requires c =
    let l = c.loop-k in
    let a = c.args in
    let slot = c.requires.0 in (
      omega (arith, slot.room),
      omega (arith, slot.neat.narrow, row_inside a.contents a.cells a.slot l.k (length a.work.now) (omega (arith, slot.neat.few)) slot.inside),
      cell_fits (grid_of a.contents a.cells a.slot (words_of a.work.now)) l.k a.res.now l.res l.invariant c.loop-k-test.true slot.room (omega (arith, slot.full)),
    )

pub loop-k-preserved : goal.loop-k-preserved
loop-k-preserved c =
    let l = c.loop-k in
    let a = c.args in
    one_column (grid_of a.contents a.cells a.slot (words_of a.work.now)) l.k a.res.now l.res _ l.invariant c.add_cells.ensures
