-- `answer_row` clears the row, adds up the columns, and adds the lost units.
use Rattle.tight_rows.specs.Room.{words_of}
use Rattle.tight_rows.specs.Grid.{Grid, grid_of}
use Rattle.tight_tables.proofs.Answering.{ColumnsIn, columns_since, lost_fits, answer_is}
use Rattle.tight_tables.proofs.answer.answer_row.Goals as goal
use Rattle.tight_tables.proofs.answer.answer_row.Goals.{After-add_contents}

-- the slot
abbrev grid : After-add_contents → Grid
grid c = let a = c.args in grid_of a.contents a.cells a.slot (words_of a.work.now)

-- the columns stand in the row that was cleared
columns : (c : After-add_contents) → ColumnsIn (grid c) (grid c).count c.args.res.now c.add_contents.new.res
columns c = columns_since (grid c) (grid c).count _ _ _ c.clear_row.ensures.long c.add_contents.ensures

pub overflow_add-res-2 : goal.overflow_add-res-2
overflow_add-res-2 c =
    let s = (goal.at.overflow_add-res-2 c).After-add_contents in
    record { fits = lost_fits (grid s) c.args.longest c.args.res.now _ (columns s) c.requires.1 c.requires.0.full }

pub returns : goal.returns
returns c =
    let s = (goal.at.returns c).After-add_contents in
    answer_is (grid s) c.args.longest c.args.res.now _ (columns s) c.requires.1
