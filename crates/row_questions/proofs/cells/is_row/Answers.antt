-- `is_row` meets its contract: by how many cells there are, and by their total.
use native.Mathlib.Omega.{arith}
use Rattle.row_questions.proofs.Answered.{no_cells, many_cells, some_cells}
use Rattle.row_questions.proofs.cells.is_row.Goals as goal

pub returns-then-row-lt1 : goal.returns-then-row-lt1
returns-then-row-lt1 c = no_cells _ c.if-row-lt1.true

pub returns-then-row-gt4097 : goal.returns-then-row-gt4097
returns-then-row-gt4097 c = many_cells _ c.if-row-gt4097.true

pub returns : goal.returns
returns c = some_cells _ c.if-row-lt1.false (omega arith) _ c.is_whole.ensures
