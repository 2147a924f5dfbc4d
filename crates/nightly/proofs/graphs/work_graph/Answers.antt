-- `work_graph` meets its contract: the row is that of the numbers, and its five words stand where they belong.
use Rattle.nightly.proofs.Working.{row_stands}
use Rattle.nightly.proofs.graphs.work_graph.Goals as goal

pub returns : goal.returns
returns c =
    let a = c.args in
    record { value = c.row_of-row.ensures; rows_after = row_stands a.at a.rows.now _ _ c.requires.0 c.put_row.ensures }
