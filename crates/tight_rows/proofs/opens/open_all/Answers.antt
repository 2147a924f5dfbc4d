-- `open_all` clears the rows that the masks have.
use Rattle.tight_rows.proofs.MasksNumbered.{all_opened}
use Rattle.tight_rows.proofs.opens.open_all.Goals as goal

pub returns : goal.returns
returns c =
    let a = c.args in
    all_opened a.o a.work.now c.requires.placed c.requires.few _ _ c.number_masks-rows.ensures _ c.clear_row.ensures
