-- `move_to` adds the row to that of the mask.
use Rattle.tight.proofs.Moving.{row_addable}
use Rattle.tight.proofs.moves.move_to.Goals as goal

pub add_row-requires : goal.add_row-requires
add_row-requires c =
    let a = c.args in
    row_addable a.r a.live a.times a.work.now c.requires.0 a.mask c.requires.1 a.shift c.requires.2
