-- `move_one` moves the row to one mask, or not at all where the block is none of those that can be lost.
use native.Mathlib.Nat.{le_refl}
use Rattle.tight_rows.proofs.Raising.{live_part}
use Rattle.tight.proofs.moves.move_one.Goals as goal

pub move_to-requires : goal.move_to-requires
move_to-requires c =
    (c.requires.2, live_part _ _ _ c.comes_to-end.ensures, le_refl 1)
