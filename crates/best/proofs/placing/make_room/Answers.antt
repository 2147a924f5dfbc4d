-- `make_room` moves the states from the place on up by one, and stores the new one there.
use mathlib.Core.Path.{refl, ap, ◌∙◌}
use Prim.Native.Nat.{◌+◌}
use native.Mathlib.Omega.{arith}
use Rattle.words.specs.BestTables.{table_of}
use Rattle.words.proofs.BestTables.{below_table}
use Rattle.rules.specs.Best.{listing}
use Rattle.tables.proofs.Reading.{best_read}
use Rattle.tables.proofs.Moving.{moved_table}
use Rattle.tables.proofs.Insertion.{moved_pasted, moved_end}
use Rattle.best.proofs.placing.make_room.Goals as goal

pub returns : goal.returns
returns c =
    let a = c.args in
    let t = table_of a.words.now in
    let room = below_table a.words.now a.n (omega arith) in
    let up = ap table_of c.copy_within.ensures.after ∙ moved_table best_read a.words.now a.at a.n (a.at + 1) (omega arith) (omega arith) (omega arith) in
    moved_end listing t a.n room a.at a.at a.s _ _ refl (omega arith) (up ∙ moved_pasted listing t a.n room a.at (omega arith)) c.store.ensures
