-- `fold_scratch` lends the scratch to the folds: what they leave stands behind the slots, which are as they were.
use Prim.Native.Nat.{◌≤◌}
use native.Mathlib.Omega.{arith}
use lib.ListN.{length}
use Rattle.tables.proofs.Reading.{best_read}
use Rattle.tables.proofs.Scratch.{part_table, part_long, back_slots, back_scratch}
use Rattle.best.proofs.run.fold_scratch.Goals as goal

pub fold_down-requires : goal.fold_down-requires
fold_down-requires c = let w = c.args.work.now in
    let p = c.requires in
    (p.1, omega (arith, p.0, part_long best_read w 4096), rw (part_table best_read w 4096) p.2)

pub returns : goal.returns
returns c = let w = c.args.work.now in
    let f = c.fold_down in
    let fits : 20480 ≤ length w = omega (arith, c.requires.0) in
    record {
      stands = rw (back_scratch best_read w 4096 f.new.words fits, ← part_table best_read w 4096) f.ensures;
      before = back_slots best_read w 4096 f.new.words fits;
    }
