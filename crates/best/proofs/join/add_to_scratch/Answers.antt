-- `add_to_scratch` lends the scratch to `add`: what is added there is added behind the slots, which are as they were.
use native.Mathlib.Omega.{arith}
use Rattle.rules.specs.Best.{listing}
use Rattle.tables.proofs.Reading.{best_read}
use Rattle.tables.proofs.Scratch.{part_table, part_long, lent_added}
use Rattle.best.proofs.join.add_to_scratch.Goals as goal

pub add-requires : goal.add-requires
add-requires c = let w = c.args.work.now in
    (omega (arith, c.requires.0, part_long best_read w 4096), rw (part_table best_read w 4096) c.requires.1)

pub returns : goal.returns
returns c = lent_added best_read listing _ c.args.n _ c.args.work.now _ (omega (arith, c.requires.0)) c.add.ensures
