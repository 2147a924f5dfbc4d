-- `add_to_scratch` lends the scratch to `add`: what is added there is added behind the slots, which are as they were.
use native.Mathlib.Omega.{arith}
use Rattle.rules.specs.Table.{listing}
use Rattle.tables.proofs.Reading.{states_read}
use Rattle.tables.proofs.Scratch.{part_table, part_long, lent_added}
use Rattle.estimate.proofs.join.add_to_scratch.Goals as goal

pub add-requires : goal.add-requires
add-requires c = let w = c.args.work.now in
    (omega (arith, c.requires.0, part_long states_read w 4096), rw (part_table states_read w 4096) c.requires.1)

pub returns : goal.returns
returns c = lent_added states_read listing _ c.args.n _ c.args.work.now _ (omega (arith, c.requires.0)) c.add.ensures
