-- `follow_to_scratch` lends the scratch to `follow`: what is added there is added behind the slots, which are as they were.
use native.Mathlib.Omega.{arith}
use Rattle.rules.specs.Best.{listing}
use Rattle.tables.proofs.Reading.{best_read}
use Rattle.tables.proofs.Scratch.{part_table, part_long, lent_added}
use Rattle.best.proofs.access.follow_to_scratch.Goals as goal

pub follow-requires : goal.follow-requires
follow-requires c = let w = c.args.work.now in
    let p = c.requires in
    (p.0, p.1, p.2, omega (arith, p.3, part_long best_read w 4096), rw (part_table best_read w 4096) p.4)

pub returns : goal.returns
returns c = lent_added best_read listing _ c.args.n _ c.args.work.now _ (omega (arith, c.requires.3)) c.follow.ensures
