-- `put_to_scratch` lends the scratch to `put_on`: what comes in there comes in behind the slots, which are as they were.
use mathlib.Core.Path.{ap, ◌∙◌}
use mathlib.Core.List.{List}
use Prim.Native.Nat.{suc}
use native.Mathlib.Omega.{arith}
use lib.ListN.{take}
use Rattle.rules.specs.declared.State.{State}
use Rattle.estimate.specs.Placing.{place_of}
use Rattle.rules.specs.Table.{listing}
use Rattle.tables.proofs.Reading.{states_read}
use Rattle.tables.proofs.Scratch.{part_table, part_long, lent_inserted}
use Rattle.estimate.proofs.merge.put_to_scratch.Goals as goal

pub put_on-requires : goal.put_on-requires
put_on-requires c = let w = c.args.work.now in
    let p = c.requires in
    (p.0, omega (arith, p.1, part_long states_read w 4096), rw (part_table states_read w 4096) (omega (arith, p.2, part_long states_read w 4096)), rw (part_table states_read w 4096) p.3, rw (part_table states_read w 4096) p.4)

pub returns : goal.returns
returns c = let a = c.args in let e = c.put_on.ensures in (
  lent_inserted states_read listing a.s a.n _ a.work.now _ (omega (arith, c.requires.1)) e.0,
  e.1 ∙ ap (λ (T : List State). suc (place_of a.s (take a.n T))) (part_table states_read a.work.now 4096),
)
