-- `rows_before` adds the rows of one entry after the other; together they are no more than there are.
use mathlib.Core.Bool.{cond}
use Prim.Native.Nat.{◌<◌}
use native.Mathlib.Omega.{arith}
use lib.Dec.{eqb}
use lib.ListN.{take}
use Rattle.std.proofs.Common.{sum_by}
use Rattle.std.proofs.lemmas.Grind.{common_steps}
use Rattle.rules.specs.Entries.{no_rows}
use Rattle.estimate.proofs.HandedIn.{told_sum, told_take}
use Rattle.estimate.proofs.handed.rows_before.Goals as goal

pub sum-requires-clause-fits : goal.sum-requires-clause-fits
sum-requires-clause-fits c =
    let few : sum_by (λ n. cond (eqb n no_rows) 0 n) (take c.args.number c.args.counts.now) < 18446744073709551616 =
    omega (arith, told_sum (take c.args.number c.args.counts.now), told_take c.args.counts.now c.args.number, c.requires.1) in
    grind (arith, common_steps)

pub returns : goal.returns
returns c = let e = told_sum (take c.args.number c.args.counts.now) in grind (arith, common_steps)
