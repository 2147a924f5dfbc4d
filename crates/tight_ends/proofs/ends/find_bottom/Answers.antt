-- `find_bottom` goes up column by column.
use Prim.Native.Nat.{suc}
use native.Mathlib.Omega.{arith}
use Rattle.tight_ends.proofs.EndsFound.{staging_part}
use Rattle.tight_ends.proofs.ends.find_bottom.Goals as goal

pub column_units-requires : goal.column_units-requires
column_units-requires c =
    let a = c.args in
    staging_part a.cells a.stage _ a.top a.work.now (omega (arith, c.loop-bottom.invariant.within)) c.requires.1

pub overflow_add-units : goal.overflow_add-units
overflow_add-units c =
    let a = c.args in
    omega (arith, c.column_units.ensures, c.loop-bottom.invariant.rising, (staging_part a.cells a.stage (suc c.loop-bottom.bottom) a.top a.work.now (omega (arith, c.loop-bottom.invariant.within)) c.requires.1).most)
