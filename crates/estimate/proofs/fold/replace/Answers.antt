-- `replace` writes over the state that stays, and takes out the other one; if none stays, both go.
use Prim.Native.Nat.{◌≤◌}
use native.Mathlib.Omega.{arith}
use lib.ListN.{length}
use Rattle.words.specs.Tables.{table_of}
use Rattle.words.proofs.Tables.{fits_table}
use Rattle.estimate.proofs.Folding.{first_stays, second_stays}
use Rattle.estimate.proofs.fold.replace.Goals as goal

pub returns-then-stays_at : goal.returns-then-stays_at
returns-then-stays_at c =
    let a = c.args in
    let t = table_of a.words.now in
    let room : a.n ≤ length t = fits_table a.words.now a.n (omega arith) in
    first_stays t a.n room a.i a.p (omega arith) (omega arith) c.requires.2 a.m c.requires.4 _ c.stays_at.ensures c.if-stays_at.true _
    c.keep.ensures

pub returns-then-stays_at-2 : goal.returns-then-stays_at-2
returns-then-stays_at-2 c =
    let a = c.args in
    let t = table_of a.words.now in
    let room : a.n ≤ length t = fits_table a.words.now a.n (omega arith) in
    second_stays t a.n room a.i a.p (omega arith) (omega arith) c.requires.2 a.m c.requires.4 _ c.stays_at-2.ensures c.if-stays_at-2.true _
    c.keep-then-stays_at-2.ensures
