-- `fold_once` takes the two chosen states out, one after the other, and puts in what they become. Both places lie in the table, and what is
-- left of it rises.
use Prim.Native.Nat.{◌≤◌}
use native.Mathlib.Omega.{arith}
use lib.ListN.{length, take}
use lib.Seq.{length-take-le}
use borrow.Author.Rules.{rules}
use Rattle.words.specs.BestTables.{table_of}
use Rattle.words.proofs.BestTables.{fits_table}
use Rattle.rules.specs.Best.{kind}
use Rattle.tables.proofs.Folding.{fewest_within, partner_within}
use Rattle.best.proofs.Folding.{rising_left, fold_stands}
use Rattle.best.proofs.fold.fold_once.Goals as goal

pub pull-s-requires : goal.pull-s-requires
pull-s-requires c =
    let a = c.args in
    let t = table_of a.words.now in
    let room : a.n ≤ length t = fits_table a.words.now a.n (omega arith) in
    (fewest_within kind (take a.n t) a.n (length-take-le a.n t room) (omega arith) _ c.choose-pair.ensures, search rules)

pub pull-t-requires : goal.pull-t-requires
pull-t-requires c =
    let a = c.args in
    let t = table_of a.words.now in
    let room : a.n ≤ length t = fits_table a.words.now a.n (omega arith) in
    (partner_within kind (take a.n t) a.n (length-take-le a.n t room) (omega arith) _ c.choose-pair.ensures, search rules)

pub overflow_sub-n-2 : goal.overflow_sub-n-2
overflow_sub-n-2 c =
    omega (arith, c.requires.0)

pub add-requires-2 : goal.add-requires-2
add-requires-2 c =
    let a = c.args in
    let t = table_of a.words.now in
    let room : a.n ≤ length t = fits_table a.words.now a.n (omega arith) in (
      search rules,
      rising_left t a.n room (omega arith) _ c.choose-pair.ensures _ _ c.pull-s.ensures.table c.pull-t.ensures.table
          c.requires.2,
    )

pub returns : goal.returns
returns c =
    let a = c.args in
    let t = table_of a.words.now in
    let room : a.n ≤ length t = fits_table a.words.now a.n (omega arith) in
    fold_stands t a.n room (omega arith) _ c.choose-pair.ensures _ _ c.pull-s.ensures.table c.pull-t.ensures.table
    _ _ _ _ c.pull-s.ensures.state c.pull-t.ensures.state c.add.ensures c.meet-m.ensures
    _ _ c.add-2.ensures
