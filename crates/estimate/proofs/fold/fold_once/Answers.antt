-- `fold_once` replaces the two chosen states, which stand at two places of the table, by what they become.
use native.Mathlib.Omega.{arith}
use Rattle.estimate.proofs.Folding.{found_first, found_second, found_other, fold_stands}
use Rattle.estimate.proofs.fold.fold_once.Goals as goal

pub load-s-requires : goal.load-s-requires
load-s-requires c =
    let a = c.args in
    omega (arith, found_first a.words.now a.n c.requires.0 c.requires.1 c.requires.2 _ c.choose-two.ensures)

pub load-t-requires : goal.load-t-requires
load-t-requires c =
    let a = c.args in
    omega (arith, found_second a.words.now a.n c.requires.0 c.requires.1 c.requires.2 _ c.choose-two.ensures)

pub replace-requires : goal.replace-requires
replace-requires c =
    let w = c.args.words.now in
    let n = c.args.n in (
      found_first w n c.requires.0 c.requires.1 c.requires.2 _ c.choose-two.ensures,
      found_second w n c.requires.0 c.requires.1 c.requires.2 _ c.choose-two.ensures,
      found_other w n c.requires.0 c.requires.1 c.requires.2 _ c.choose-two.ensures,
      c.requires.1,
      c.requires.2,
    )

pub returns : goal.returns
returns c =
    let a = c.args in
    fold_stands a.words.now a.n c.requires.0 c.requires.1 c.requires.2 _ c.choose-two.ensures _ _ _ _
    c.load-s.ensures c.load-t.ensures c.add.ensures c.made_one-m.ensures _ _ _ _ c.replace.ensures c.set_aside.ensures
