-- `fewest_of` goes from place to place.
use Prim.Native.Nat.{◌+◌, ◌<◌}
use native.Mathlib.Omega.{arith}
use borrow.Author.Rules.{rules}
use Rattle.words.specs.BestTables.{table_of}
use Rattle.words.proofs.BestTables.{fits_table}
use Rattle.rules.specs.Best.{kind}
use Rattle.tables.proofs.Folding.{fewest_start, fewest_less, fewest_more, fewest_end}
use Rattle.best.proofs.fold.fewest_of.Goals as goal
use Rattle.best.proofs.fold.fewest_of.Goals.{then-u-units, else-u-units}

pub loop-i-init : goal.loop-i-init
loop-i-init c = let a = c.args in
    (search rules, fewest_start kind (table_of a.words.now) a.n (fits_table a.words.now a.n (omega arith)) _ (omega arith) c.load.ensures)

pub loop-i-preserved : goal.loop-i-preserved
loop-i-preserved c =
    let a = c.args in
    let l = c.loop-i in
    let t = table_of a.words.now in
    let room = fits_table a.words.now a.n (omega arith) in
    let up : c.if-u-units.fewest < l.i + 1 =
    elim c.if-u-units.branch [ then-u-units w ↦ omega (arith, w.fewest-is) | else-u-units w ↦ omega (arith, w.fewest-is) ] in (
      up,
      elim c.if-u-units.branch [
        | then-u-units w ↦ rw (w.fewest-is, w.units-is) (fewest_less kind t a.n room _ _ _ _ c.loop-i-test.true c.load-in-loop-i.ensures l.invariant.1 w.if-u-units.true)
        | else-u-units w ↦ rw (w.fewest-is, w.units-is) (fewest_more kind t a.n room _ _ _ _ c.loop-i-test.true c.load-in-loop-i.ensures l.invariant.1 w.if-u-units.false)
      ],
    )

pub returns : goal.returns
returns c =
    let a = c.args in
    let l = c.loop-i in
    (omega arith, fewest_end kind (table_of a.words.now) a.n (fits_table a.words.now a.n (omega arith)) _ _ _ (omega arith) l.invariant.1)
