-- `least` goes on one by one where `least_by_four` ends, with the same invariant.
use mathlib.Core.Path.{◌≡◌, refl, ap}
use native.Mathlib.Omega.{arith}
use Rattle.rules.specs.Table.{units_of}
use Rattle.words.specs.Tables.{table_of}
use Rattle.searches.proofs.Lowest.{fewest_one, lowest_less, lowest_more}
use Rattle.searches.proofs.fewest.least.Goals as goal
use Rattle.searches.proofs.fewest.least.Goals.{then-u-units, else-u-units}

pub loop-i-init : goal.loop-i-init
loop-i-init c = c.least_by_four-most.ensures.1

pub loop-i-preserved : goal.loop-i-preserved
loop-i-preserved c =
    let l = c.loop-i in
    let t = table_of c.args.words.now in
    let one = fewest_one t l.i _ _ refl (ap units_of c.load.ensures) in
    elim c.if-u-units.branch [
      | then-u-units w ↦ rw (w.units-is, w.from-is) (lowest_less t _ _ _ _ _ l.invariant one w.if-u-units.true)
      | else-u-units w ↦ rw (w.units-is, w.from-is) (lowest_more t _ _ _ _ _ l.invariant one w.if-u-units.false)
    ]

pub returns : goal.returns
returns c = let all : c.loop-i.i ≡ c.args.n = omega arith in rw all at c.loop-i.invariant
