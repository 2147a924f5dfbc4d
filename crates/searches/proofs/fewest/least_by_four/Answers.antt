-- `least_by_four` goes on by four states while there are as many.
use mathlib.Core.Path.{ap}
use borrow.Author.Rules.{rules}
use Rattle.rules.specs.Table.{units_of}
use Rattle.words.specs.Tables.{table_of}
use Rattle.searches.proofs.Lowest.{lowest_start, lowest_less, lowest_more}
use Rattle.searches.proofs.fewest.least_by_four.Goals as goal
use Rattle.searches.proofs.fewest.least_by_four.Goals.{then-u-units, else-u-units}

pub loop-i-init : goal.loop-i-init
loop-i-init c = (search rules, lowest_start _ _ (ap units_of c.load.ensures))

pub loop-i-preserved : goal.loop-i-preserved
loop-i-preserved c =
    let l = c.loop-i in
    let t = table_of c.args.words.now in (
      search rules,
      elim c.if-u-units.branch [
        | then-u-units w ↦ rw (w.units-is, w.from-is) (lowest_less t _ _ _ _ _ l.invariant.1 c.least_of_four-u.ensures w.if-u-units.true)
        | else-u-units w ↦ rw (w.units-is, w.from-is) (lowest_more t _ _ _ _ _ l.invariant.1 c.least_of_four-u.ensures w.if-u-units.false)
      ],
    )

pub returns : goal.returns
returns c = c.loop-i.invariant
