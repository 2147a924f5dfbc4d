-- `put_cores` meets its contract: no more than 4,097 counts are lent on, and where there are no more these are all.
use mathlib.Core.Path.{sym, ap}
use native.Mathlib.Nat.{le_of_lt, le_of_eq}
use native.Mathlib.Omega.{arith}
use lib.Seq.{length-take-le, take_all}
use Rattle.lines.specs.Lines.{lines_below}
use Rattle.lines.specs.Counts.{core_counts}
use Rattle.writing.proofs.Putting.{put_is}
use Rattle.lines.proofs.put_cores.Goals as goal

pub slice_bounds-each_core-end : goal.slice_bounds-each_core-end
slice_bounds-each_core-end c = sym (length-take-le 4097 c.args.counts.now (le_of_lt c.if-counts-gt4097.true))

pub each_core-requires : goal.each_core-requires
each_core-requires c = le_of_eq (length-take-le 4097 c.args.counts.now (le_of_lt c.if-counts-gt4097.true))

pub returns : goal.returns
returns c =
    let all = take_all 4097 c.args.counts.now (omega (arith, c.if-counts-gt4097.false)) in
    put_is _ _ _ _ _ _ c.each_core-2.ensures (ap (λ us. lines_below (core_counts c.args.longest us) 12) (sym all))
