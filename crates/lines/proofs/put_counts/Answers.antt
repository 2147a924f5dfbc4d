-- `put_counts` meets its contract: no more than 4,097 counts are lent on, and where there are no more these are all.
use mathlib.Core.Path.{sym, ap}
use native.Mathlib.Nat.{le_of_lt}
use native.Mathlib.Omega.{arith}
use lib.Seq.{length-take-le, take_all}
use Rattle.rules.specs.Units.{whole}
use Rattle.lines.specs.Counts.{count_lines}
use Rattle.writing.proofs.Putting.{put_is}
use Rattle.lines.proofs.put_counts.Goals as goal

pub slice_bounds-put_lines-end : goal.slice_bounds-put_lines-end
slice_bounds-put_lines-end c = sym (length-take-le 4097 c.args.counts.now (le_of_lt c.if-counts-gt4097.true))

pub put_lines-requires : goal.put_lines-requires
put_lines-requires c = omega (arith, length-take-le 4097 c.args.counts.now (le_of_lt c.if-counts-gt4097.true))

pub returns : goal.returns
returns c =
    let all = take_all 4097 c.args.counts.now (omega (arith, c.if-counts-gt4097.false)) in
    put_is _ _ _ _ _ _ c.put_lines-2.ensures (ap (count_lines 0 1 0 whole) (sym all))
