-- `put_lines` meets its contract.
use native.Mathlib.Omega.{arith}
use Rattle.lines.proofs.CurveLines.{number_fits, lines_less, lines_all}
use Rattle.lines.proofs.counts.put_lines.Goals as goal

pub overflow_mul-m : goal.overflow_mul-m
overflow_mul-m c = let fits = number_fits _ _ _ _ c.loop-m-test.true c.requires in omega (arith, fits)

pub overflow_add-first : goal.overflow_add-first
overflow_add-first c = let fits = number_fits _ _ _ _ c.loop-m-test.true c.requires in omega (arith, fits)

pub loop-m-preserved : goal.loop-m-preserved
loop-m-preserved c = lines_less _ _ _ _ _ _ _ _ _ c.loop-m.invariant c.loop-m-test.true _ c.saturating_sub-left.ensures _ _ c.put_line-end.ensures

pub returns : goal.returns
returns c = lines_all _ _ _ _ _ _ _ _ _ c.loop-m.invariant c.loop-m-test.false
