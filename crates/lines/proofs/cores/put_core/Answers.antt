-- `put_core` meets its contract: the core's own line, and the lines of the counts behind it. With accesses of 32 bits, of at most 100 cycles each, no number wraps.
use Prim.Native.Nat.{◌≤◌}
use native.Mathlib.Omega.{arith}
use borrow.Author.Rules.{rules}
use Rattle.writing.proofs.Putting.{put_then}
use Rattle.lines.proofs.CoreLines.{hit_no_dearer, hits_fit, numbers_fit, core_put}
use Rattle.lines.proofs.cores.put_core.Goals as goal

pub overflow_mul-longest : goal.overflow_mul-longest
overflow_mul-longest c =
    let path : c.args.longest ≤ 4294967295 = search rules in
    omega (arith, hits_fit _ c.requires.0 _ path _ c.core_at-core.ensures)

pub overflow_sub-core : goal.overflow_sub-core
overflow_sub-core c =
    let path : c.args.longest ≤ 4294967295 = search rules in
    hit_no_dearer _ c.requires.0 _ path _ c.core_at-core.ensures

pub put_lines-requires : goal.put_lines-requires
put_lines-requires c =
    let path : c.args.longest ≤ 4294967295 = search rules in
    numbers_fit _ c.requires.0 _ path _ c.core_at-core.ensures c.args.counts.now c.requires.1

pub returns : goal.returns
returns c =
    let path : c.args.longest ≤ 4294967295 = search rules in
    core_put _ c.requires.0 _ path _ c.core_at-core.ensures _ _ _ _ _ (put_then _ _ _ _ _ c.put_core_line-end.ensures _ _ _ c.put_lines.ensures)
