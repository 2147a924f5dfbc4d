-- `meet_rows` adds cell by cell.
use Prim.Native.Nat.{◌+◌}
use native.Mathlib.Omega.{arith}
use Rattle.tight_joins.specs.Meeting.{met_at}
use Rattle.tight_rows.proofs.Writing.{all_written}
use Rattle.tight_joins.proofs.PairsMet.{met_fits, met_more}
use Rattle.tight_joins.proofs.meets.meet_rows.Goals as goal

pub overflow_add-work-in-loop-j : goal.overflow_add-work-in-loop-j
overflow_add-work-in-loop-j c =
    let a = c.args in
    record {
      fits = met_fits a.left a.ours a.right a.theirs a.to a.width a.units a.work.now c.loop-j.work c.requires c.loop-j.j c.loop-j-test.true c.loop-j.invariant _
          c.met-more.ensures;
    }

pub loop-j-preserved : goal.loop-j-preserved
loop-j-preserved c =
    let a = c.args in
    met_more a.left a.ours a.right a.theirs a.to a.width a.units a.work.now c.loop-j.work c.requires c.loop-j.j c.loop-j-test.true c.loop-j.invariant _ c.met-more.ensures

pub returns : goal.returns
returns c =
    let a = c.args in
    all_written a.to (λ w i. w (a.to + i) + met_at a.left a.ours a.right a.theirs a.units w i) c.loop-j.j a.width _ _ (omega arith) c.loop-j.invariant
