-- `scan` meets its contract: the text is too long, all is lost at some byte, or the text is read to its end.
use native.Mathlib.Omega.{arith}
use Rattle.std.specs.Prelude.{Some, None}
use Rattle.reading.proofs.Scanning.{byte_next, found_lost, found_end}
use Rattle.reading.proofs.scan.Goals as goal

pub loop-b-preserved : goal.loop-b-preserved
loop-b-preserved c = byte_next _ _ _ _ _ c.loop-b.invariant c.loop-b-test.true c.in_ok-p.ensures

pub returns-in_err-p : goal.returns-in_err-p
returns-in_err-p c =
    rw c.from_residual.ensures (found_lost _ _ c.requires (omega arith) _ _ (byte_next _ _ _ _ _ c.loop-b.invariant c.loop-b-test.true c.in_err-p.ensures))

pub returns-in_err-end : goal.returns-in_err-end
returns-in_err-end c =
    rw c.from_residual-in_err-end.ensures (found_end _ _ c.requires (omega arith) _ _ c.loop-b.invariant c.loop-b-test.false None _ c.in_err-end.ensures)

pub returns : goal.returns
returns c = found_end _ _ c.requires (omega arith) _ _ c.loop-b.invariant c.loop-b-test.false (Some c.in_ok-end.end) _ c.in_ok-end.ensures
