-- `hand_over` counts the states, whose words are handed over: they fit.
use Prim.Native.Nat.{◌*◌, ◌≤◌}
use native.Mathlib.Omega.{arith}
use lib.ListN.{length}
use Rattle.words.specs.Tables.{table_of}
use Rattle.rules.specs.Table.{listing}
use Rattle.words.proofs.Tables.{fits_table}
use Rattle.tables.proofs.Nodes.{counted_few, table_long}
use Rattle.estimate.proofs.Handing.{handed_over_lem, handed_empty}
use Rattle.estimate.proofs.finish.hand_over.Goals as goal

-- at most 64 states: five words each are no number too large
pub overflow_mul-n : goal.overflow_mul-n
overflow_mul-n c = let n = c.count-n in
    omega (arith, counted_few listing c.args.last n.result (table_of c.args.work.now) n.ensures)

pub returns : goal.returns
returns c = let a = c.args in
    let p = c.requires in
    let n = c.count-n in
    let h = c.hand_over in
    let long = table_long listing a.last n.result (table_of a.work.now) n.ensures (omega (arith, p.0, fits_table a.work.now 5184 p.1)) in
    let room : n.result * 5 ≤ length a.res.now = omega (arith, long, p.2) in record { value = long; res_after = handed_over_lem a.last n.result a.work.now p.0 p.1 n.ensures a.res.now h.new.res room h.ensures.res_after; work_after = handed_empty a.last n.result a.work.now p.0 p.1 n.ensures a.res.now h.new.work room h.ensures.work_after }
