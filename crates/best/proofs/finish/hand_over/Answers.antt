-- `hand_over` counts the states, and carries their words into the cleared result.
use native.Mathlib.Omega.{arith}
use Rattle.words.specs.BestTables.{table_of}
use Rattle.rules.specs.Best.{listing}
use Rattle.words.proofs.BestTables.{fits_table}
use Rattle.tables.proofs.Nodes.{counted_few, table_long}
use Rattle.best.proofs.Handing.{handed_over_lem}
use Rattle.best.proofs.finish.hand_over.Goals as goal

pub carry-requires : goal.carry-requires
carry-requires c = let a = c.args in
    let p = c.requires in
    let n = c.count-n in
    let few = counted_few listing a.last n.result (table_of a.work.now) n.ensures in
    let long = table_long listing a.last n.result (table_of a.work.now) n.ensures (omega (arith, p.0, fits_table a.work.now 5184 p.1)) in
    (omega (arith, long, p.2, c.fill.ensures.len), omega (arith, few, p.0, p.1))

pub returns : goal.returns
returns c = let a = c.args in
    let p = c.requires in
    let n = c.count-n in
    let long = table_long listing a.last n.result (table_of a.work.now) n.ensures (omega (arith, p.0, fits_table a.work.now 5184 p.1)) in record { value = long; res_after = handed_over_lem a.last n.result a.work.now p.0 p.1 n.ensures a.res.now c.fill.new.self c.carry.new.res (omega (arith, long, p.2)) (c.fill.ensures.after (λ y p. p)) c.carry.ensures; work_after = (c.fill-2.ensures.after (λ y p. p)) }
