-- `spends` takes the units of one row after the other.
use Rattle.std.proofs.Common.{length}
use Rattle.std.proofs.lemmas.Iterator.Consumers.{YieldsList-turn, YieldsList-end}
use Rattle.std.proofs.lemmas.List.{length_push}
use Rattle.rules.specs.Entries.{rows_of}
use Rattle.pairings.specs.Rows.{side_of, row_at}
use Rattle.pairings.proofs.Rows.{rows_in_chunks, spent_next, spent_more, spent_end}
use Rattle.pairings.proofs.spends.Goals as goal

pub returns-then-left-used : goal.returns-then-left-used
returns-then-left-used c =
    let l = c.loop-row in
    let a = c.args in
    let t = YieldsList-turn (rows_in_chunks _ a.rows.now (cc) (cc)) l.yielded _ l.yielded_by _ _ c.in-Some.row c.in-Some.is c.next.ensures.steps in
    spent_more (side_of a.second) a.place a.units (rows_of a.rows.now) (length l.yielded) l.left l.invariant (row_at c.in-Some.row.now 0) t c.used_by-used.result c.used_by-used.ensures c.if-left-used.true

pub loop-row-preserved : goal.loop-row-preserved
loop-row-preserved c =
    let l = c.loop-row in
    let a = c.args in
    let t = YieldsList-turn (rows_in_chunks _ a.rows.now (cc) (cc)) l.yielded _ l.yielded_by _ _ c.in-Some.row c.in-Some.is c.next.ensures.steps in
    rw (length_push l.yielded c.in-Some.row)
    (spent_next (side_of a.second) a.place a.units (rows_of a.rows.now) (length l.yielded) l.left l.invariant (row_at c.in-Some.row.now 0) t c.used_by-used.result c.used_by-used.ensures c.if-left-used.false)

pub returns : goal.returns
returns c =
    let l = c.loop-row in
    let a = c.args in
    let t = YieldsList-end (rows_in_chunks _ a.rows.now (cc) (cc)) l.yielded _ l.yielded_by _ _ c.in-None.is c.next.ensures.steps in
    spent_end (side_of a.second) a.place a.units (rows_of a.rows.now) (length l.yielded) l.left l.invariant t.1
