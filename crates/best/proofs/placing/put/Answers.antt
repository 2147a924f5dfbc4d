-- `put` looks for the place, and adds the units there or makes room.
use Prim.Native.Nat.{◌<◌}
use native.Mathlib.Omega.{arith}
use Rattle.words.specs.BestTables.{table_of}
use Rattle.words.proofs.BestTables.{fits_table}
use Rattle.rules.specs.Best.{listing}
use Rattle.tables.proofs.Insertion.{place_within, met_there, met_none, put_same, put_new}
use borrow.Author.Rules.{rules}
use Rattle.best.proofs.placing.put.Goals as goal

pub load-t-requires : goal.load-t-requires
load-t-requires c = let there : c.seek-at.result < c.args.n = (met_there _ _ _ _ c.meets.ensures c.if-meets.true).0 in
    omega arith

pub store-requires : goal.store-requires
store-requires c = let there : c.seek-at.result < c.args.n = (met_there _ _ _ _ c.meets.ensures c.if-meets.true).0 in
    omega arith

pub returns-then-meets : goal.returns-then-meets
returns-then-meets c = let a = c.args in
    let met = met_there _ _ _ _ c.meets.ensures c.if-meets.true in
    put_same listing a.s a.n _ (table_of a.words.now) _ (fits_table a.words.now a.n (omega arith)) c.seek-at.ensures _ _
    met.0 (rw (← c.load-t.ensures) at met.1) c.load-t.ensures c.plus.ensures c.store.ensures

pub make_room-requires : goal.make_room-requires
make_room-requires c = let a = c.args in
    (place_within listing a.s a.n (table_of a.words.now) (fits_table a.words.now a.n (omega arith)) _ c.seek-at.ensures, search rules)

pub returns : goal.returns
returns c = let a = c.args in
    put_new listing a.s a.n _ (table_of a.words.now) _ (fits_table a.words.now a.n (omega arith)) c.seek-at.ensures
    (met_none _ _ _ _ c.meets.ensures c.if-meets.false) c.make_room.ensures
