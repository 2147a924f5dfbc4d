-- `put_at` adds the units to the state at the place, if that is the same one, or makes room there.
use Prim.Native.Nat.{◌<◌}
use native.Mathlib.Omega.{arith}
use Rattle.words.specs.Tables.{table_of}
use Rattle.words.proofs.Tables.{fits_table}
use Rattle.rules.specs.Table.{listing}
use Rattle.tables.proofs.Insertion.{place_within, met_there, met_none, put_same, new_room, put_new}
use Rattle.estimate.proofs.placing.put_at.Goals as goal

pub load-t-requires : goal.load-t-requires
load-t-requires c = let a = c.args in
    let there : a.at < a.n = (met_there _ _ _ _ c.meets.ensures c.if-meets.true).0 in
    omega arith

pub store-requires : goal.store-requires
store-requires c = let a = c.args in
    let there : a.at < a.n = (met_there _ _ _ _ c.meets.ensures c.if-meets.true).0 in
    omega arith

pub returns-then-meets : goal.returns-then-meets
returns-then-meets c = let a = c.args in let l = c.load-t in
    let met = met_there _ _ _ _ c.meets.ensures c.if-meets.true in
    put_same listing a.s a.n _ (table_of a.words.now) _ (fits_table a.words.now a.n (omega arith)) c.requires.2 _ _
    met.0 (rw (← l.ensures) at met.1) l.ensures c.plus.ensures c.store.ensures

pub make_room-requires : goal.make_room-requires
make_room-requires c = let a = c.args in let T = table_of a.words.now in let room = fits_table a.words.now a.n (omega arith) in (
  place_within listing a.s a.n T room _ c.requires.2,
  omega (arith, c.requires.1, new_room listing a.s a.n _ T T room c.requires.2 (met_none _ _ _ _ c.meets.ensures c.if-meets.false)),
)

pub returns : goal.returns
returns c = let a = c.args in
    put_new listing a.s a.n _ (table_of a.words.now) _ (fits_table a.words.now a.n (omega arith)) c.requires.2
    (met_none _ _ _ _ c.meets.ensures c.if-meets.false) c.make_room.ensures
