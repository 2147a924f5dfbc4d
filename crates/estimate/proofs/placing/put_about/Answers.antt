-- `put_about` looks at the place that is guessed. In a rising table a state that stands there in the same place is met at the place where it belongs; otherwise that is sought from the front.
use Prim.Native.Nat.{◌<◌}
use native.Mathlib.Omega.{arith}
use lib.ListN.{take}
use lib.Seq.{length-take-le}
use Rattle.rules.specs.Table.{listing, order, plus}
use Rattle.rules.proofs.Ordered.{length_insert}
use Rattle.words.specs.Tables.{table_of}
use Rattle.words.proofs.Tables.{fits_table}
use Rattle.tables.proofs.Insertion.{met_there, put_same, seek_start}
use Rattle.estimate.proofs.Laying.{met_place}
use Rattle.estimate.proofs.placing.put_about.Goals as goal

pub load-t-requires : goal.load-t-requires
load-t-requires c = let a = c.args in
    let there : c.guess_about-near.result < a.n = (met_there _ _ _ _ c.meets.ensures c.if-meets.true).0 in
    omega arith

pub store-requires : goal.store-requires
store-requires c = let a = c.args in
    let there : c.guess_about-near.result < a.n = (met_there _ _ _ _ c.meets.ensures c.if-meets.true).0 in
    omega arith

pub returns-then-meets : goal.returns-then-meets
returns-then-meets c = let a = c.args in
    let T = table_of a.words.now in
    let room = fits_table a.words.now a.n (omega arith) in
    let l = c.load-t in
    let met = met_there _ _ _ _ c.meets.ensures c.if-meets.true in
    let place = met_place a.s a.n T room c.requires.2 _ met.0 met.1 in
    (put_same listing a.s a.n _ T _ room place _ _ met.0 (rw (← l.ensures) at met.1) l.ensures c.plus.ensures c.store.ensures, place)

pub seek_on-place-requires : goal.seek_on-place-requires
seek_on-place-requires c = let a = c.args in
    (omega arith, omega arith, c.requires.2, (seek_start listing a.s a.n (table_of a.words.now) (fits_table a.words.now a.n (omega arith))).0)

pub put_at-states-requires : goal.put_at-states-requires
put_at-states-requires c = let a = c.args in let T = table_of a.words.now in (
  omega arith,
  omega (arith, length_insert order plus a.s (take a.n T), length-take-le a.n T (fits_table a.words.now a.n (omega arith))),
  c.seek_on-place.ensures,
)
