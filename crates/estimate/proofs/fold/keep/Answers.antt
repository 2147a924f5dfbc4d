-- `keep` takes one state out and writes over the other, whose place among those left lies in the table.
use mathlib.Core.Path.{sym}
use Prim.Native.Nat.{suc, ◌≤◌, ◌<◌}
use native.Mathlib.Omega.{arith}
use lib.ListN.{length}
use Rattle.rules.proofs.Replacing.{among_within}
use Rattle.words.specs.Tables.{table_of}
use Rattle.words.proofs.Tables.{fits_table}
use Rattle.estimate.proofs.Folding.{written_over}
use Rattle.estimate.proofs.fold.keep.Goals as goal

pub store-requires : goal.store-requires
store-requires c =
    let a = c.args in
    let within : suc c.place_among.result < a.n =
    rw c.place_among.ensures (among_within a.out a.at a.n (omega arith) (omega arith) c.requires.2) in
    omega arith

pub returns : goal.returns
returns c =
    let a = c.args in
    let t = table_of a.words.now in
    let room : a.n ≤ length t = fits_table a.words.now a.n (omega arith) in
    written_over t a.n room a.at a.out (omega arith) (omega arith) (λ e. c.requires.2 (sym e)) a.m _ _ _
    c.take_out.ensures c.store.ensures c.place_among.ensures
