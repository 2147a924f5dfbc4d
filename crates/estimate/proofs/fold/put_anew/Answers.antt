-- `put_anew` takes both states out, one after the other, and puts in what they become; what is left of the table rises.
use Prim.Native.Nat.{suc, ◌≤◌, ◌<◌}
use native.Mathlib.Omega.{arith}
use lib.ListN.{length}
use borrow.Author.Rules.{rules}
use Rattle.rules.proofs.Replacing.{among_within}
use Rattle.words.specs.Tables.{table_of}
use Rattle.words.proofs.Tables.{fits_table}
use Rattle.estimate.proofs.Folding.{rising_left, replaced_anew}
use Rattle.estimate.proofs.fold.put_anew.Goals as goal

pub take_out-requires-2 : goal.take_out-requires-2
take_out-requires-2 c =
    let a = c.args in
    let within : suc c.place_among.result < a.n =
    rw c.place_among.ensures (among_within a.i a.p a.n (omega arith) (omega arith) c.requires.2) in
    (omega arith, search rules)

pub add-requires : goal.add-requires
add-requires c =
    let a = c.args in
    let t = table_of a.words.now in
    let room : a.n ≤ length t = fits_table a.words.now a.n (omega arith) in
    (search rules, rising_left t a.n room a.i a.p (omega arith) (omega arith) c.requires.2 a.m _ _ c.take_out.ensures (rw c.place_among.ensures at c.take_out-2.ensures) c.requires.4)

pub returns : goal.returns
returns c =
    let a = c.args in
    let t = table_of a.words.now in
    let room : a.n ≤ length t = fits_table a.words.now a.n (omega arith) in
    replaced_anew t a.n room a.i a.p (omega arith) (omega arith) c.requires.2 a.m _ _ c.take_out.ensures (rw c.place_among.ensures at c.take_out-2.ensures) _ _
    c.add.ensures
