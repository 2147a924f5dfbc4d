-- `choose` tests that there are two states and so many, and has them searched.
use native.Mathlib.Omega.{arith}
use mathlib.Core.Path.{◌∙◌}
use Prim.Native.Nat.{◌≤◌, ◌<◌}
use lib.ListN.{length}
use borrow.Author.Tests.{le-leb, lt-leb}
use Rattle.words.specs.Tables.{table_of}
use Rattle.words.proofs.Tables.{length_table_of}
use Rattle.searches.proofs.choose.Goals as goal

pub returns-then-words-n : goal.returns-then-words-n
returns-then-words-n c =
    let a = c.args in
    let few : length (table_of a.words.now) < a.n = rw (length_table_of a.words.now) c.if-words-n.true in
    rw (le-leb 2 a.n (omega arith), lt-leb a.n (length (table_of a.words.now)) few)

pub returns : goal.returns
returns c =
    let a = c.args in
    let room : a.n ≤ length (table_of a.words.now) = rw (length_table_of a.words.now) c.if-words-n.false in
    c.search.ensures ∙ rw (le-leb 2 a.n (omega arith), le-leb a.n (length (table_of a.words.now)) room)
