-- `count_all` meets its contract: the spread of a table is never refused where there is room for 4,097 counts.
use native.Mathlib.Omega.{arith}
use lib.ListN.{take}
use Rattle.rules.proofs.Questions.{table_largest}
use Rattle.words.specs.Tables.{table_of}
use Rattle.text.proofs.Lines.{last_counted, not_refused}
use Rattle.text.proofs.working.count_all.Goals as goal

pub overflow_add-result : goal.overflow_add-result
overflow_add-result c =
    let s = c.spread_in in
    let T = take c.args.states (table_of c.args.res.now) in
    let found = last_counted T c.requires.0 _ c.requires.1 _ _ s.ensures c.in-Ok.last c.in-Ok.is in
    omega (arith, found.count, table_largest T c.requires.0)

pub returns-in-Ok : goal.returns-in-Ok
returns-in-Ok c =
    last_counted _ c.requires.0 _ c.requires.1 _ _ c.spread_in.ensures _ c.in-Ok.is

pub returns-in-Err : goal.returns-in-Err
returns-in-Err c =
    absurd (not_refused _ c.requires.0 _ c.requires.1 _ _ c.spread_in.ensures _ c.in-Err.is)
