-- `best_at` reads the five words of a state; where they do not lie within the slice there is no such state.
use mathlib.Core.Path.{sym}
use native.Mathlib.Omega.{arith}
use lib.ListN.{get_or-eq_default}
use Rattle.rules.specs.Best.{listing}
use Rattle.words.specs.BestTables.{table_of}
use Rattle.words.proofs.BestTables.{length_table_of, row_at}
use Rattle.words.proofs.best_at.Goals as goal

pub returns-then-words-place : goal.returns-then-words-place
returns-then-words-place c =
    let ws = c.args.words.now in
    sym (get_or-eq_default (table_of ws) listing.none (omega (arith, length_table_of ws)))

pub returns : goal.returns
returns c = sym (row_at _ _ _ (omega arith))
