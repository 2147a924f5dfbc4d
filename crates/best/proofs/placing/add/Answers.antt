-- `add` puts a state that has units.
use native.Mathlib.Omega.{arith}
use Rattle.words.specs.BestTables.{table_of}
use Rattle.words.proofs.BestTables.{fits_table}
use Rattle.rules.specs.Best.{listing}
use Rattle.tables.proofs.Insertion.{added_one, added_none}
use Rattle.best.proofs.placing.add.Goals as goal

pub returns-then-u-eq0 : goal.returns-then-u-eq0
returns-then-u-eq0 c = let a = c.args in added_none listing a.s a.n (table_of a.words.now) (fits_table a.words.now a.n (omega arith)) c.if-u-eq0.true

pub returns : goal.returns
returns c = added_one listing _ _ _ _ _ c.if-u-eq0.false c.put.ensures
