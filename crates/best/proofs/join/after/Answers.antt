-- `after` goes on to the next state where all units of the first are used, and takes the used units from it otherwise.
use lib.ListN.{take, drop}
use Rattle.words.specs.BestTables.{table_of}
use Rattle.rules.specs.Best.{listing}
use Rattle.best.specs.Pairing.{front_of}
use Rattle.tables.proofs.Pairing.{after_all, after_some}
use Rattle.best.proofs.join.after.Goals as goal

pub returns-then-u-used : goal.returns-then-u-used
returns-then-u-used c = let a = c.args in
    after_all listing (take a.m (drop a.from (table_of a.words.now))) a.used.0 (front_of a.front) _ c.if-u-used.true c.front_at.ensures

pub returns : goal.returns
returns c = let a = c.args in
    after_some listing (take a.m (drop a.from (table_of a.words.now))) a.used.0 (front_of a.front) c.if-u-used.false
