-- `front_at` reads the state at the place; past the states there is none.
use Rattle.words.specs.BestTables.{table_of}
use Rattle.rules.specs.Best.{listing}
use Rattle.tables.proofs.Pairing.{front_there, front_none}
use Rattle.best.proofs.join.front_at.Goals as goal

pub returns-then-at-m : goal.returns-then-at-m
returns-then-at-m c = let a = c.args in front_there listing (table_of a.words.now) a.from a.m a.at _ c.if-at-m.true c.load.ensures

pub returns : goal.returns
returns c = let a = c.args in front_none listing (table_of a.words.now) a.from a.m a.at c.if-at-m.false
