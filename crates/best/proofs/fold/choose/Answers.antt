-- `choose`: the state of fewest units, and its partner.
use native.Mathlib.Omega.{arith}
use Rattle.words.specs.BestTables.{table_of}
use Rattle.words.proofs.BestTables.{fits_table}
use Rattle.best.proofs.Folding.{choice_found}
use Rattle.best.proofs.fold.choose.Goals as goal

pub partner_of-requires : goal.partner_of-requires
partner_of-requires c = (c.requires.0, c.fewest_of-fewest.ensures.0, c.requires.1)

pub returns : goal.returns
returns c =
    let a = c.args in
    let first = c.fewest_of-fewest.ensures in
    choice_found (table_of a.words.now) a.n (fits_table a.words.now a.n (omega arith)) _ first.0 _ first.1 c.partner_of.ensures
