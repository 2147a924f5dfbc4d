-- `seal` fills what is behind the table with zeros, which are no states.
use native.Mathlib.Omega.{arith}
use borrow.Author.Rules.{rules}
use Rattle.best.proofs.Sealing.{sealed}
use Rattle.best.proofs.slots.seal.Goals as goal

pub returns : goal.returns
returns c =
    let a = c.args in
    sealed a.work.now a.at a.n (omega arith) (omega arith) c.fill.new.self (search rules)
