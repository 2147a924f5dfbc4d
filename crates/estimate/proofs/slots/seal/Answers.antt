-- `seal` has the words behind the table cleared: they are no states then.
use Rattle.estimate.proofs.Sealing.{sealed}
use Rattle.estimate.proofs.slots.seal.Goals as goal

pub returns : goal.returns
returns c =
    sealed c.args.work.now _ c.args.at c.args.n c.requires.0 c.requires.1 (c.fill.ensures.after (λ y p. p))
