-- `with_access` meets its contract: one of at most 16 places is found.
use Rattle.live.proofs.Lives.{with_found}
use Rattle.live.proofs.with_access.Goals as goal

pub returns : goal.returns
returns c =
    with_found c.args.tracked.now c.requires c.args.live c.args.block _ _ c.aim-target.ensures c.with_block.ensures
