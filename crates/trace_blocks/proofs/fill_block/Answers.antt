-- `fill_block` meets its contract: the check of the bytes that stand there is put behind them.
use borrow.Author.Rules.{rules}
use Rattle.trace_blocks.proofs.Stored.{block_stored}
use Rattle.trace_blocks.proofs.fill_block.Goals as goal

pub returns : goal.returns
returns c =
    block_stored _ _ c.write_head.new.block _ _ c.write_head.ensures c.weigh-check.ensures c.put_pair.ensures (search rules)
