-- `write_head` meets its contract: the parts stand one behind the other, and zeros behind them.
use borrow.Author.Rules.{rules}
use Rattle.trace_blocks.proofs.Prefixes.{cleared_rest}
use Rattle.trace_blocks.proofs.Stored.{head_stored}
use Rattle.trace_blocks.proofs.write_head.Goals as goal

pub returns : goal.returns
returns c =
    let b = c.put_accesses.new.block in
    head_stored _ _ c.args.block.now c.put_four.new.block c.put_pair.new.block b _ c.requires.0 (search rules)
    c.put_four.ensures c.put_pair.ensures c.put_accesses.ensures (cleared_rest b c.fill.new.self _ (c.fill.ensures.after (λ y p. p)))
