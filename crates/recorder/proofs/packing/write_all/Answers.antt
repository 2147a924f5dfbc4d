-- `write_all` meets its contract.
use borrow.Author.Rules.{rules}
use Rattle.recorder.proofs.Stored.{part_few, written_start, written_next, written_end}
use Rattle.recorder.proofs.packing.write_all.Goals as goal

pub loop-k-init : goal.loop-k-init
loop-k-init c = written_start _

pub write_at-requires : goal.write_at-requires
write_at-requires c =
    (part_few c.args.accesses.now _ _ c.block_end-end.ensures, search rules)

pub loop-k-preserved : goal.loop-k-preserved
loop-k-preserved c =
    written_next c.args.accesses.now c.loop-k.trace _ c.loop-k.k _ c.loop-k.invariant c.loop-k-test.true (search rules) _
    c.block_end-end.ensures _ c.write_at.ensures

pub returns : goal.returns
returns c = written_end _ _ _ _ _ c.loop-k.invariant c.loop-k-test.false c.loop-k.auto.k-end
