-- `copy_all` meets its contract.
use mathlib.Core.Path.{refl}
use borrow.Author.Rules.{rules}
use Rattle.recorder.specs.Traces.{said_at, said, damaged_places}
use Rattle.recorder.proofs.Traces.{front_next, gathered_end}
use Rattle.recorder.proofs.Copied.{sound_left, sound_few, copied_most}
use Rattle.recorder.proofs.copying.copy_all.Goals as goal

pub loop-k-init : goal.loop-k-init
unfolding said damaged_places
loop-k-init c = (search rules, c.requires.1, refl)

pub copy_block-count-requires : goal.copy_block-count-requires
copy_block-count-requires c =
    (search rules, search rules, sound_few _ _ (sound_left c.args.trace.now _ c.loop-k.invariant.1 c.loop-k-test.true).0)

pub loop-k-preserved : goal.loop-k-preserved
loop-k-preserved c =
    let left = sound_left c.args.trace.now _ c.loop-k.invariant.1 c.loop-k-test.true in (
      copied_most _ _ _ _ _ _ c.copy_block-count.ensures (sound_few _ _ left.0) c.loop-k.invariant.0 (search rules),
      left.1,
      front_next said_at c.args.trace.now _ c.loop-k.count c.loop-k.accesses _ c.loop-k.invariant.2 c.loop-k-test.true _ _ c.copy_block-count.ensures,
    )

pub returns : goal.returns
returns c = record { within = search rules; stands = gathered_end said_at _ _ _ _ c.loop-k.invariant.2 c.loop-k-test.false }
