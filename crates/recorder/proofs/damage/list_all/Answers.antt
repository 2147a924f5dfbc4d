-- `list_all` meets its contract.
use mathlib.Core.Path.{refl}
use borrow.Author.Rules.{rules}
use Rattle.recorder.specs.Traces.{damage_at, damaged_places}
use Rattle.recorder.proofs.Traces.{front_next, gathered_end}
use Rattle.recorder.proofs.Fronts.{noted_most}
use Rattle.recorder.proofs.damage.list_all.Goals as goal

pub loop-k-init : goal.loop-k-init
unfolding damaged_places
loop-k-init c = (search rules, refl)

pub loop-k-preserved : goal.loop-k-preserved
loop-k-preserved c = (
  noted_most _ _ _ _ _ _ c.note_block-count.ensures c.loop-k.invariant.0 (search rules),
  front_next damage_at c.args.trace.now _ c.loop-k.count c.loop-k.places _ c.loop-k.invariant.1 c.loop-k-test.true _ _ c.note_block-count.ensures,
)

pub returns : goal.returns
returns c = record { within = search rules; stands = gathered_end damage_at _ _ _ _ c.loop-k.invariant.1 c.loop-k-test.false }
