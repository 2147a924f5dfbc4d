-- `first_damaged` meets its contract.
use mathlib.Core.Path.{refl, sym, ◌∙◌}
use native.Mathlib.Omega.{arith}
use Rattle.recorder.specs.Traces.{damaged_places}
use Rattle.recorder.proofs.Traces.{lent_judged, sound_next, first_here, none_here}
use Rattle.recorder.proofs.blocks.first_damaged.Goals as goal

pub loop-k-init : goal.loop-k-init
unfolding damaged_places
loop-k-init c = refl

pub returns-then-not-is_sound : goal.returns-then-not-is_sound
returns-then-not-is_sound c =
    first_here _ _ c.loop-k.invariant c.loop-k-test.true (lent_judged _ _ c.loop-k-test.true ∙ sym c.is_sound.ensures ∙ c.if-not-is_sound.true) _

pub loop-k-preserved : goal.loop-k-preserved
loop-k-preserved c =
    sound_next _ _ c.loop-k.invariant c.loop-k-test.true (lent_judged _ _ c.loop-k-test.true ∙ sym c.is_sound.ensures ∙ c.if-not-is_sound.false)

pub returns : goal.returns
returns c = omega (arith, none_here c.args.trace.now _ c.loop-k.invariant c.loop-k-test.false c.loop-k.auto.k-end)
