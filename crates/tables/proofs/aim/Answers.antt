-- `aim` looks the block up, and finds the other tracked blocks of its set.
use mathlib.Core.Path.{refl}
use Rattle.tables.proofs.Masks.{aimed_at_lem, aimed_none}
use Rattle.tables.proofs.aim.Goals as goal

pub returns-then-in_range : goal.returns-then-in_range
returns-then-in_range c =
    let a = c.args in
    aimed_at_lem a.sets a.tracked.now _ c.in_range.ensures c.if-in_range.true a.last a.block _ _ _ _
    c.look_up.ensures c.is_last.ensures refl c.mates_of.ensures

pub returns : goal.returns
returns c =
    let a = c.args in
    aimed_none a.sets a.tracked.now _ c.in_range.ensures c.if-in_range.false a.last a.block
