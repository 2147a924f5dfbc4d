-- `note_block` meets its contract: a sound block leaves the places as they are, a damaged one puts its place behind them.
use mathlib.Core.Path.{sym, ◌∙◌}
use Rattle.trace_blocks.proofs.AnyBytes.{judged_block}
use Rattle.recorder.proofs.Fronts.{not_noted, noted}
use Rattle.recorder.proofs.damage.note_block.Goals as goal

pub returns-then-is_sound : goal.returns-then-is_sound
returns-then-is_sound c =
    let p = c.requires in
    not_noted _ _ _ _ p.1 (judged_block _ p.0 _ ∙ sym c.is_sound.ensures ∙ c.if-is_sound.true)

pub returns : goal.returns
returns c =
    let p = c.requires in
    noted _ _ _ _ p.1 (judged_block _ p.0 _ ∙ sym c.is_sound.ensures ∙ c.if-is_sound.false)
