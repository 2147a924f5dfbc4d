-- `first_head` finds out in which streams something of the run is to come.
use mathlib.Core.Path.{ap, ◌∙◌}
use mathlib.Core.Bool.{Bool}
use Rattle.rules.specs.Contents.{hits}
use Rattle.tables.proofs.Masks.{has_listed}
use Rattle.heads.specs.Head.{head_of, streams_for}
use Rattle.estimate.proofs.run_list.first_head.Goals as goal

pub returns : goal.returns
returns c = let a = c.args in
    c.head_of.ensures
    ∙ ap (head_of a.mask a.own a.stretch)
    (c.streams_of.ensures
    ∙ ap (λ (h : Bool). streams_for h a.filling c.held_of.result) (has_listed _ _ c.requires.0 _ _ c.has_block-hit.ensures)
    ∙ ap (streams_for (hits a.x a.mask) a.filling) c.held_of.ensures)
