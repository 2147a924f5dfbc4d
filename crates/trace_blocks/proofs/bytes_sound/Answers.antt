-- `bytes_sound` meets its contract: each early return is one test of the definition that fails.
use mathlib.Core.Path.{sym, ◌∙◌}
use Rattle.trace_blocks.specs.Blocks.{check_of}
use Rattle.trace_blocks.proofs.Judged.{other_number, too_many, not_zero, by_check}
use Rattle.trace_blocks.proofs.bytes_sound.Goals as goal

pub returns-then-four_at-place : goal.returns-then-four_at-place
returns-then-four_at-place c =
    let f = c.four_at.ensures in
    other_number _ _ (λ e. c.if-four_at-place.true (f ∙ e))

pub returns-then-count-gt125 : goal.returns-then-count-gt125
returns-then-count-gt125 c =
    too_many _ _ (sym c.four_at.ensures ∙ c.if-four_at-place.false) (rw c.pair_at-count.ensures at c.if-count-gt125.true)

pub returns-then-not-all_zero : goal.returns-then-not-all_zero
returns-then-not-all_zero c =
    not_zero _ _ (sym c.four_at.ensures ∙ c.if-four_at-place.false) (rw c.pair_at-count.ensures at c.if-count-gt125.false)
    (rw c.pair_at-count.ensures at (sym c.all_zero.ensures ∙ c.if-not-all_zero.true))

pub returns : goal.returns
unfolding check_of
returns c =
    rw (c.pair_at.ensures, c.weigh.ensures)
    (by_check _ _ (sym c.four_at.ensures ∙ c.if-four_at-place.false) (rw c.pair_at-count.ensures at c.if-count-gt125.false)
    (rw c.pair_at-count.ensures at (sym c.all_zero.ensures ∙ c.if-not-all_zero.false)))
