-- `pair_sharing` pairs two rows, or passes over them.
use mathlib.Core.Path.{sym, ◌∙◌}
use Rattle.rules.specs.Contents.{shared}
use Rattle.tight_pairs.proofs.Matched.{pair_sharing, pair_passed}
use Rattle.tight_pairs.proofs.pair_sharing.Goals as goal

pub returns-then-size_of-blocks : goal.returns-then-size_of-blocks
unfolding shared
returns-then-size_of-blocks c =
    let a = c.args in
    pair_sharing a.p a.blocks a.i a.j a.n _ a.work.now _ (sym c.size_of.ensures ∙ c.if-size_of-blocks.true) c.pair_two.ensures

pub returns : goal.returns
unfolding shared
returns c =
    let a = c.args in
    pair_passed a.p a.blocks a.i a.j a.n a.work.now c.requires.0 (λ e. c.if-size_of-blocks.false (c.size_of.ensures ∙ e))
