-- `made_one` keeps filled numbers that are the same, and else is `meet`.
use mathlib.Core.Path.{sym, ◌∙◌}
use native.Mathlib.Omega.{arith}
use Rattle.rules.specs.Contents.{shared}
use Rattle.rules.proofs.Filling.{fullest_same}
use Rattle.folding.proofs.partner.made_one.Goals as goal

pub returns-then-same_filled : goal.returns-then-same_filled
unfolding shared
returns-then-same_filled c =
    let a = c.args in
    rw (c.larger.ensures, ← fullest_same a.s.filled a.t.filled (omega arith) (omega arith) (sym c.same_filled.ensures ∙ c.if-same_filled.true))
