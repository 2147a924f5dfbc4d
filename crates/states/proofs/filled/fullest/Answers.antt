-- `fullest` keeps numbers that are the same, and else takes the larger of each word's.
use Rattle.std.proofs.Common.{sym, ◌∙◌, arith}
use Rattle.rules.proofs.Filling.{fullest_same, fullest_words}
use Rattle.states.proofs.filled.fullest.Goals as goal

pub returns-then-same_filled : goal.returns-then-same_filled
returns-then-same_filled c =
    let a = c.args in
    fullest_same a.f a.g (omega arith) (omega arith) (sym c.same_filled.ensures ∙ c.if-same_filled.true)

pub returns : goal.returns
returns c = fullest_words _ _ _ _ c.larger_bytes.ensures c.larger_bytes-2.ensures
