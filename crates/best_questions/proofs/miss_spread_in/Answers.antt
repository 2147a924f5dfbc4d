-- `miss_spread_in` meets its contract: what the spread of any count answers and leaves is what this one does.
use Rattle.std.proofs.lemmas.Result.{err_from_is_err_and}
use Rattle.rules.specs.declared.Misses.{Misses}
use Rattle.any_table.proofs.Answered.{given, refused}
use Rattle.best_questions.proofs.Answered.{miss_answered}
use Rattle.best_questions.proofs.miss_spread_in.Goals as goal

pub returns-in_err-spread_in : goal.returns-in_err-spread_in
returns-in_err-spread_in c =
    let p = err_from_is_err_and c.from_residual.result c.from_residual.ensures.1 in
    rw (p.1, p.2)
    (miss_answered _ _ _ c.spread_in.ensures.left _ (refused {C = Misses} (λ n. record { 0 = n }) _ _ _ c.spread_in.ensures.answered _ c.in_err-spread_in.was))

pub returns : goal.returns
returns c =
    miss_answered _ _ _ c.spread_in.ensures.left _ (given {C = Misses} (λ n. record { 0 = n }) _ _ _ c.spread_in.ensures.answered _ c.in_ok-spread_in.was)
