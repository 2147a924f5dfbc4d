-- `row_above_cycles` meets its contract: the first reason to refuse, and where there is none the units above.
use mathlib.Core.Path.{sym, ◌∙◌}
use Rattle.std.proofs.lemmas.Result.{err_from_is_err_and}
use Rattle.row_questions.proofs.InCycles.{above_cycles_answered, above_cycles_refused}
use Rattle.row_questions.proofs.row_above_cycles.Goals as goal

pub units_above_cycles-requires : goal.units_above_cycles-requires
units_above_cycles-requires c = sym c.judged.ensures ∙ c.in_ok-judged.was

pub returns : goal.returns
returns c = above_cycles_answered _ _ _ (sym c.judged.ensures ∙ c.in_ok-judged.was) _ _ c.units_above_cycles.ensures

pub returns-in_err-judged : goal.returns-in_err-judged
returns-in_err-judged c =
    let p = err_from_is_err_and c.from_residual.result c.from_residual.ensures.1 in
    rw (p.1, p.2) (above_cycles_refused _ _ _ _ (sym c.judged.ensures ∙ c.in_err-judged.was) _)
