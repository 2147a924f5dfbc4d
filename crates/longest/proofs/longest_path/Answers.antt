-- `longest_path` gives the verdict of the checks; where there is no refusal, it finds every node's end, and answers with the last one's.
use Rattle.std.proofs.Common.{sym, ◌∙◌, arith}
use Rattle.std.proofs.lemmas.Result.{err_from_is_err_and}
use Rattle.rules.specs.Input.{input_of}
use Rattle.rules.proofs.Refusals.{checked}
use Rattle.longest.proofs.Ends.{ends_fit, answer_refused, answer_longest}
use Rattle.longest.proofs.longest_path.Goals as goal

pub find_ends-requires : goal.find_ends-requires
find_ends-requires c =
    let ok = checked _ (sym c.in_ok-judge.was ∙ c.judge.ensures) in (ok.few_nodes, ends_fit _ ok)

pub overflow_sub-result : goal.overflow_sub-result
overflow_sub-result c = (checked _ (sym c.in_ok-judge.was ∙ c.judge.ensures)).some_nodes

pub bounds-ends-runs : goal.bounds-ends-runs
bounds-ends-runs c =
    let ok = checked _ (sym c.in_ok-judge.was ∙ c.judge.ensures) in omega (arith, ok.few_nodes, ok.some_nodes)

pub returns-in_err-judge : goal.returns-in_err-judge
returns-in_err-judge c =
    let p = err_from_is_err_and c.from_residual.result c.from_residual.ensures.1 in
    rw (p.1, p.2) (answer_refused _ _ _ c.judge.ensures c.in_err-judge.was)

pub returns : goal.returns
returns c =
    let accepted = sym c.in_ok-judge.was ∙ c.judge.ensures in
    answer_longest _ _ accepted (checked _ accepted).some_nodes c.find_ends.ensures
