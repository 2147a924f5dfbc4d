-- `live_starts` gives zeros for a refusal, and otherwise fills them from the last node to the first.
use Rattle.std.proofs.Common.{sym, ◌∙◌}
use Rattle.rules.proofs.Refusals.{checked}
use Rattle.live.proofs.Lives.{starts_refused, starts_found}
use Rattle.live.proofs.live_starts.Goals as goal

pub fill_starts-requires : goal.fill_starts-requires
fill_starts-requires c = let ok = checked _ (sym c.in-Ok.is ∙ c.judge.ensures) in (ok.few_tracked, ok.few_nodes, ok.all_accesses)

pub returns-in-Err : goal.returns-in-Err
returns-in-Err c = starts_refused _ _ (sym c.in-Err.is ∙ c.judge.ensures)

pub returns-in-Ok : goal.returns-in-Ok
returns-in-Ok c =
    let accepted = sym c.in-Ok.is ∙ c.judge.ensures in
    starts_found _ _ accepted (checked _ accepted).few_nodes c.fill_starts.ensures
