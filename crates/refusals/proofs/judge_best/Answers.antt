-- `judge_best` puts the two reasons more into the verdict of `judge`, which is an acceptance.
use Rattle.rules.specs.Input.{input_in}
use Rattle.refusals.proofs.Further.{best_further}
use Rattle.refusals.proofs.judge_best.Goals as goal

pub returns-in-Ok : goal.returns-in-Ok
returns-in-Ok c =
    let a = c.args in
    rw (
      best_further (input_in a.cache a.limit a.tracked.now a.runs.now a.accesses.now a.edges.now a.result_room a.working_room),
      ← c.judge.ensures,
      c.in-Ok.is,
      ← c.all_tracked-tracked_all.ensures,
    )
    c.accepted_further.ensures
