-- `pair_given` asks whether the rows are accepted, and pairs by them or from the front.
use Rattle.estimate.proofs.HandedIn.{judged_places, given_rows, given_front}
use Rattle.estimate.proofs.handed.pair_given.Goals as goal

pub pair_rows-states-requires : goal.pair_rows-states-requires
pair_rows-states-requires c = let a = c.args in
    let p = c.requires in (
      p.0,
      p.1,
      p.2,
      p.3,
      p.4,
      p.5,
      judged_places a.left a.m a.right a.k a.work.now a.rows.now _ c.is_accepted.ensures p.2 p.3 p.4 c.if-is_accepted.true,
    )

pub returns-then-is_accepted : goal.returns-then-is_accepted
returns-then-is_accepted c = let a = c.args in
    given_rows a.left a.m a.right a.k a.work.now a.rows.now _ c.is_accepted.ensures _ _ _
    c.if-is_accepted.true c.pair_rows-states.ensures

pub returns : goal.returns
returns c = let a = c.args in
    given_front a.left a.m a.right a.k a.work.now a.rows.now _ c.is_accepted.ensures _ _ _
    c.if-is_accepted.false c.pair_up-states.ensures
