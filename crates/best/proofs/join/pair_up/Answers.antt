-- `pair_up` takes the walk's pairs one by one into the scratch.
use Rattle.tables.proofs.Pairing.{best_in_words, underway_none, underway_left, underway_right, room_for_one, left_stays, right_stays, underway_falls, underway_more}
use Rattle.best.proofs.join.pair_up.Goals as goal

pub loop-a-init : goal.loop-a-init
loop-a-init c = underway_none best_in_words _ _ _ _ _ _ _ c.front_at-a.ensures c.front_at-b.ensures

pub returns-then-m-a : goal.returns-then-m-a
returns-then-m-a c = underway_left best_in_words c.loop-a.invariant c.requires c.if-m-a.true

pub returns-then-k-b : goal.returns-then-k-b
returns-then-k-b c = underway_right best_in_words c.loop-a.invariant c.requires c.if-k-b.true

pub add_to_scratch-n-requires : goal.add_to_scratch-n-requires
add_to_scratch-n-requires c = room_for_one best_in_words c.loop-a.invariant c.requires c.if-m-a.false c.if-k-b.false

pub after-a-requires : goal.after-a-requires
after-a-requires c = left_stays best_in_words c.loop-a.invariant c.requires c.if-m-a.false c.if-k-b.false
    _ _ _ c.add_to_scratch-n.auto.work c.add_to_scratch-n.ensures _ c.smaller-used.ensures

pub after-b-requires : goal.after-b-requires
after-b-requires c = right_stays best_in_words c.loop-a.invariant c.requires c.if-m-a.false c.if-k-b.false
    _ _ _ c.add_to_scratch-n.auto.work c.add_to_scratch-n.ensures _ c.smaller-used.ensures

pub loop-a-smaller : goal.loop-a-smaller
loop-a-smaller c = underway_falls best_in_words c.loop-a.invariant c.requires c.if-m-a.false c.if-k-b.false
    _ _ _ c.add_to_scratch-n.auto.work c.add_to_scratch-n.ensures _ c.smaller-used.ensures _ _ c.after-a.ensures c.after-b.ensures

pub loop-a-preserved : goal.loop-a-preserved
loop-a-preserved c = underway_more best_in_words c.loop-a.invariant c.requires c.if-m-a.false c.if-k-b.false
    _ _ _ c.add_to_scratch-n.auto.work c.add_to_scratch-n.ensures _ c.smaller-used.ensures _ _ c.after-a.ensures c.after-b.ensures
    c.pair.ensures
