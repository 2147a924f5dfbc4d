-- The cycle of calls of the second pass: a sequence writes its items, and an item writes its sequences. An answer cites its law of `Writes`.
use Rattle.std.proofs.Common.{sym, ◌∙◌, eqb, arith}
use borrow.Author.Tests.{eqb-true}
use Rattle.basics.proofs.Bools.{and_left, and_right}
use Rattle.listing.proofs.Rooms.{no_rounds}
use Rattle.listing.proofs.Writes.{going_end, item_inside, item_ready, going_next, block_inside, access_fits, access_wrote, branch_ready, branch_wrote, loop_ready, loop_wrote, first_inside, first_ready, second_inside, second_ready, join_fits, branch_done, round_ready, round_done, count_inside, some_rounds, once_ready, others_ready, loop_idle, loop_done}
use Rattle.listing.proofs.emitting.+write_arm_write_branch_write_item_write_loop_write_rounds_write_sequence.Goals as goal

-- ---- a branch

pub write_branch-write_arm-left-requires : goal.write_branch-write_arm-left-requires
write_branch-write_arm-left-requires t c = (omega (arith, first_inside _ _ _ c.requires, c.decreases), first_ready _ _ _ c.requires)

pub write_branch-overflow_sub-last : goal.write_branch-overflow_sub-last
write_branch-overflow_sub-last t c = omega (arith, (second_ready _ _ _ c.requires _ _ c.write_arm-left.ensures).fits.from)

pub write_branch-write_arm-right-requires : goal.write_branch-write_arm-right-requires
write_branch-write_arm-right-requires t c =
    let inside = second_inside _ _ _ c.requires _ _ c.write_arm-left.ensures in
    (omega (arith, inside.0, inside.1, c.decreases), second_ready _ _ _ c.requires _ _ c.write_arm-left.ensures)

pub write_branch-open_join-requires : goal.write_branch-open_join-requires
write_branch-open_join-requires t c = join_fits _ _ _ c.requires _ _ c.write_arm-left.ensures _ _ c.write_arm-right.ensures

pub write_branch-returns : goal.write_branch-returns
write_branch-returns t c = branch_done _ _ _ c.requires _ _ c.write_arm-left.ensures _ _ c.write_arm-right.ensures _ (c.open_join.ensures.rooms _ _)

-- ---- an item, by its first token

pub write_item-bounds-tokens-at-then-first-eq1 : goal.write_item-bounds-tokens-at-then-first-eq1
write_item-bounds-tokens-at-then-first-eq1 t c = block_inside c.args.tokens.now c.args.at _ c.requires c.if-first-eq1.true

pub write_item-write_access-requires : goal.write_item-write_access-requires
write_item-write_access-requires t c = access_fits c.args.tokens.now c.args.at _ c.requires c.if-first-eq1.true

pub write_item-returns-then-first-eq1 : goal.write_item-returns-then-first-eq1
write_item-returns-then-first-eq1 t c = access_wrote c.args.tokens.now c.args.at _ c.requires c.if-first-eq1.true _ (c.write_access.ensures.rooms _)

pub write_item-write_branch-requires : goal.write_item-write_branch-requires
write_item-write_branch-requires t c = (omega (arith, c.decreases), branch_ready c.args.tokens.now c.args.at _ c.requires c.if-first-eq2.true)

pub write_item-returns-then-first-eq2 : goal.write_item-returns-then-first-eq2
write_item-returns-then-first-eq2 t c = branch_wrote c.args.tokens.now c.args.at _ c.requires c.if-first-eq2.true _ _ c.write_branch.ensures

pub write_item-write_loop-requires : goal.write_item-write_loop-requires
write_item-write_loop-requires t c = (omega (arith, c.decreases), loop_ready c.args.tokens.now c.args.at _ c.requires c.if-first-eq1.false c.if-first-eq2.false)

pub write_item-returns : goal.write_item-returns
write_item-returns t c = loop_wrote c.args.tokens.now c.args.at _ c.requires c.if-first-eq1.false c.if-first-eq2.false _ _ c.write_loop.ensures

-- ---- a loop

pub write_loop-bounds-tokens-at : goal.write_loop-bounds-tokens-at
write_loop-bounds-tokens-at t c = count_inside _ _ _ c.requires

pub write_loop-write_sequence-first-requires : goal.write_loop-write_sequence-first-requires
write_loop-write_sequence-first-requires t c = (omega (arith, count_inside _ _ _ c.requires, c.decreases), once_ready _ _ _ c.requires)

pub write_loop-returns-then-same_size : goal.write_loop-returns-then-same_size
write_loop-returns-then-same_size t c =
    let a = c.args.from in
    let b = c.write_sequence-first.result.standing in
    let same = sym c.same_size.ensures ∙ c.if-same_size.true in
    loop_idle _ _ _ c.requires _ _ c.write_sequence-first.ensures
    (sym (eqb-true a.nodes b.nodes (and_left (eqb a.nodes b.nodes) _ same)))
    (sym (eqb-true a.accesses b.accesses (and_right (eqb a.nodes b.nodes) _ same)))

pub write_loop-overflow_sub-count : goal.write_loop-overflow_sub-count
write_loop-overflow_sub-count t c = some_rounds _ _ _ c.requires

pub write_loop-write_rounds-requires : goal.write_loop-write_rounds-requires
write_loop-write_rounds-requires t c =
    (omega (arith, count_inside _ _ _ c.requires, c.decreases), others_ready _ _ _ c.requires _ _ c.write_sequence-first.ensures)

pub write_loop-returns : goal.write_loop-returns
write_loop-returns t c = loop_done _ _ _ c.requires _ _ c.write_sequence-first.ensures _ c.write_rounds.ensures

-- ---- rounds

pub write_rounds-loop-round-init : goal.write_rounds-loop-round-init
write_rounds-loop-round-init t c = sym (no_rounds _ _)

pub write_rounds-write_sequence-end-requires : goal.write_rounds-write_sequence-end-requires
write_rounds-write_sequence-end-requires t c =
    (omega (arith, c.decreases), round_ready _ _ _ _ c.requires _ _ c.loop-round.invariant c.loop-round-test.true)

pub write_rounds-loop-round-preserved : goal.write_rounds-loop-round-preserved
write_rounds-loop-round-preserved t c =
    round_done _ _ _ _ c.requires _ _ c.loop-round.invariant _ _ c.write_sequence-end.ensures

-- ---- a sequence

pub write_sequence-write_item-p-requires : goal.write_sequence-write_item-p-requires
write_sequence-write_item-p-requires t c =
    let going = c.loop-so_far.invariant in
    let begins = sym c.loop-so_far-test.true ∙ c.begins_item.ensures in
    (omega (arith, item_inside _ _ _ _ _ going begins, going.from, c.decreases), item_ready _ _ _ _ _ going begins)

pub write_sequence-loop-so_far-smaller : goal.write_sequence-loop-so_far-smaller
write_sequence-loop-so_far-smaller t c =
    let next = going_next _ _ _ _ _ c.loop-so_far.invariant (sym c.loop-so_far-test.true ∙ c.begins_item.ensures) _ _ c.write_item-p.ensures in
    omega (arith, next.0, next.1.ready.inside)

pub write_sequence-loop-so_far-preserved : goal.write_sequence-loop-so_far-preserved
write_sequence-loop-so_far-preserved t c =
    (going_next _ _ _ _ _ c.loop-so_far.invariant (sym c.loop-so_far-test.true ∙ c.begins_item.ensures) _ _ c.write_item-p.ensures).1

pub write_sequence-returns : goal.write_sequence-returns
write_sequence-returns t c = going_end _ _ _ _ _ c.loop-so_far.invariant (sym c.loop-so_far-test.false ∙ c.begins_item.ensures)
