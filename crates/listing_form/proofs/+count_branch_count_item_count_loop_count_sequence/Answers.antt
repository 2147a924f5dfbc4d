-- The cycle of calls of the first pass: a sequence counts its items, and an item counts its sequences. Each section says what is seen at the places of a
-- function that its answers go back to; an answer then cites its law of `Counts`.
use Rattle.std.proofs.Common.{◌≡◌, sym, ap, ◌∙◌, ℕ, ◌+◌, ◌≤◌, ◌<◌, length, get_or, arith}
use Rattle.listing_form.specs.Counting.{behind}
use Rattle.listing_form.proofs.Counts.{Under, SeenSequence, seen_sequence, unseen, closing, in_tokens, item_access, item_flat, item_branch, item_loop, item_none, no_left, left_open, no_right, right_open, branch_there_lem, few_rounds, many_rounds, no_body, body_open, loop_there_lem, reading_end, reading_broken, reading_next, begins_inside}
use Rattle.listing_form.proofs.+count_branch_count_item_count_loop_count_sequence.Goals as goal
use Rattle.listing_form.proofs.+count_branch_count_item_count_loop_count_sequence.Goals.{count_branch-After-token, count_branch-Else-token-ne3, count_branch-After-token-2, count_branch-Else-token-ne4, count_loop-Else-count-gt64, count_loop-After-token, count_loop-Else-token-ne6}

-- ---- a branch

-- the first arm, read from the branch's place on; its token follows
left_seen : (t : ℕ) (c : goal.count_branch-After-token t) → SeenSequence c.args.tokens.now c.args.at c.args.depth c.in_ok-left.left
left_seen t c = seen_sequence _ _ _ c.requires c.count_sequence.result c.count_sequence.ensures _ c.in_ok-left.was

-- it is closed
left_closed : (t : ℕ) (c : goal.count_branch-Else-token-ne3 t) → (get_or c.args.tokens.now c.in_ok-left.left.at 0 ≡ 3) × (c.in_ok-left.left.at < length c.args.tokens.now)
left_closed t c = closing _ _ 3 c.token.result c.token.ensures c.if-token-ne3.false (λ q. omega (arith, q))

pub count_branch-returns-in_err-left : goal.count_branch-returns-in_err-left
count_branch-returns-in_err-left t c =
    rw c.from_residual.ensures (no_left c.args.tokens.now c.args.at c.args.depth (unseen _ _ _ c.count_sequence.ensures c.in_err-left.was))

pub count_branch-returns-then-token-ne3 : goal.count_branch-returns-then-token-ne3
count_branch-returns-then-token-ne3 t c =
    left_open _ _ _ _ (left_seen t (goal.at.count_branch-returns-then-token-ne3 t c).After-token) (λ q. c.if-token-ne3.true (c.token.ensures ∙ q))

pub count_branch-count_sequence-requires-2 : goal.count_branch-count_sequence-requires-2
count_branch-count_sequence-requires-2 t c =
    let at = goal.at.count_branch-count_sequence-requires-2 t c in
    let closed = left_closed t at.Else-token-ne3 in
    (omega (arith, closed.1, (left_seen t at.After-token).from, c.decreases), omega (arith, closed.1))

-- the second arm, read from behind that on; its token follows
right_seen : (t : ℕ) (c : goal.count_branch-After-token-2 t) → SeenSequence c.args.tokens.now (c.in_ok-left.left.at + 1) c.args.depth c.in_ok-right.right
right_seen t c =
    let closed = closing c.args.tokens.now c.in_ok-left.left.at 3 c.token.result c.token.ensures c.if-token-ne3.false (λ q. omega (arith, q)) in
    seen_sequence _ _ _ (omega (arith, closed.1)) c.count_sequence-2.result c.count_sequence-2.ensures _ c.in_ok-right.was

-- it is closed
right_closed : (t : ℕ) (c : goal.count_branch-Else-token-ne4 t)
    → (get_or c.args.tokens.now c.in_ok-right.right.at 0 ≡ 4) × (c.in_ok-right.right.at < length c.args.tokens.now)
right_closed t c = closing _ _ 4 c.token-2.result c.token-2.ensures c.if-token-ne4.false (λ q. omega (arith, q))

pub count_branch-returns-in_err-right : goal.count_branch-returns-in_err-right
count_branch-returns-in_err-right t c =
    let at = goal.at.count_branch-returns-in_err-right t c in
    let closed = left_closed t at.Else-token-ne3 in
    rw c.from_residual-in_err-right.ensures
    (no_right _ _ _ _ (left_seen t at.After-token) closed.0 closed.1 (unseen _ _ _ c.count_sequence-2.ensures c.in_err-right.was))

pub count_branch-returns-then-token-ne4 : goal.count_branch-returns-then-token-ne4
count_branch-returns-then-token-ne4 t c =
    let at = goal.at.count_branch-returns-then-token-ne4 t c in
    let closed = left_closed t at.Else-token-ne3 in
    right_open _ _ _ _ (left_seen t at.After-token) closed.0 closed.1 _ (right_seen t at.After-token-2) (λ q. c.if-token-ne4.true (c.token-2.ensures ∙ q))

pub count_branch-returns : goal.count_branch-returns
count_branch-returns t c =
    let at = goal.at.count_branch-returns t c in
    let left = left_closed t at.Else-token-ne3 in
    let right = right_closed t at.Else-token-ne4 in
    branch_there_lem _ _ _ _ (left_seen t at.After-token) left.0 left.1 _ (right_seen t at.After-token-2) right.0 right.1 _ _
    (c.sum-2.ensures ∙ rw c.sum.ensures) c.sum-3.ensures

-- ---- an item, by its first token

pub count_item-returns-then-first-eq1 : goal.count_item-returns-then-first-eq1
count_item-returns-then-first-eq1 t c = item_access _ _ _ _ c.if-first-eq1.true _ c.count_access.ensures

pub count_item-returns-then-depth-eq0 : goal.count_item-returns-then-depth-eq0
count_item-returns-then-depth-eq0 t c = item_flat _ _ _ _ c.if-first-eq1.false c.if-depth-eq0.true

pub count_item-returns-then-first-eq2 : goal.count_item-returns-then-first-eq2
count_item-returns-then-first-eq2 t c = item_branch _ _ _ _ c.if-first-eq2.true c.if-depth-eq0.false _ c.count_branch.ensures

pub count_item-returns-then-first-eq5 : goal.count_item-returns-then-first-eq5
count_item-returns-then-first-eq5 t c = item_loop _ _ _ _ c.if-first-eq5.true c.if-depth-eq0.false _ c.count_loop.ensures

pub count_item-returns : goal.count_item-returns
count_item-returns t c = item_none _ _ _ _ c.if-first-eq1.false c.if-first-eq2.false c.if-first-eq5.false

-- ---- a loop

-- the count is from 1 to 64, and so it stands among the tokens
rounds : (t : ℕ) (c : goal.count_loop-Else-count-gt64 t) → let n = get_or c.args.tokens.now c.args.at 0 in (1 ≤ n) × (n ≤ 64) × (c.args.at < length c.args.tokens.now)
rounds t c =
    let count = c.token-count.ensures in
    let some : 1 ≤ get_or c.args.tokens.now c.args.at 0 = omega (arith, count, c.if-count-lt1.false) in
    (some, omega (arith, count, c.if-count-gt64.false), in_tokens c.args.tokens.now c.args.at (λ q. omega (arith, q, some)))

pub count_loop-returns-then-count-lt1 : goal.count_loop-returns-then-count-lt1
count_loop-returns-then-count-lt1 t c = few_rounds c.args.tokens.now c.args.at c.args.depth (omega (arith, c.token-count.ensures, c.if-count-lt1.true))

pub count_loop-returns-then-count-gt64 : goal.count_loop-returns-then-count-gt64
count_loop-returns-then-count-gt64 t c =
    let count = c.token-count.ensures in
    many_rounds _ _ _ (in_tokens c.args.tokens.now c.args.at (λ q. omega (arith, q, count, c.if-count-gt64.true))) (omega (arith, count, c.if-count-gt64.true))

pub count_loop-count_sequence-requires : goal.count_loop-count_sequence-requires
count_loop-count_sequence-requires t c = (omega (arith, (rounds t c).2, c.decreases), omega (arith, (rounds t c).2))

pub count_loop-returns-in_err-body : goal.count_loop-returns-in_err-body
count_loop-returns-in_err-body t c =
    let n = rounds t (goal.at.count_loop-returns-in_err-body t c).Else-count-gt64 in
    rw c.from_residual.ensures (no_body _ _ _ n.2 n.0 n.1 (unseen _ _ _ c.count_sequence.ensures c.in_err-body.was))

-- the sequence that it runs, read from behind the count on; its token follows
body_seen : (t : ℕ) (c : goal.count_loop-After-token t) → c.args.at < length c.args.tokens.now → SeenSequence c.args.tokens.now (c.args.at + 1) c.args.depth c.in_ok-body.body
body_seen t c l = seen_sequence _ _ _ (omega (arith, l)) c.count_sequence.result c.count_sequence.ensures _ c.in_ok-body.was

pub count_loop-returns-then-token-ne6 : goal.count_loop-returns-then-token-ne6
count_loop-returns-then-token-ne6 t c =
    let at = goal.at.count_loop-returns-then-token-ne6 t c in
    let n = rounds t at.Else-count-gt64 in
    body_open _ _ _ n.2 n.0 n.1 _ (body_seen t at.After-token n.2) (λ q. c.if-token-ne6.true (c.token.ensures ∙ q))

-- it is closed
body_closed : (t : ℕ) (c : goal.count_loop-Else-token-ne6 t) → (get_or c.args.tokens.now c.in_ok-body.body.at 0 ≡ 6) × (c.in_ok-body.body.at < length c.args.tokens.now)
body_closed t c = closing _ _ 6 c.token.result c.token.ensures c.if-token-ne6.false (λ q. omega (arith, q))

pub count_loop-returns : goal.count_loop-returns
count_loop-returns t c =
    let at = goal.at.count_loop-returns t c in
    let n = rounds t at.Else-count-gt64 in
    let closed = body_closed t at.Else-token-ne6 in
    loop_there_lem _ _ _ n.2 n.0 n.1 _ (body_seen t at.After-token n.2) closed.0 closed.1
    c.token-count.result _ _ c.token-count.ensures c.product.ensures c.product-2.ensures

-- ---- a sequence

pub count_sequence-count_item-requires : goal.count_sequence-count_item-requires
count_sequence-count_item-requires t c =
    let inside = begins_inside c.args.tokens.now _ c.args.depth (sym c.loop-so_far-test.true ∙ c.begins_item.ensures) in
    (omega (arith, inside, c.loop-so_far.invariant.from, c.decreases), inside)

pub count_sequence-returns-in_err-next : goal.count_sequence-returns-in_err-next
count_sequence-returns-in_err-next t c =
    rw c.from_residual.ensures
    (reading_broken _ _ _ _ c.loop-so_far.invariant (sym c.loop-so_far-test.true ∙ c.begins_item.ensures) _ c.count_item.ensures c.in_err-next.was)

-- the item that was read
next_read : (t : ℕ) (c : goal.count_sequence-After-both-so_far t) → (c.loop-so_far.so_far.at < c.in_ok-next.next.at) × Under c.args.tokens.now c.args.at c.args.depth (behind c.loop-so_far.so_far c.in_ok-next.next)
next_read t c =
    reading_next _ _ _ _ c.loop-so_far.invariant (sym c.loop-so_far-test.true ∙ c.begins_item.ensures) _ c.count_item.ensures _ c.in_ok-next.was

pub count_sequence-loop-so_far-smaller : goal.count_sequence-loop-so_far-smaller
count_sequence-loop-so_far-smaller t c =
    omega (arith, ap (λ z. z.at) c.both-so_far.ensures, (next_read t c).0, (next_read t c).1.to)

pub count_sequence-loop-so_far-preserved : goal.count_sequence-loop-so_far-preserved
count_sequence-loop-so_far-preserved t c = rw c.both-so_far.ensures (next_read t c).1

pub count_sequence-returns : goal.count_sequence-returns
count_sequence-returns t c = reading_end _ _ _ _ c.loop-so_far.invariant (sym c.loop-so_far-test.false ∙ c.begins_item.ensures)
