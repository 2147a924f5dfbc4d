-- `fill_one` leaves the numbers of a full set, and else adds 1 in the set's byte, of the first word or of the second.
use Rattle.std.proofs.Common.{◌%◌, ◌∙◌, arith}
use Rattle.states.proofs.Numbers.{full_stays, one_more_front, one_more_back, words_are}
use Rattle.states.proofs.filled.fill_one.Goals as goal

pub returns-then-ways-number_of : goal.returns-then-ways-number_of
returns-then-ways-number_of c =
    let a = c.args in
    full_stays _ _ _ _ c.number_of.ensures c.if-ways-number_of.true ∙ words_are a.ways (a.set % 16) (omega arith) a.f (omega arith) (omega arith)

pub returns-then-at-lt8 : goal.returns-then-at-lt8
returns-then-at-lt8 c =
    let a = c.args in
    one_more_front _ _ a.f _ c.number_of.ensures c.if-ways-number_of.false _ c.if-at-lt8.true c.one_at.ensures _ c.wrapping_add_u64.ensures.value
    ∙ words_are a.ways (a.set % 16) (omega arith) a.f (omega arith) (omega arith)

pub returns : goal.returns
returns c =
    let a = c.args in
    one_more_back _ _ a.f _ c.number_of.ensures c.if-ways-number_of.false _ c.if-at-lt8.false c.one_at-2.ensures _ c.wrapping_add_u64-2.ensures.value
    ∙ words_are a.ways (a.set % 16) (omega arith) a.f (omega arith) (omega arith)
