-- `judge_list` meets its contract: 20 before 6, by the count of graphs and the lengths of the two rooms.
use native.Mathlib.Omega.{arith}
use Rattle.night_rows.proofs.Judged.{not_exact, is_exact, count_is, list_refused, rows_refused, room_refused, list_accepted}
use Rattle.night_rows.proofs.judge_list.Goals as goal

pub returns-then-count-gt256 : goal.returns-then-count-gt256
returns-then-count-gt256 c =
    let a = c.args in
    list_refused a.numbers.now a.rows a.work (not_exact _ _ c.count_graphs-count.ensures c.if-count-gt256.true)

pub returns-then-rows-count : goal.returns-then-rows-count
returns-then-rows-count c =
    let said = c.count_graphs-count.ensures in
    let few = c.if-count-gt256.false in
    let count = count_is _ _ said few in
    let a = c.args in
    rows_refused a.numbers.now a.rows a.work (is_exact _ _ said few) (omega (arith, count, c.if-rows-count.true))

pub returns-then-work-lt5248 : goal.returns-then-work-lt5248
returns-then-work-lt5248 c =
    let said = c.count_graphs-count.ensures in
    let few = c.if-count-gt256.false in
    let count = count_is _ _ said few in
    let a = c.args in
    room_refused a.numbers.now a.rows a.work (is_exact _ _ said few) (omega (arith, count, c.if-rows-count.false)) c.if-work-lt5248.true

pub returns : goal.returns
returns c =
    let said = c.count_graphs-count.ensures in
    let few = c.if-count-gt256.false in
    let count = count_is _ _ said few in
    let a = c.args in
    list_accepted a.numbers.now a.rows a.work (is_exact _ _ said few) (omega (arith, count, c.if-rows-count.false)) c.if-work-lt5248.false
