-- `sum_of` adds word by word, as far as there are words.
use Rattle.std.proofs.Common.{◌≡◌, ◌%◌, ◌^◌, ap, ◌∙◌, arith}
use Rattle.tight_rows.proofs.Totals.{sum_there}
use Rattle.tight_rows.proofs.rows.sum_of.Goals as goal

pub returns : goal.returns
returns c =
    let l = c.loop-j in
    let there = c.there-m in
    let a = c.args in
    let all : l.j ≡ there.result = omega arith in
    l.invariant ∙ ap (◌% 2 ^ 64) (rw all (sum_there a.from a.work.now there.result a.n there.ensures))
