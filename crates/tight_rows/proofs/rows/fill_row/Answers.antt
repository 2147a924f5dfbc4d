-- `fill_row` writes as many of the words as there are.
use Rattle.std.proofs.Common.{◌≡◌, ◌+◌, ◌-◌, ◌∙◌, length, replicate, take, drop, ap, arith, rules, length-take, length-drop}
use Rattle.tight_rows.proofs.Writing.{row_filled}
use Rattle.tight_rows.proofs.rows.fill_row.Goals as goal

pub returns-then-n-gt0 : goal.returns-then-n-gt0
returns-then-n-gt0 c =
    let a = c.args in
    let n = c.there-n.result in
    let part : length (take (a.at + n - a.at) (drop a.at a.work.now)) ≡ n = simp (length-take, length-drop) (omega (arith, c.there-n.ensures.inside)) in
    row_filled a.at n (a.at + n - a.at) a.word a.work.now c.fill.new.self (omega arith) (c.fill.ensures.after (λ y p. p) ∙ ap (λ m. replicate m a.word) part)
    (omega (arith, c.there-n.ensures.inside)) a.width c.there-n.ensures (search rules)
