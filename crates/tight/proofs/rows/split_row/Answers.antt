-- `split_row` splits word by word.
use native.Mathlib.Omega.{arith}
use borrow.Author.Rules.{rules}
use Rattle.tight_rows.proofs.Adding.{left_fits, two_places, split_more}
use Rattle.tight.proofs.rows.split_row.Goals as goal

pub split_cell-requires : goal.split_cell-requires
split_cell-requires c =
    let a = c.args in
    let p = c.requires in
    let ys = c.loop-j.work in (
      p.ways,
      search rules,
      search rules,
      search rules,
      two_places a.ways a.row a.select a.rest a.width a.work.now ys ys p c.loop-j.j (omega arith) c.loop-j.invariant,
      left_fits a.ways a.row a.select a.rest a.width a.work.now ys ys p c.loop-j.j (omega arith) c.loop-j.invariant,
    )

pub loop-j-preserved : goal.loop-j-preserved
loop-j-preserved c =
    let a = c.args in
    split_more a.ways a.row a.select a.rest a.width a.work.now c.loop-j.work _ c.requires c.loop-j.j (omega arith) c.loop-j.invariant c.split_cell.ensures
