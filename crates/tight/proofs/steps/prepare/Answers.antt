-- `prepare` chooses cells, adds up the stage's units, clears the row for what is left over, and splits rows.
use Rattle.tight.proofs.Passing.{may_count, columns_fit}
use Rattle.tight.proofs.steps.prepare.Goals as goal

pub stage_units-requires : goal.stage_units-requires
stage_units-requires c =
    let a = c.args in (
      c.requires.placed,
      may_count a.ways a.x a.s a.fronts a.backs a.stage a.cells a.work.now c.requires _ c.select_rows.ensures,
      columns_fit a.ways a.x a.s a.fronts a.backs a.stage a.cells a.work.now c.requires _ c.select_rows.ensures,
    )
