-- `words_needed` meets its contract: it adds up the parts, none of which is large.
use Rattle.std.proofs.Common.{◌+◌, ◌*◌, ◌≤◌, length, arith}
use Rattle.rules.specs.declared.Start.TheVariants.{Cold}
use Rattle.rules.specs.Input.{cache, edges_of}
use Rattle.tight_rules.specs.Asked.{asked_in}
use Rattle.tight_slots.proofs.Kept.{most_few}
use Rattle.tight_refusals.proofs.Sizes.{tables_most, beside_most, words_are}
use Rattle.tight_refusals.proofs.rooms.words_needed.Goals as goal
use Rattle.tight_refusals.proofs.rooms.words_needed.Goals.{After-most_kept-tables, After-table_words}

-- no more tables are kept than there are nodes
few-tables : (c : After-most_kept-tables) → c.most_kept-tables.result ≤ 64
few-tables c =
    omega (arith, c.most_kept-tables.ensures, most_few (edges_of c.args.edges.now) (length c.args.runs.now), c.requires.3)

all-tables : (c : After-table_words) → c.most_kept-tables.result ≤ 64 → (c.most_kept-tables.result + 3) * c.table_words.result ≤ 67 * 16801800
all-tables c few =
    tables_most c.most_kept-tables.result c.args.contents c.row_cells-row.result _ few c.requires.0 (omega (arith, c.row_cells-row.ensures, c.requires.1)) c.table_words.ensures

pub overflow_add-tables : goal.overflow_add-tables
overflow_add-tables c = omega (arith, few-tables (goal.at.overflow_add-tables c).After-most_kept-tables)

pub overflow_mul-result : goal.overflow_mul-result
overflow_mul-result c = omega (arith, all-tables (goal.at.overflow_mul-result c).After-table_words (few-tables (goal.at.overflow_mul-result c).After-most_kept-tables))

pub overflow_add-result : goal.overflow_add-result
overflow_add-result c =
    omega (
      arith,
      all-tables (goal.at.overflow_add-result c).After-table_words (few-tables (goal.at.overflow_add-result c).After-most_kept-tables),
      beside_most c.args.contents c.row_cells-row.result (length c.args.tracked.now) _ c.requires.0 (omega (arith, c.row_cells-row.ensures, c.requires.1)) c.requires.2 c.words_beside.ensures,
    )

pub returns : goal.returns
returns c =
    let a = c.args in
    words_are (asked_in (cache 0 0 0 Cold) a.contents a.cells a.tracked.now a.runs.now a.accesses.now a.edges.now 0 0)
    c.most_kept-tables.result c.row_cells-row.result _ _
    c.most_kept-tables.ensures c.row_cells-row.ensures c.table_words.ensures c.words_beside.ensures
