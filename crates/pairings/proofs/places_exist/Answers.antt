-- `places_exist` tests one row after the other.
use Rattle.std.proofs.Common.{rules, tests, ◌∙◌}
use Rattle.std.proofs.lemmas.Iterator.Search.{all_from_yields_List}
use Rattle.rules.specs.AnyTable.{is_pair}
use Rattle.rules.specs.Entries.{rows_of}
use Rattle.pairings.proofs.Rows.{rows_in_chunks, all_pairs}
use Rattle.pairings.proofs.places_exist.Goals as goal

pub returns : goal.returns
returns c =
    let a = c.args in
    all_from_yields_List (is_pair a.m a.k) _ _ _ c.all.ensures.ran (rows_in_chunks _ a.rows.now (cc) (cc)) (λ x b q k. search (rules, tests))
    ∙ all_pairs a.m a.k (rows_of a.rows.now)
