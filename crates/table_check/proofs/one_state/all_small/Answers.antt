-- `all_small` meets its contract: the bytes of the word are its numbers.
use Rattle.std.proofs.Common.{rules, tests, sym, ◌∙◌, leb, ap}
use Rattle.std.specs.Int.{w64, to_be_bytes}
use Rattle.std.proofs.lemmas.Iterator.{YieldsList-from_slice}
use Rattle.std.proofs.lemmas.Iterator.Search.{all_from_yields_List}
use Rattle.rules.specs.Questions.{all_most}
use Rattle.table_check.proofs.Fitting.{word_bytes, all_bytes}
use Rattle.table_check.proofs.one_state.all_small.Goals as goal

pub returns : goal.returns
returns c =
    let w = c.args.word in
    all_from_yields_List (λ n. leb n 16) _ _ _ c.all.ensures.ran (YieldsList-from_slice (to_be_bytes w64 w) (cc)) (λ x b q k. search (rules, tests))
    ∙ sym (ap (all_most 16) (word_bytes w) ∙ all_bytes (to_be_bytes w64 w))
