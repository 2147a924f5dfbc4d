-- `look_up` finds the first place at which the list has the block.
use Rattle.std.proofs.Common.{◌≡◌, eqb, sym, ap, ◌∙◌, rules, tests}
use Rattle.std.specs.Prelude.{position}
use Rattle.std.proofs.lemmas.Iterator.{YieldsList-from_slice}
use Rattle.std.proofs.lemmas.Iterator.Search.{position_from_yields_List}
use Rattle.tables.proofs.Masks.{as_place, find_first}
use Rattle.tables.proofs.look_up.Goals as goal

pub returns-in-Some : goal.returns-in-Some
returns-in-Some c =
    let a = c.args in
    let first : c.position.result ≡ position (λ t. eqb t a.block) a.tracked.now =
    position_from_yields_List (λ t. eqb t a.block) _ _ c.position.result c.position.ensures.ran (YieldsList-from_slice a.tracked.now cc) (λ x b q k. search (rules, tests)) in
    ap as_place (sym c.in-Some.is ∙ first) ∙ find_first a.block a.tracked.now

pub returns-in-None : goal.returns-in-None
returns-in-None c =
    let a = c.args in
    let first : c.position.result ≡ position (λ t. eqb t a.block) a.tracked.now =
    position_from_yields_List (λ t. eqb t a.block) _ _ c.position.result c.position.ensures.ran (YieldsList-from_slice a.tracked.now cc) (λ x b q k. search (rules, tests)) in
    ap as_place (sym c.in-None.is ∙ first) ∙ find_first a.block a.tracked.now
