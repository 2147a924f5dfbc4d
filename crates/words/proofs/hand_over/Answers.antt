-- `hand_over` meets its contract: where the words fit, what is carried over zeros is what the definition hands over.
use mathlib.Core.Path.{sym, ◌∙◌}
use Rattle.words.proofs.Handing.{hands_over}
use Rattle.words.proofs.hand_over.Goals as goal

pub returns-clause-res_after : goal.returns-clause-res_after
returns-clause-res_after c =
    let a = c.args in
    hands_over a.res.now a.work.now a.from a.n (sym c.goes_over.ensures ∙ c.if-not-goes_over.false) c.fill.new.self c.carry.new.res (c.fill.ensures.after (λ y p. p)) c.carry.ensures
