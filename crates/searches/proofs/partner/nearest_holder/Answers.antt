-- `nearest_holder` goes through the places behind the first.
use mathlib.Core.Path.{refl, sym, ap, ◌∙◌}
use mathlib.Core.Bool.{true, false}
use native.Mathlib.Numerals.{add-one}
use Rattle.rules.specs.Table.{state_at}
use Rattle.rules.specs.Fold.{apart}
use Rattle.folding.specs.Ends.{none_nearer}
use Rattle.words.specs.Tables.{table_of}
use Rattle.searches.specs.Searches.{is_nearer, nearest_holder}
use Rattle.searches.proofs.Seeking.{until_enough, until_on, until_all}
use Rattle.searches.proofs.partner.nearest_holder.Goals as goal
use Rattle.searches.proofs.partner.nearest_holder.Goals.{then-is_nearer, else-is_nearer}

pub loop-j-init : goal.loop-j-init
unfolding nearest_holder
loop-j-init c =
    let a = c.args in
    (rw (add-one a.first) refl, c.apart-near.ensures ∙ ap (apart a.s) c.load.ensures)

pub returns-then-none_nearer : goal.returns-then-none_nearer
returns-then-none_nearer c =
    let i = c.loop-j.invariant in
    sym (until_enough _ c.loop-j.j c.loop-j-test.true _ _ _ (ap none_nearer (sym i.1) ∙ sym c.none_nearer.ensures ∙ c.if-none_nearer.true)) ∙ i.0

pub loop-j-preserved : goal.loop-j-preserved
loop-j-preserved c =
    let a = c.args in
    let t = table_of a.words.now in
    let i = c.loop-j.invariant in
    let on = until_on a.n c.loop-j.j c.loop-j-test.true (is_nearer a.n t a.s a.at) (λ k. none_nearer (apart a.s (state_at t k))) c.loop-j.found (ap none_nearer (sym i.1) ∙ sym c.none_nearer.ensures ∙ c.if-none_nearer.false) in
    let said = c.is_nearer.ensures in
    elim c.if-is_nearer.branch [
      | then-is_nearer w ↦ (rw w.found-is (sym (on true (rw (← i.1) (sym said ∙ w.if-is_nearer.true))) ∙ i.0), rw (w.found-is, w.near-is) (w.apart-near-then-is_nearer.ensures ∙ ap (apart a.s) w.load-then-is_nearer.ensures))
      | else-is_nearer w ↦ (rw w.found-is (sym (on false (rw (← i.1) (sym said ∙ w.if-is_nearer.false))) ∙ i.0), rw (w.found-is, w.near-is) i.1)
    ]

pub returns : goal.returns
returns c = sym (until_all _ c.loop-j.j c.loop-j-test.false _ _ _) ∙ c.loop-j.invariant.0
