-- `nearest_of_all` searches place by place.
use mathlib.Core.Path.{refl, sym, ap, ap₂, ◌∙◌}
use mathlib.Core.Bool.{true, false}
use native.Mathlib.Numerals.{add-one}
use Rattle.rules.specs.Table.{state_at}
use Rattle.rules.specs.Fold.{sharing, apart}
use Rattle.words.specs.Tables.{table_of}
use Rattle.searches.specs.Searches.{is_closer, unbeaten, nearest_of_all}
use Rattle.searches.proofs.Seeking.{until_enough, until_on, until_all}
use Rattle.searches.proofs.partner.nearest_of_all.Goals as goal
use Rattle.searches.proofs.partner.nearest_of_all.Goals.{then-is_closer, else-is_closer}

pub loop-j-init : goal.loop-j-init
unfolding nearest_of_all
loop-j-init c =
    let a = c.args in
    let e = c.first_other-partner.ensures in (
      rw (add-one c.first_other-partner.result, e.0) refl,
      c.sharing-most.ensures ∙ ap (sharing a.s) c.load-first.ensures,
      c.apart-near.ensures ∙ ap (apart a.s) c.load-first.ensures,
    )

pub returns-then-is_unbeaten : goal.returns-then-is_unbeaten
returns-then-is_unbeaten c =
    let i = c.loop-j.invariant in
    sym (until_enough _ c.loop-j.j c.loop-j-test.true _ _ _ (sym (c.is_unbeaten.ensures ∙ ap₂ (unbeaten _) i.1 i.2) ∙ c.if-is_unbeaten.true)) ∙ i.0

pub loop-j-preserved : goal.loop-j-preserved
loop-j-preserved c =
    let a = c.args in
    let t = table_of a.words.now in
    let i = c.loop-j.invariant in
    let on =
    until_on a.n c.loop-j.j c.loop-j-test.true (is_closer a.n t a.s a.at)
    (λ k. unbeaten a.bound (sharing a.s (state_at t k)) (apart a.s (state_at t k))) c.loop-j.partner
    (sym (c.is_unbeaten.ensures ∙ ap₂ (unbeaten a.bound) i.1 i.2) ∙ c.if-is_unbeaten.false) in
    let said = c.is_closer.ensures in
    elim c.if-is_closer.branch [
      | then-is_closer w ↦ (
        rw w.partner-is (sym (on true (rw (← i.1, ← i.2) (sym said ∙ w.if-is_closer.true))) ∙ i.0),
        rw (w.partner-is, w.most-is) (w.sharing-most-then-is_closer.ensures ∙ ap (sharing a.s) w.load-t.ensures),
        rw (w.partner-is, w.near-is) (w.apart-near-then-is_closer.ensures ∙ ap (apart a.s) w.load-t.ensures),
      )
      | else-is_closer w ↦ (
        rw w.partner-is (sym (on false (rw (← i.1, ← i.2) (sym said ∙ w.if-is_closer.false))) ∙ i.0),
        rw (w.partner-is, w.most-is) i.1,
        rw (w.partner-is, w.near-is) i.2,
      )
    ]

pub returns : goal.returns
returns c = sym (until_all _ c.loop-j.j c.loop-j-test.false _ _ _) ∙ c.loop-j.invariant.0
