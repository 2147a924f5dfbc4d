-- `sum_one` adds the units at one mask, or none where the block is none of those that can be lost.
use mathlib.Core.Path.{sym, ap, ◌∙◌}
use Prim.Native.Nat.{ℕ}
use Rattle.rules.specs.Contents.{shared, with}
use Rattle.tables.proofs.Masks.{has_there, without_there}
use Rattle.tight_rows.proofs.Raising.{live_part}
use Rattle.tight_rows.proofs.Totals.{more_plain}
use Rattle.tight.proofs.Summing.{one_lost}
use Rattle.tight.proofs.sums.sum_one.Goals as goal

pub returns-then-has_place : goal.returns-then-has_place
returns-then-has_place c =
    let a = c.args in
    let put = more_plain _ _ _ _ c.add_units.ensures (c.requires.3 _ (live_part _ _ _ c.comes_to-end.ensures)) in
    rw put
    (one_lost a.plan a.mask a.risk a.x a.live a.units a.at _ a.work.now (sym (has_there _ _ c.requires.1 _ c.has_place.ensures) ∙ c.if-has_place.true)
    (c.comes_to-end.ensures ∙ ap (λ (C : ℕ). shared (with C a.x.place) a.live) (without_there _ _ c.requires.1 _ c.without_place.ensures)) c.requires.2)
