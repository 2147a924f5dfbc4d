-- `pair_contents` does nothing where something is not in its place, and else what `pair_all` does.
use mathlib.Core.Path.{refl, sym, ◌∙◌}
use mathlib.Core.Bool.{true≢false}
use Rattle.tight_rows.proofs.Tests.{where_does, where_not}
use Rattle.tight_pairs.proofs.Places.{placed_told, placed_tells}
use Rattle.tight_pairs.proofs.pair_contents.Goals as goal

pub pair_all-requires : goal.pair_all-requires
pair_all-requires c = let a = c.args in placed_told a.p a.work.now (sym c.is_placed.ensures ∙ c.if-is_placed.true)

pub returns-then-is_placed : goal.returns-then-is_placed
returns-then-is_placed c =
    let a = c.args in
    where_does _ _ _ (placed_told a.p a.work.now (sym c.is_placed.ensures ∙ c.if-is_placed.true)) c.pair_all.ensures

pub returns : goal.returns
returns c =
    let a = c.args in
    where_not _ _ _ (λ h. true≢false (sym (placed_tells a.p a.work.now h) ∙ sym c.is_placed.ensures ∙ c.if-is_placed.false)) (refl, refl)
