-- `lose_one` adds the state without the block, or nothing where the block is none of those that can be evicted.
use mathlib.Core.Path.{sym, ap, ◌∙◌}
use Prim.Native.Nat.{ℕ}
use native.Mathlib.Omega.{arith}
use Rattle.words.specs.BestTables.{table_of}
use Rattle.words.proofs.BestTables.{fits_table}
use Rattle.tables.proofs.Masks.{has_there, without_there}
use Rattle.rules.specs.Best.{missed, listing}
use Rattle.tables.proofs.Following.{lost_here, lost_none}
use Rattle.best.proofs.access.lose_one.Goals as goal

pub returns-then-has_place : goal.returns-then-has_place
returns-then-has_place c = let low = c.requires.2 in
    let a = c.args in
    lost_here listing _ _ _ (sym (has_there _ _ low _ c.has_place.ensures) ∙ c.if-has_place.true) _ _ _ _ _
    (c.missed.ensures ∙ ap (λ (C : ℕ). missed a.x a.s C a.part.0) (without_there _ _ low _ c.without_place.ensures)) c.add.ensures

pub returns : goal.returns
returns c = let a = c.args in
    lost_none listing _ _ _ (sym (has_there _ _ c.requires.2 _ c.has_place.ensures) ∙ c.if-has_place.false) a.n (table_of a.words.now) (fits_table a.words.now a.n (omega arith))
