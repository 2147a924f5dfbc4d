-- `settle` folds what the scratch holds, and copies what the folds leave to its place.
use mathlib.Core.Logic.{inl}
use Prim.Native.Nat.{◌≤◌}
use native.Mathlib.Omega.{arith}
use Rattle.rules.proofs.Fold.{length_folded}
use Rattle.words.specs.Tables.{table_of}
use Rattle.words.proofs.Tables.{fits_table}
use Rattle.tables.proofs.Settling.{settled}
use Rattle.estimate.proofs.run.settle.Goals as goal

pub copy-requires : goal.copy-requires
copy-requires c = let f = c.fold_scratch-folded in
    let few : f.result.states ≤ c.args.limit = rw f.ensures.stands.count (length_folded c.args.limit _ c.requires.3) in
    (omega (arith, few, f.auto.work, c.requires.0, c.requires.4), omega (arith, few, f.auto.work, c.requires.0, c.requires.1, c.requires.4), inl (omega (arith, few, c.requires.1, c.requires.4)))

pub returns : goal.returns
returns c = let f = c.fold_scratch-folded in
    let few : f.result.states ≤ c.args.limit = rw f.ensures.stands.count (length_folded c.args.limit _ c.requires.3) in
    settled _ c.args.at _ _ (table_of c.args.work.now) _ _ c.requires.1 (omega (arith, few, c.requires.4)) (fits_table _ 5184 (omega (arith, f.auto.work, c.requires.0)))
    f.ensures.stands f.ensures.before c.copy.ensures
