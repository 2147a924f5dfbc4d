-- `add_units` writes the last word of the state.
use mathlib.Core.Path.{◌≡◌, ap, ◌∙◌, sym}
use Prim.Native.Nat.{ℕ, ◌+◌, ◌*◌}
use native.Mathlib.Omega.{arith}
use lib.ListN.{get_or, set, drop}
use Rattle.rules.specs.Table.{listing, units_of, state_at}
use Rattle.rules.specs.Units.{more}
use Rattle.rules.proofs.Splitting.{units_added}
use Rattle.words.specs.Tables.{table_of}
use Rattle.estimate.proofs.Laying.{scratch_row, scratch_units}
use Rattle.estimate.proofs.shares.add_units.Goals as goal

pub returns : goal.returns
returns c = let a = c.args in let ws = a.work.now in
    let there : 20480 + a.at * 5 + 4 ≡ 20484 + a.at * 5 = omega arith in
    let read : units_of (state_at (drop 4096 (table_of ws)) a.at) ≡ get_or ws (20484 + a.at * 5) 0 = ap units_of (scratch_row ws a.at c.requires) ∙ ap (λ (w : ℕ). get_or ws w 0) there in
    scratch_units ws a.at _ c.requires
    ∙ ap (λ (v : ℕ). set (table_of ws) (4096 + a.at) (listing.having (state_at (drop 4096 (table_of ws)) a.at) v)) (units_added _ _ _ c.add.ensures ∙ ap (λ (u : ℕ). more u a.units.0) (sym read))
