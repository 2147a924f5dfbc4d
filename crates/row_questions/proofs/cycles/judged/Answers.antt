-- `judged` meets its contract: each early return is the first reason that applies.
use mathlib.Core.Path.{sym, ◌∙◌}
use Prim.Native.Nat.{◌≤◌, ◌<◌}
use native.Mathlib.Omega.{arith}
use Rattle.rules.specs.Cycles.{cores}
use Rattle.row_questions.proofs.InCycles.{no_core, long_path, no_row, row_beyond, cycles_accepted}
use Rattle.row_questions.proofs.cycles.judged.Goals as goal
use Rattle.row_questions.proofs.cycles.judged.Goals.{Else-longest-gt4096}

-- past the first two checks the core is one in service, and the longest path is not too long
known : (c : Else-longest-gt4096) → c.args.core < 12
known c = omega (arith, c.if-core-ge12.false, c.if-longest-gt4096.false)

few : (c : Else-longest-gt4096) → c.args.longest ≤ 4096
few c = omega (arith, c.if-core-ge12.false, c.if-longest-gt4096.false)

pub returns-then-core-ge12 : goal.returns-then-core-ge12
unfolding cores
returns-then-core-ge12 c =
    let none : 12 ≤ c.args.core = omega (arith, c.if-core-ge12.true) in
    sym (no_core _ _ _ none)

pub returns-then-longest-gt4096 : goal.returns-then-longest-gt4096
unfolding cores
returns-then-longest-gt4096 c =
    let a = c.args in
    let one : a.core < 12 = omega (arith, c.if-core-ge12.false) in
    let long : 4096 < a.longest = omega (arith, c.if-longest-gt4096.true) in
    sym (long_path _ _ _ one long)

pub returns-then-not-is_row : goal.returns-then-not-is_row
unfolding cores
returns-then-not-is_row c =
    sym (no_row _ _ _ (known (goal.at.returns-then-not-is_row c).Else-longest-gt4096) (few (goal.at.returns-then-not-is_row c).Else-longest-gt4096) (sym c.is_row.ensures ∙ c.if-not-is_row.true))

pub returns-then-longest-largest : goal.returns-then-longest-largest
unfolding cores
returns-then-longest-largest c =
    sym (row_beyond _ _ _ (known (goal.at.returns-then-longest-largest c).Else-longest-gt4096) (few (goal.at.returns-then-longest-largest c).Else-longest-gt4096) (omega (arith, c.largest.ensures)))

pub returns : goal.returns
unfolding cores
returns c =
    sym (cycles_accepted _ _ _ (known (goal.at.returns c).Else-longest-gt4096) (few (goal.at.returns c).Else-longest-gt4096) (sym c.is_row.ensures ∙ c.if-not-is_row.false) (omega (arith, c.largest.ensures)))
