-- The lines of a curve, from the units at each miss count: what the code counts, line by line.
use Rattle.std.specs.Prelude.{List, [], ◌∷◌, ◌++◌, ℕ, suc, ◌+◌, ◌*◌, ◌-◌}
use Rattle.rules.specs.Units.{whole}
use Rattle.rules.specs.Cycles.{core_at}
use Rattle.lines.specs.Lines.{count_line}
use Rattle.lines.specs.Cores.{core_line}

-- a line for each count from m on, `left` being the units with m misses or more; no misses stand for `first`, and each miss for `step` more
unfoldable pub count_lines : ℕ → ℕ → ℕ → ℕ → List ℕ → List ℕ
count_lines first step m left [] = []
count_lines first step m left (u ∷ us) = count_line (first + m * step) u (left - u) ++ count_lines first step (suc m) (left - u) us

-- core k and a line for each count, where no misses stand for L hits
unfoldable pub core_counts : ℕ → List ℕ → ℕ → List ℕ
core_counts L us k = let c = core_at k in core_line k c ++ count_lines (L * c.hit) (c.miss - c.hit) 0 whole us
