-- Row ends: what is light at the highest miss counts is lost, what is light at the lowest rises, and a row has at most W - 1 cells, so that the next access fits.
use Rattle.std.specs.Prelude.{cond, List, [], ◌∷◌, ℕ, suc, ◌+◌, ◌-◌, max, min, ltb}
use Rattle.basics.specs.Sums.{sum_over}
use Rattle.rules.specs.Units.{more}
use Rattle.rules.specs.declared.State.{State}
use Rattle.rules.specs.Table.{state, units_of, Work}
use Rattle.rules.specs.Questions.{above, least, smallest_budget}
use Rattle.tight_rules.specs.Rows.{Rows, moved}

-- so many units may leave each end at one access
abbrev pub allowance : ℕ
allowance = 4096

-- the states with at most H misses
abbrev pub up_to : ℕ → List State → List State
up_to H [] = []
up_to H (s ∷ T) = cond (ltb H s.misses) (up_to H T) (s ∷ up_to H T)

-- the units above H misses are lost, and set aside
unfoldable pub cut : ℕ → Rows → Rows
cut H r =
    let T = r.kept.table in
    record { kept = record { table = up_to H T; aside = more r.kept.aside (above H T) }; lost = r.lost + above H T }

-- s with at least B misses
abbrev pub raise : ℕ → State → State
raise B s = state s.mask (max s.misses B) s.filled (units_of s)

-- the units below B misses rise to B, and are set aside
unfoldable pub raised : ℕ → Work → Work
raised B w = moved (raise B) w

-- the units with fewer than B misses
unfoldable pub below : ℕ → List State → ℕ
below B T = sum_over (λ s. cond (ltb s.misses B) (units_of s) 0) T

-- the highest miss count that stays: the lowest with no more above it than may leave. (A table has more units than that, so that the lowest count in use stays.)
unfoldable pub highest : List State → ℕ
highest T = smallest_budget allowance T

-- the lowest miss count that stays, H being the highest: the lowest at which more would rise than may; or, where there would be more cells than W - 1, as many below H
-- as there are cells
unfoldable pub lowest : ℕ → ℕ → List State → ℕ
lowest W H T = min H (max (least (λ B. ltb allowance (below (suc B) T)) H) (H + 2 - W))

-- first the highest, then the lowest
unfoldable pub ends : ℕ → Rows → Rows
ends W r =
    let H = highest r.kept.table in
    let c = cut H r in
    record { kept = raised (lowest W H c.kept.table) c.kept; lost = c.lost }
