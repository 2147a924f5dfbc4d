-- The states that follow a state, in the order in which they are put in.
use Rattle.std.specs.Prelude.{List, ℕ, ◌≤◌}
use Rattle.rules.specs.declared.BestState.{BestState}
use Rattle.rules.specs.declared.Target.{Target}
use Rattle.rules.specs.Units.{whole}
use Rattle.rules.specs.Contents.{size, shared, without}
use Rattle.rules.specs.Best.{misses_of, hits_of, units_of, missed}
use Rattle.tables.specs.Following.{lost_at as lost_any}

-- what a way that loses the block at place e makes of s: one more miss, and q units
abbrev pub losing : Target → BestState → ℕ → ℕ → BestState
losing x s q e = missed x s (without s.mask e) q

-- what is left where the block at place e gives way: nothing if it is none of E
abbrev pub lost_at : Target → BestState → ℕ → ℕ → ℕ → List BestState
lost_at x s E q e = lost_any (losing x s q) E e

-- a state that can be worked: few enough misses and hits for one more, no more units than WHOLE, no more blocks of the accessed set than N ways
abbrev pub Workable : ℕ → Target → BestState → Type 0
Workable N x s = (misses_of s ≤ 4095) × (hits_of s ≤ 4095) × (units_of s ≤ whole) × (size (shared s.mask x.mates) ≤ N)
