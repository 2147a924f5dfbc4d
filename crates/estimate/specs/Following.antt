-- The states that follow a state, in the order in which they are put in.
use Rattle.std.specs.Prelude.{List, ℕ, ◌^◌, ◌≤◌, ◌<◌}
use Rattle.rules.specs.declared.Target.{Target}
use Rattle.rules.specs.declared.State.{State}
use Rattle.rules.specs.Units.{whole}
use Rattle.rules.specs.Contents.{size, without}
use Rattle.rules.specs.Table.{units_of}
use Rattle.rules.specs.Step.{at_risk}
use Rattle.rules.specs.Shape.{Listed}
pub use Rattle.states.specs.Step.{fuller, missed_from}
use Rattle.tables.specs.Following.{lost_at as lost_any}

-- what a way that loses the block at place e makes of s: one more miss, and q units
abbrev pub losing : Target → State → ℕ → ℕ → State
losing x s q e = missed_from x s (without s.mask e) q

-- what is left where the block at place e gives way: nothing if it is none of E
abbrev pub lost_at : Target → State → ℕ → ℕ → ℕ → List State
lost_at x s E q e = lost_any (losing x s q) E e

-- x has one of 16 places or none, and one of 16 sets
abbrev pub Placed : Target → Type 0
Placed x = Listed 16 x.place × (x.set < 16)

-- a state that can be worked: few enough misses for one more, no more units than WHOLE, no more blocks of the accessed set than N ways, a mask of sixteen places
abbrev pub Workable : ℕ → Target → State → Type 0
Workable N x s = (s.misses ≤ 4095) × (units_of s ≤ whole) × (size (at_risk N x s.filled s.mask) ≤ N) × (s.mask < 2 ^ 16)
