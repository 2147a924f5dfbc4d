-- The two numbers of an edge.
use Rattle.std.specs.Prelude.{ℕ, zero, suc}
use Rattle.rules.specs.Input.{Edge}

-- side 0 is the node that the edge comes from, side 1 the node that it leads to
abbrev pub side_of : ℕ → Edge → ℕ
side_of zero e = e.from
side_of (suc k) e = e.to
