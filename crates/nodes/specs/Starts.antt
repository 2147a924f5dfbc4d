-- Before the first node, and the predecessors of a node one after the other.
use Rattle.std.specs.Prelude.{ℕ, ◌+◌, min}

-- what is set aside before the first node: nothing
abbrev pub aside_at_start : ℕ
aside_at_start = 0

-- where the edges after the one at place e begin, in a list of n numbers: an edge is two of them
abbrev pub after_edge : ℕ → ℕ → ℕ
after_edge e n = min (e + 2) n
