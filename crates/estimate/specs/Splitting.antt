-- The states of a run that can lose a block are split once: one way's part of each is kept for the streams, and what is left over goes to the accessed block only. N ways in a
-- set; x is what the access is after.
use Rattle.std.specs.Prelude.{◌≡◌, ◌⊎◌, List, ℕ, ◌+◌, ◌/◌, ◌%◌, ◌<◌, get_or}
use Rattle.rules.specs.declared.State.{State}
use Rattle.rules.specs.declared.Target.{Target}
use Rattle.rules.specs.Table.{units_of, state_at}
use Rattle.heads.specs.Head.{length_in, start_in}
use Rattle.estimate.specs.Sharing.{share_of, CanLose}

-- what is left over of s, where it can lose a block: it keeps nothing but the accessed block, o
abbrev pub rest_in : ℕ → ℕ → State → State
rest_in N o s = share_of o s (units_of s % N)

-- each state of the run of head h in the table T that can lose a block has its part of one way in Q
abbrev pub SplitIn : ℕ → Target → List State → List ℕ → ℕ → Type 0
SplitIn N x T Q h = (i : ℕ) → i < length_in h → CanLose N x (state_at T (start_in h + i)) → get_or Q (start_in h + i) 0 ≡ units_of (state_at T (start_in h + i)) / N

-- each of the parts Q' is as it was in Q, or one way's part of the state at its place, counted from place `from` of W
abbrev pub Parted : ℕ → ℕ → List State → List ℕ → List ℕ → Type 0
Parted N from W Q Q' = (j : ℕ) → (get_or Q' j 0 ≡ get_or Q j 0) ⊎ (get_or Q' j 0 ≡ units_of (state_at W (from + j)) / N)
