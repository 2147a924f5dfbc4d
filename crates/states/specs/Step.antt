-- What an access makes of a state, from any arguments. N ways in a set; x is what the access is after.
use Rattle.std.specs.Prelude.{ℕ, suc, ◌+◌, ◌%◌, ◌^◌, Bool, cond, not, ◌&&◌, ◌==◌, nat_lt}
use Rattle.rules.specs.declared.State.{State}
use Rattle.rules.specs.declared.Target.{Target}
use Rattle.rules.specs.Contents.{with}
use Rattle.rules.specs.Filling.{filled_at, fill_one}
use Rattle.rules.specs.Table.{state, units_of}
use Rattle.tables.specs.Aim.{in_word}
use Rattle.states.specs.Filling.{filled_more}

-- x with one of the 64 places of a mask or none, and one of sixteen sets
abbrev pub in_reach : Target → Target
in_reach x = record { place = in_word x.place; again = x.again; set = x.set % 16; mates = x.mates }

-- s after a miss, as far as the filled numbers go: one more way of the accessed set may be filled
abbrev pub fuller : ℕ → Target → State → State
fuller N x s = state s.mask s.misses (fill_one N x.set s.filled) (units_of s)

-- the same, as words add
abbrev pub fuller_in : ℕ → Target → State → State
fuller_in N x s = state s.mask s.misses (filled_more N x.set s.filled) (units_of s)

-- one more miss, from s with the filled numbers after it: the contents C with the accessed block, and u units
abbrev pub missed_from : Target → State → ℕ → ℕ → State
missed_from x s C u = state (with C x.place) (suc s.misses) s.filled u

-- the same, as words add
abbrev pub missed_in : Target → State → ℕ → ℕ → State
missed_in x s C u = state (with C x.place) ((s.misses + 1) % 2 ^ 64) s.filled u

-- an empty way is filled, if s misses
abbrev pub fills : ℕ → Target → State → Bool
fills N x s = nat_lt (filled_at s.filled x.set) N

-- s goes on with a run: it has the contents C, and fills an empty way or not, as f says
abbrev pub goes_on : ℕ → Target → ℕ → Bool → State → Bool
goes_on N x C f s = s.mask == C && cond (fills N x s) f (not f)
