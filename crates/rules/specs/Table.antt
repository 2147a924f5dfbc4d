-- States and tables: document 01, section 3; document 02, request 6/13.
use Rattle.std.specs.Prelude.{Bool, List, [], ◌∷◌, ℕ}
pub use Rattle.rules.specs.declared.State.{State}
use Rattle.rules.specs.Units.{whole, units}
use Rattle.rules.specs.Ordered.{Order, by_two, then_by, rises}
use Rattle.rules.specs.Filling.{Filled}
use Rattle.rules.specs.AnyTable.{Listing, Work as AnyWork, plus as plus_of, present as present_of, add as add_of, total as total_of, at as at_of}

-- a contents mask, a miss count, how many ways of each set may be filled, and a number of units
abbrev pub state : ℕ → ℕ → Filled → ℕ → State
state C m F u = record { mask = C; misses = m; filled = F; units = units u }

-- its units as a number
abbrev pub units_of : State → ℕ
units_of s = s.units.0

-- the start is one state: nothing held, 0 misses, WHOLE units; F may be filled
abbrev pub initial : Filled → State
initial F = state 0 0 F whole

-- the table of it
abbrev pub begin : Filled → List State
begin F = initial F ∷ []

-- by mask as a number, then by misses, then by the filled numbers, set 0 first (`words_order` in proofs/Filling.antt)
unfoldable pub order : State → State → Order
order s t = then_by (by_two (λ s. s.mask) (λ s. s.misses) s t) (by_two (λ s. s.filled.front) (λ s. s.filled.back) s t)

-- a table lists its states strictly rising
abbrev pub rising : List State → Bool
rising T = rises order T

-- no state, with 0 units
abbrev pub no_state : State
no_state = state 0 0 (record { front = 0; back = 0 }) 0

-- how states are listed: their units, a state with u units in place of its own, their order, and what stands past the end
abbrev pub listing : Listing State
listing = record { units = units_of; having = λ s u. state s.mask s.misses s.filled u; order = order; none = no_state }

-- states with equal mask, misses and filled numbers are added together; the sum stops at WHOLE, and in a table there are no more units
-- than that
abbrev pub plus : State → State → State
plus t s = plus_of listing t s

-- states of 0 units vanish
abbrev pub present : List State → List State
present S = present_of listing S

-- the states S, added to the table T
abbrev pub add : List State → List State → List State
add S T = add_of listing S T

-- the units of all states
abbrev pub total : List State → ℕ
total T = total_of listing T

-- the state at a place; past the end there is none
abbrev pub state_at : List State → ℕ → State
state_at T i = at_of listing T i

-- a table, and the units set aside on the way to it
abbrev pub Work : Type 0
Work = AnyWork State
