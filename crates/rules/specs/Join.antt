-- Joining two tables: document 01, section 3. The walk from the front is said for every kind of table (AnyTable.antt); a pair gives what a fold does
-- (Fold.antt).
use Rattle.std.specs.Prelude.{List, ℕ}
pub use Rattle.rules.specs.AnyTable.{Match}
use Rattle.rules.specs.AnyTable.{matched as matched_of, paired as paired_of, less as less_of, left_after as left_after_of, place_after as place_after_of, walk as walk_of, from_front as from_front_of, join as join_of}
use Rattle.rules.specs.Table.{State, listing}
use Rattle.rules.specs.Fold.{states}

-- a pair gives the shared blocks, the larger misses and the larger filled numbers
abbrev pub matched : List State → List State → Match → State
matched S T p = matched_of states S T p

-- what a pairing makes of two tables
abbrev pub paired : List Match → List State → List State → List State
paired P S T = paired_of states P S T

-- ---- both tables from the front

-- s with u units less
abbrev pub less : State → ℕ → State
less s u = less_of listing s u

-- what is left of a table whose first state is s when u of its units are used
abbrev pub left_after : ℕ → State → List State → List State
left_after u s S = left_after_of listing u s S

-- the place of what is then first: s, which stands at place i, or the next one where all its units are used
abbrev pub place_after : ℕ → State → ℕ → ℕ
place_after u s i = place_after_of listing u s i

-- pair as many units as the smaller remaining amount allows; S and T are left, from places i and j on; n steps
abbrev pub walk : ℕ → ℕ → ℕ → List State → List State → List Match
walk n i j S T = walk_of listing n i j S T

-- as many steps as there are states are enough
abbrev pub from_front : List State → List State → List Match
from_front S T = from_front_of listing S T

-- document 01's join: both tables from the front
abbrev pub join : List State → List State → List State
join S T = join_of states S T
