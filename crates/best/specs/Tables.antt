-- The best case's tables: what AnyTable says of every kind, at theirs. There is no set-aside count, so it is 0 throughout.
use Rattle.std.specs.Prelude.{Bool, List, ℕ}
use Rattle.rules.specs.declared.BestState.{BestState}
use Rattle.rules.specs.declared.Pair.{Pair}
use Rattle.rules.specs.declared.Target.{Target}
use Rattle.rules.specs.Contents.{Last}
use Rattle.rules.specs.Input.{Input}
use Rattle.rules.specs.Units.{whole}
use Rattle.rules.specs.Ordered.{rises}
use Rattle.rules.specs.AnyTable.{Work as AnyWork, Worked as AnyWorked, plus as plus_of, present as present_of, add as add_of, at as at_of, access as access_of, fewer as fewer_of, choice as choice_of, fold as fold_of, folded as folded_of, advance as advance_of, run as run_of, join as join_of, table_at as table_at_of, join_all as join_all_of, enter as enter_of, worked as worked_of, finished as finished_of}
unfoldable pub use Rattle.rules.specs.Best.{order, miss, successors, best_table}
pub use Rattle.rules.specs.Best.{units_of, misses_of, hits_of, closer}
use Rattle.rules.specs.Best.{exact_state, open_state, having, folds, joins, listing, kind}

-- no state, with 0 units
abbrev pub no_state : BestState
no_state = open_state 0 0 0

-- the start: nothing held, no hit and no miss
abbrev pub begins : BestState
begins = exact_state 0 0 0 whole

-- a table lists its states strictly rising
abbrev pub rising : List BestState → Bool
rising T = rises order T

-- only wholly equal states are added
abbrev pub plus : BestState → BestState → BestState
plus t s = plus_of listing t s

-- states of 0 units vanish
abbrev pub present : List BestState → List BestState
present S = present_of listing S

-- the states S, added to the table T
abbrev pub add : List BestState → List BestState → List BestState
add S T = add_of listing S T

-- the state at a place; past the end there is none
abbrev pub state_at : List BestState → ℕ → BestState
state_at T i = at_of listing T i

-- a table, and the set-aside count
abbrev pub Work : Type 0
Work = AnyWork BestState

-- the table T, with nothing set aside
abbrev pub work_of : List BestState → Work
work_of T = record { table = T; aside = 0 }

-- ---- an access

-- the table after it, before any fold
abbrev pub access : ℕ → Target → List BestState → List BestState
access N x T = access_of listing (successors N x) T

-- ---- folds

-- s has fewer units than t
abbrev pub fewer : BestState → BestState → Bool
fewer s t = fewer_of kind s t

-- the state of fewest units and its partner among the others
abbrev pub choice : List BestState → Pair
choice T = choice_of kind T

-- u units of what s and t become in a fold
abbrev pub meet : BestState → BestState → ℕ → BestState
meet s t u = having (folds s t) u

-- one fold
abbrev pub fold : Work → Work
fold w = fold_of kind w

-- folded until at most K states are left
abbrev pub folded : ℕ → Work → Work
folded K w = folded_of kind K w

-- ---- runs

-- an access of x, and the folds after it
abbrev pub advance : ℕ → ℕ → Target → Work → Work
advance N K x w = advance_of kind N K x w

-- the accesses one after the other
abbrev pub run : ℕ → ℕ → ℕ → List ℕ → Last → List ℕ → Work → Work
run N Z K ts l bs w = run_of kind N Z K ts l bs w

-- ---- joins

-- u units of what a unit of s and a unit of t become in a join
abbrev pub pair_of : BestState → BestState → ℕ → BestState
pair_of s t u = having (joins s t) u

-- both tables from the front
abbrev pub join : List BestState → List BestState → List BestState
join S T = join_of kind S T

-- ---- nodes

-- the tables of the nodes that are worked
abbrev pub Worked : Type 0
Worked = AnyWorked BestState

-- node j's
abbrev pub table_at : Worked → ℕ → List BestState
table_at d j = table_at_of d j

-- the tables of the nodes ps joined to that of w
abbrev pub join_all : ℕ → Worked → List ℕ → Work → Work
join_all K d ps w = join_all_of kind K d ps w

-- what a node starts from, whose predecessors are ps
abbrev pub enter : ℕ → BestState → Worked → List ℕ → Work
enter K s d ps = enter_of kind K s d ps

-- so many nodes from the first on, worked in order
abbrev pub worked : Input → ℕ → Worked
worked i n = worked_of kind i n

-- the finished table
abbrev pub finished : Input → Work
finished i = finished_of kind i
