-- The best case: document 02, request 10/13. A second table, in which hits and misses are counted separately and never too many. Its states, what an
-- access, a fold and a join make of them, and the finished table; the rest of the work is that of every kind of table (AnyTable.antt).
use Rattle.std.specs.Prelude.{Bool, true, false, cond, ◌||◌, ◌&&◌, List, [], ◌∷◌, ◌++◌, map, ℕ, suc, ◌+◌, ◌-◌, ◌*◌, ◌/◌, ◌%◌, min, eqb, ltb}
pub use Rattle.rules.specs.declared.BestState.{BestState}
use Rattle.rules.specs.Units.{whole, units}
use Rattle.rules.specs.Contents.{Target, has, with, without, shared, held, size}
use Rattle.rules.specs.Input.{Input}
use Rattle.rules.specs.Ordered.{Order, by_number, then_by}
use Rattle.rules.specs.AnyTable.{Listing, Kind, finished}

-- ---- states

-- exact, with all that is held, m misses, h hits and u units
abbrev pub exact_state : ℕ → ℕ → ℕ → ℕ → BestState
exact_state C m h u = record { exact = true; mask = C; misses = record { 0 = m }; hits = record { 0 = h }; units = units u }

-- open: anything may be held, and the mask is 0
abbrev pub open_state : ℕ → ℕ → ℕ → BestState
open_state m h u = record { exact = false; mask = 0; misses = record { 0 = m }; hits = record { 0 = h }; units = units u }

-- its misses as a number
abbrev pub misses_of : BestState → ℕ
misses_of s = s.misses.0

-- its hits as a number
abbrev pub hits_of : BestState → ℕ
hits_of s = s.hits.0

-- its units as a number
abbrev pub units_of : BestState → ℕ
units_of s = s.units.0

-- the same state with u units
abbrev pub having : BestState → ℕ → BestState
having s u = record { exact = s.exact; mask = s.mask; misses = s.misses; hits = s.hits; units = units u }

-- exact states by mask, misses and hits, and open ones after them by misses and hits: their mask is 0
unfoldable pub order : BestState → BestState → Order
order s t =
    then_by (by_number (cond s.exact 0 1) (cond t.exact 0 1))
    (then_by (by_number s.mask t.mask) (then_by (by_number (misses_of s) (misses_of t)) (by_number (hits_of s) (hits_of t))))

-- ---- one access: N ways in a set, x is what the access is after

-- a hit more, and nothing else changes
abbrev pub hit : BestState → BestState
hit s = exact_state s.mask (misses_of s) (suc (hits_of s)) (units_of s)

-- one more miss: the contents C with the accessed block, and u units
abbrev pub missed : Target → BestState → ℕ → ℕ → BestState
missed x s C u = exact_state (with C x.place) (suc (misses_of s)) (hits_of s) u

-- an exact state does not hold the block. With q units for each way of its set: a way that holds e of C loses e; the other ways lose nothing of C.
-- Where the set holds no block all ways lead to one successor, and the r units that are left over go there too; otherwise they become open
unfoldable pub miss : ℕ → Target → BestState → List BestState
miss N x s =
    let C = s.mask in
    let E = shared C x.mates in
    let q = units_of s / N in
    let r = units_of s % N in
    let one = eqb (size E) 0 in
    map (λ e. missed x s (without C e) q) (held E)
    ++ missed x s C ((N - size E) * q + cond one r 0)
    ∷ open_state (suc (misses_of s)) (hits_of s) (cond one 0 r)
    ∷ []

-- the states that follow s, where the accessed block is tracked: an open state never counts again
unfoldable pub successors : ℕ → Target → BestState → List BestState
successors N x s = cond s.exact (cond (has s.mask false x.place) (hit s ∷ []) (miss N x s)) (s ∷ [])

-- ---- folds and joins

-- how many blocks s shares with t; an open state shares none
abbrev pub sharing : BestState → BestState → ℕ
sharing s t = cond (s.exact && t.exact) (size (shared s.mask t.mask)) 0

-- how far apart two numbers are
abbrev pub apart : ℕ → ℕ → ℕ
apart a b = (a - b) + (b - a)

-- t is a better partner of s than u: it shares more blocks; or as many and is nearer in misses; or is as near in those too and nearer in hits
abbrev pub closer : BestState → BestState → BestState → Bool
closer s t u =
    let blocks = sharing s u in
    let misses = apart (misses_of s) (misses_of t) in
    let misses' = apart (misses_of s) (misses_of u) in
    ltb blocks (sharing s t)
    || eqb blocks (sharing s t) && (ltb misses misses' || eqb misses misses' && ltb (apart (hits_of s) (hits_of t)) (apart (hits_of s) (hits_of u)))

-- a fold makes an open state with the smaller of each count
abbrev pub folds : BestState → BestState → BestState
folds s t = open_state (min (misses_of s) (misses_of t)) (min (hits_of s) (hits_of t)) 0

-- both are exact, with the same contents
abbrev pub same_contents : BestState → BestState → Bool
same_contents s t = s.exact && t.exact && eqb s.mask t.mask

-- in a join equal contents stay exact, others become open, and each takes the smaller counts
abbrev pub joins : BestState → BestState → BestState
joins s t =
    let m = min (misses_of s) (misses_of t) in
    let h = min (hits_of s) (hits_of t) in
    cond (same_contents s t) (exact_state s.mask m h 0) (open_state m h 0)

-- ---- the kind of table that they make

-- how its states are listed; past the end there is an open state of 0 units
abbrev pub listing : Listing BestState
listing = record { units = units_of; having = having; order = order; none = open_state 0 0 0 }

-- it starts from nothing held, no hit and no miss; there is no set-aside count
abbrev pub kind : Kind BestState
kind =
    record {
      listing = listing;
      start = λ i. exact_state 0 0 0 whole;
      successors = successors;
      left_over = λ N x s. 0;
      closer = closer;
      folds = folds;
      changed = λ s m. 0;
      joins = joins;
    }

-- the best case's finished table
unfoldable pub best_table : Input → List BestState
best_table i = (finished kind i).table
