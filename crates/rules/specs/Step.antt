-- One access: document 01, section 3; document 02, requests 1/13, 3/13, 4/13 and 6/13. N ways in a set; x is what the access is after.
use Rattle.std.specs.Prelude.{cond, ◌||◌, List, [], ◌∷◌, ◌++◌, map, ℕ, suc, ◌-◌, ◌*◌, ◌/◌, ◌%◌, eqb, ltb}
use Rattle.basics.specs.Sums.{sum_over}
use Rattle.rules.specs.Contents.{Target, hits, with, without, shared, held, size}
use Rattle.rules.specs.Filling.{Filled, filled_at, fill_one}
use Rattle.rules.specs.AnyTable.{access as access_of}
use Rattle.rules.specs.Table.{State, state, units_of, listing}

-- the blocks of C that a miss can evict: those of its own set, once every way of the set may be filled; none before
unfoldable pub at_risk : ℕ → Target → Filled → ℕ → ℕ
at_risk N x F C = cond (ltb (filled_at F x.set) N) 0 (shared C x.mates)

-- one more miss, from s: the contents C with the accessed block, one more way of its set that may be filled, and u units
abbrev pub missed : ℕ → Target → State → ℕ → ℕ → State
missed N x s C u = state (with C x.place) (suc s.misses) (fill_one N x.set s.filled) u

-- what the units that are left over keep of C, where a block of E can be lost: nothing; or all, where no block can be lost and all ways
-- lead to one successor
abbrev pub rest_of : ℕ → ℕ → ℕ
rest_of C E = cond (eqb E 0) C 0

-- s does not hold the block. With q units for each way of its set: a way that holds e of C loses e; the other ways lose nothing of C;
-- the r units that are left over go to the state that holds the accessed block only, or where no block can be lost with the others
unfoldable pub miss : ℕ → Target → State → List State
miss N x s =
    let C = s.mask in
    let E = at_risk N x s.filled C in
    let q = units_of s / N in
    map (λ e. missed N x s (without C e) q) (held E)
    ++ missed N x s C ((N - size E) * q)
    ∷ missed N x s (rest_of C E) (units_of s % N)
    ∷ []

-- the states that follow s: a hit leaves it as it is
unfoldable pub successors : ℕ → Target → State → List State
successors N x s = cond (hits x s.mask) (s ∷ []) (miss N x s)

-- what of s is set aside: the units that are left over at a miss that can lose a block, even where they land in a state that was
-- reached anyway
unfoldable pub left_over : ℕ → Target → State → ℕ
left_over N x s = cond (hits x s.mask || eqb (at_risk N x s.filled s.mask) 0) 0 (units_of s % N)

-- the table after the access, before any fold
abbrev pub access : ℕ → Target → List State → List State
access N x T = access_of listing (successors N x) T

-- and what the access sets aside
abbrev pub access_aside : ℕ → Target → List State → ℕ
access_aside N x T = sum_over (left_over N x) T
