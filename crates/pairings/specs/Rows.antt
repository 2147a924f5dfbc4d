-- The rows of a pairing in a flat list: what inner functions say of one row.
use Rattle.std.specs.Prelude.{Bool, cond, List, ℕ, ◌+◌, eqb, get_or}
use Rattle.rules.specs.AnyTable.{Match}

-- the row whose three numbers stand from r on
abbrev pub row_at : List ℕ → ℕ → Match
row_at rs r = record { left = get_or rs r 0; right = get_or rs (r + 1) 0; units = get_or rs (r + 2) 0 }

-- the place of a pair in the second table, or in the first
abbrev pub side_of : Bool → Match → ℕ
side_of second p = cond second p.right p.left

-- the units that a pair uses at a place
abbrev pub used_by : Bool → ℕ → Match → ℕ
used_by second a p = cond (eqb (side_of second p) a) p.units 0
