-- When folds end, and when the search for a partner does.
use Rattle.std.specs.Prelude.{Bool, ℕ, ltb, leb}

-- a table of n states is folded: more than K are too many
abbrev pub is_above_limit : ℕ → ℕ → Bool
is_above_limit n K = ltb K n

-- of the states that hold all blocks of another and are not alike to it, none is nearer to it than m misses: each is one miss away at least
abbrev pub none_nearer : ℕ → Bool
none_nearer m = leb m 1
