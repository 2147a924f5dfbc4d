-- How near two states are, as a search keeps it of the best partner so far.
use Rattle.std.specs.Prelude.{Bool, ◌||◌, ◌&&◌, eqb, ltb}
use Rattle.rules.specs.declared.BestState.{BestState}
use Rattle.rules.specs.Best.{misses_of, hits_of, sharing, apart}
use Rattle.best.specs.declared.fold.Nearness.{Nearness}

-- the blocks that s shares with t, and how far apart they are in misses and in hits
abbrev pub nearness_of : BestState → BestState → Nearness
nearness_of s t = record { shares = sharing s t; misses = apart (misses_of s) (misses_of t); hits = apart (hits_of s) (hits_of t) }

-- a is nearer than b: more blocks, or as many and nearer in misses, or as near in those too and nearer in hits
abbrev pub nearer : Nearness → Nearness → Bool
nearer a b =
    ltb b.shares a.shares
    || eqb b.shares a.shares && (ltb a.misses b.misses || eqb a.misses b.misses && ltb a.hits b.hits)
