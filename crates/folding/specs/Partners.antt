-- Partners that no other state can beat, or few.
use Rattle.std.specs.Prelude.{Bool, ◌&&◌, eqb}
use Rattle.rules.specs.declared.State.{State}
use Rattle.rules.specs.Contents.{shared}

-- t holds all blocks of s
abbrev pub holds_all : State → State → Bool
holds_all s t = eqb (shared s.mask t.mask) s.mask

-- and has as many misses: no other state can be a better partner
abbrev pub is_alike : State → State → Bool
is_alike s t = holds_all s t && eqb s.misses t.misses
