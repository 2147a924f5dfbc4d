-- What is counted where a path ends: in the machine, choice sequences; in the finished table, units.
use Rattle.std.specs.Prelude.{Bool, cond, ◌&&◌, List, ℕ, ◌-◌, eqb, ltb}
use Rattle.basics.specs.Sums.{sum_over}
use Rattle.machine.specs.Cache.{Cache, in_cache, Revision, first, second}
use Rattle.rules.specs.declared.State.{State}
use Rattle.rules.specs.declared.Core.{Core}
use Rattle.rules.specs.Contents.{mask_of}
use Rattle.rules.specs.Input.{Input}
use Rattle.rules.specs.Table.{units_of}
use Rattle.rules.specs.Cycles.{cycles_of}

-- the revision that an input names
abbrev pub revision_of : Input → Revision
revision_of i = cond (eqb i.revision 2) second first

-- the cache had more misses than the budget
abbrev pub over : ℕ → Cache → Bool
over B c = ltb B c.misses

-- a path of n accesses that ended in this cache had more hits than the number: each access is a miss or a hit
abbrev pub over_hits : ℕ → ℕ → Cache → Bool
over_hits n B c = ltb B (n - c.misses)

-- a path of n accesses that ended in this cache took more cycles than the budget: its misses at miss cycles, its hits, the rest of its
-- accesses, at hit cycles
abbrev pub over_cycles : Core → ℕ → ℕ → Cache → Bool
over_cycles c n B cache = ltb B (cycles_of c n cache.misses)

-- the contents mask of the tracked blocks that the cache holds: bit i for the block at place i of the list
unfoldable pub contents_of : List ℕ → Cache → ℕ
contents_of ts c = mask_of (in_cache c) ts

-- the cache ends with contents C and m misses
abbrev pub ends_with : List ℕ → ℕ → ℕ → Cache → Bool
ends_with ts C m c = eqb (contents_of ts c) C && eqb c.misses m

-- the units of a table at contents C and m misses, over all filled numbers
unfoldable pub units_with : ℕ → ℕ → List State → ℕ
units_with C m T = sum_over (λ s. cond (eqb s.mask C && eqb s.misses m) (units_of s) 0) T
