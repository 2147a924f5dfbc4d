-- Document 01, section 1: the choice sequences of a path, all equally likely, and how many of them end in a cache that passes a test.
use Rattle.std.specs.Prelude.{Bool, cond, List, [], ◌∷◌, ◌++◌, map, ℕ, zero, suc, length}
use Rattle.basics.specs.Sums.{sum_over}
use Rattle.machine.specs.Cache.{Revision, Cache, start, run}

-- each of the ways 0 .. n - 1, drawn before each of the sequences
abbrev pub with_each : ℕ → List (List ℕ) → List (List ℕ)
with_each zero ss = []
with_each (suc n) ss = with_each n ss ++ map (λ s. n ∷ s) ss

-- the choice sequences of L accesses: one of N ways for each access
abbrev pub draws : ℕ → ℕ → List (List ℕ)
draws N zero = [] ∷ []
draws N (suc L) = with_each N (draws N L)

-- in revision v with N ways in a set, the choice sequences of the path p that make of the cache c one that passes the test, counted
unfoldable pub count_from : (Cache → Bool) → Revision → ℕ → Cache → List ℕ → ℕ
count_from test v N c p = sum_over (λ ds. cond (test (run v c p ds)) 1 0) (draws N (length p))

-- from the start: Z sets of N empty ways
unfoldable pub count : (Cache → Bool) → Revision → ℕ → ℕ → List ℕ → ℕ
count test v Z N p = count_from test v N (start Z N) p
