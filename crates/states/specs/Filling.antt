-- The filled numbers as code has them: two words of eight bytes, and what is so of any words.
use Rattle.std.specs.Prelude.{ℕ, ◌+◌, ◌-◌, ◌%◌, ◌^◌, Bool, cond, ◌&&◌, List, ◌++◌, length, replicate, ◌==◌, nat_le, nat_lt}
use Rattle.rules.specs.declared.Cache.{Cache}
use Rattle.rules.specs.declared.Filled.{Filled}
use Rattle.rules.specs.Filling.{filled_at, evenly, fill_one}
use Rattle.rules.specs.Graph.{is_cold}

-- one more in the byte of set j, of sixteen, as words of 64 bits add
unfoldable pub one_more : ℕ → Filled → Filled
one_more j F =
    cond (nat_lt j 8) (record { front = (F.front + 256 ^ (7 - j)) % 2 ^ 64; back = F.back })
    (record { front = F.front; back = (F.back + 256 ^ (15 - j)) % 2 ^ 64 })

-- the same, up to N
unfoldable pub words_more : ℕ → ℕ → Filled → Filled
words_more N j F = cond (nat_lt (filled_at F j) N) (one_more j F) F

-- after a miss in set j: one more, up to N ways; where there are more than sixteen, as words add
unfoldable pub filled_more : ℕ → ℕ → Filled → Filled
filled_more N j F = cond (nat_le N 16) (fill_one N j F) (words_more N j F)

-- n for each of Z sets, and 0 for those beyond, of sixteen
abbrev pub sixteen_of : ℕ → ℕ → List ℕ
sixteen_of Z n = replicate Z n ++ replicate (16 - length (replicate Z n)) 0

-- the cache is found empty, and fills empty ways first
abbrev pub starts_empty_of : Cache → Bool
starts_empty_of c = c.revision == 2 && is_cold c.start

-- how many ways may be filled at the start
abbrev pub start_of : Cache → Filled
start_of c = evenly c.sets (cond (starts_empty_of c) 0 c.ways)

-- the same of at most sixteen sets and ways; of more, no number
unfoldable pub start_in : Cache → Filled
start_in c = cond (nat_le c.sets 16 && nat_le c.ways 16) (start_of c) (record { front = 0; back = 0 })
