-- How many ways of each set may be filled: document 02, request 6/13. Sixteen numbers, set 0 first, in two words of eight bytes.
use Rattle.std.specs.Prelude.{Bool, true, false, cond, ◌&&◌, List, [], ◌∷◌, ◌++◌, ℕ, zero, suc, ◌+◌, ◌-◌, ◌*◌, ◌/◌, ◌%◌, max, eqb, ltb, length, get_or, set, take, drop, replicate}
pub use Rattle.rules.specs.declared.Filled.{Filled}
use Rattle.rules.specs.Input.{Start, cold, warm, Input}

-- the n lowest bytes of a word, the highest of them first
unfoldable pub bytes_of : ℕ → ℕ → List ℕ
bytes_of zero w = []
bytes_of (suc n) w = bytes_of n (w / 256) ++ (w % 256 ∷ [])

-- the word w with some bytes more behind it
unfoldable pub word_from : ℕ → List ℕ → ℕ
word_from w [] = w
word_from w (n ∷ ns) = word_from (w * 256 + n) ns

-- the sixteen numbers
unfoldable pub numbers_of : Filled → List ℕ
numbers_of F = bytes_of 8 F.front ++ bytes_of 8 F.back

-- the words that sixteen numbers make
unfoldable pub filled_from : List ℕ → Filled
filled_from ns = record { front = word_from 0 (take 8 ns); back = word_from 0 (drop 8 ns) }

-- the number of set j
unfoldable pub filled_at : Filled → ℕ → ℕ
filled_at F j = get_or (numbers_of F) j 0

-- F with n for set j
unfoldable pub with_filled : Filled → ℕ → ℕ → Filled
with_filled F j n = filled_from (set (numbers_of F) j n)

-- some sets' numbers; sets beyond them have 0
unfoldable pub of_sets : List ℕ → Filled
of_sets ns = filled_from (ns ++ replicate (16 - length ns) 0)

-- n for each of Z sets
abbrev pub evenly : ℕ → ℕ → Filled
evenly Z n = of_sets (replicate Z n)

-- after a miss in set j: one more, up to N
unfoldable pub fill_one : ℕ → ℕ → Filled → Filled
fill_one N j F = cond (ltb (filled_at F j) N) (with_filled F j (suc (filled_at F j))) F

-- the larger of each two
abbrev pub larger_of : List ℕ → List ℕ → List ℕ
larger_of [] ns = []
larger_of (m ∷ ms) [] = []
larger_of (m ∷ ms) (n ∷ ns) = max m n ∷ larger_of ms ns

-- the larger number of each set
unfoldable pub fullest : Filled → Filled → Filled
fullest F G = filled_from (larger_of (numbers_of F) (numbers_of G))

-- they are the same numbers
abbrev pub same_filled : Filled → Filled → Bool
same_filled F G = eqb F.front G.front && eqb F.back G.back

-- ---- at the start (document 02, requests 6/13 and 12/13)

-- the cache is found empty
abbrev pub is_cold : Start → Bool
is_cold cold = true
is_cold warm = false

-- whether every way is known to be empty at the start, and stays so until a miss fills it: in the second revision, started cold
abbrev pub starts_empty : Input → Bool
starts_empty i = eqb i.revision 2 && is_cold i.start

-- how many ways may be filled at the start: none, or all, since any way may hold a block or be drawn
unfoldable pub at_start : Input → Filled
at_start i = evenly i.sets (cond (starts_empty i) 0 i.ways)
