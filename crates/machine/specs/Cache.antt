-- Document 01, section 1, and document 02, requests 1/13, 6/13 and 12/13: a cache of Z sets of N ways that overwrites a way drawn at random.
use Rattle.std.specs.Prelude.{◌≡◌, Bool, true, false, cond, ◌||◌, List, [], ◌∷◌, ℕ, suc, ◌%◌, ◌<◌, eqb, length, get_or, set, replicate}

-- each way holds one block number or is empty
pub data Way : Type 0 where
  empty : Way
  holding : ℕ → Way

-- whether a way holds the block b
abbrev pub is_holding : Way → ℕ → Bool
is_holding empty b = false
is_holding (holding x) b = eqb x b

-- whether one of the ways holds b
abbrev pub holds : List Way → ℕ → Bool
holds [] b = false
holds (w ∷ ws) b = is_holding w b || holds ws b

-- the sets, each a list of ways, and the misses so far
pub record Cache : Type 0 where
  pub sets : List (List Way)
  pub misses : ℕ

-- it starts empty: Z sets of N empty ways and no miss
abbrev pub start : ℕ → ℕ → Cache
start Z N = record { sets = replicate Z (replicate N empty); misses = 0 }

-- a block belongs to the set given by its number modulo the set count
abbrev pub set_of : Cache → ℕ → ℕ
set_of c b = b % length c.sets

-- the ways of the set that b belongs to
abbrev pub ways_of : Cache → ℕ → List Way
ways_of c b = get_or c.sets (set_of c b) []

-- whether the cache holds b: only in its own set is it looked for
abbrev pub in_cache : Cache → ℕ → Bool
in_cache c b = holds (ways_of c b) b

-- ---- which way a miss overwrites

-- the two revisions of the core: the second takes an empty way while one exists
pub data Revision : Type 0 where
  first : Revision
  second : Revision

-- whether one of the ways is empty
abbrev pub has_empty : List Way → Bool
has_empty [] = false
has_empty (empty ∷ ws) = true
has_empty (holding b ∷ ws) = has_empty ws

-- the place of the first empty way
abbrev pub first_empty : List Way → ℕ
first_empty [] = 0
first_empty (empty ∷ ws) = 0
first_empty (holding b ∷ ws) = suc (first_empty ws)

-- the way that a miss overwrites, d being drawn: that one; in the second revision the first empty way while there is one
unfoldable pub victim : Revision → List Way → ℕ → ℕ
victim first ws d = d
victim second ws d = cond (has_empty ws) (first_empty ws) d

-- ---- one access, and a path

-- way d of b's set overwritten with b, whatever it held, and one miss more
unfoldable pub overwrite : Cache → ℕ → ℕ → Cache
overwrite c b d = record { sets = set c.sets (set_of c b) (set (ways_of c b) d (holding b)); misses = suc c.misses }

-- an access to b with the way d drawn: where b is held, a hit, nothing changes; any other access is a miss, and a way of b's set is
-- overwritten
unfoldable pub access : Revision → Cache → ℕ → ℕ → Cache
access v c b d = cond (in_cache c b) c (overwrite c b (victim v (ways_of c b) d))

-- a path's accesses one after the other, a draw for each, hits included
unfoldable pub run : Revision → Cache → List ℕ → List ℕ → Cache
run v c [] ds = c
run v c (b ∷ p) [] = c
run v c (b ∷ p) (d ∷ ds) = run v (access v c b d) p ds

-- ---- what every cache is

-- none of the ways holds what w holds
abbrev pub Fresh : Way → List Way → Type 0
Fresh empty ws = Unit {0}
Fresh (holding b) ws = holds ws b ≡ false

-- no block stands in two of the ways
abbrev pub Apart : List Way → Type 0
Apart [] = Unit {0}
Apart (w ∷ ws) = Fresh w ws × Apart ws

-- Z sets of N ways, and no block in two ways of a set. Any contents with no block in two ways are so, the empty ones too, and they stay so
-- whatever is accessed and drawn (`built_so`, `built_start`, `built_access` in proofs/Ways.antt)
pub record Built (Z N : ℕ) (c : Cache) : Type 0 where
  pub count : length c.sets ≡ Z
  pub wide : (j : ℕ) → j < Z → length (get_or c.sets j []) ≡ N
  pub apart : (j : ℕ) → Apart (get_or c.sets j [])
