-- A trace: blocks of 512 bytes one behind the other. What it says, and which of its blocks are damaged.
use Rattle.std.specs.Prelude.{cond, List, [], ◌∷◌, ◌++◌, ℕ, zero, suc, ◌/◌, length, take, drop}
use Rattle.trace_blocks.specs.Blocks.{accesses_in, is_sound}

-- the first n blocks of a trace, 512 bytes each
unfoldable pub blocks_in : ℕ → List ℕ → List (List ℕ)
blocks_in zero trace = []
blocks_in (suc n) trace = take 512 trace ∷ blocks_in n (drop 512 trace)

-- all its blocks
unfoldable pub blocks_of : List ℕ → List (List ℕ)
blocks_of trace = blocks_in (length trace / 512) trace

-- what f gives for each block and its place, one behind the other; the first block is at place k
unfoldable pub gathered : (ℕ → List ℕ → List ℕ) → ℕ → List (List ℕ) → List ℕ
gathered f k [] = []
gathered f k (b ∷ bs) = f k b ++ gathered f (suc k) bs

-- what a block says, at whatever place: its accesses
abbrev pub said_at : ℕ → List ℕ → List ℕ
said_at k b = accesses_in b

-- its place, if it is damaged
abbrev pub damage_at : ℕ → List ℕ → List ℕ
damage_at k b = cond (is_sound k b) [] (k ∷ [])

-- what a trace says: the accesses of its blocks, in their order
unfoldable pub said : List ℕ → List ℕ
said trace = gathered said_at 0 (blocks_of trace)

-- the places of its damaged blocks, rising
unfoldable pub damaged_places : List ℕ → List ℕ
damaged_places trace = gathered damage_at 0 (blocks_of trace)
