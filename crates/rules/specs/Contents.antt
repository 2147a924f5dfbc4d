-- Contents: a set of tracked blocks as a mask, a number whose bit i says whether the block at place i of the list is in the set.
-- Document 01, section 2; document 02, requests 1/13 and 3/13.
use Rattle.std.specs.Prelude.{Bool, true, false, cond, ◌||◌, ◌&&◌, not, List, [], ◌∷◌, ◌++◌, ℕ, zero, suc, ◌+◌, ◌*◌, ◌/◌, ◌%◌, ◌^◌, eqb, length, Option, Some, None}
use Rattle.std.specs.Int.Bits.{bit_and, bit_or, bit_xor}
pub use Rattle.rules.specs.declared.Target.{Target}

-- where a block stands in the list of tracked blocks, if it is tracked
abbrev pub Place : Type 0
Place = Option ℕ

-- the block accessed directly before, if it is known
abbrev pub Last : Type 0
Last = Option ℕ

-- at most 16 blocks are tracked
unfoldable pub places : ℕ
places = 16

-- ---- the list of tracked blocks

-- whether b is in the list
abbrev pub among : List ℕ → ℕ → Bool
among [] b = false
among (t ∷ ts) b = eqb t b || among ts b

-- every access of a list is to a tracked block
abbrev pub all_tracked : List ℕ → List ℕ → Bool
all_tracked ts [] = true
all_tracked ts (b ∷ bs) = among ts b && all_tracked ts bs

-- no block is listed twice
abbrev pub once : List ℕ → Bool
once [] = true
once (t ∷ ts) = not (among ts t) && once ts

-- one place further on
abbrev pub further : Place → Place
further (Some i) = Some (suc i)
further None = None

-- looking up a block finds its place in the list or finds it untracked
unfoldable pub find : List ℕ → ℕ → Place
find [] b = None
find (t ∷ ts) b = cond (eqb t b) (Some 0) (further (find ts b))

-- ---- masks

-- whether the contents C hold the block at place i
unfoldable pub bit : ℕ → ℕ → Bool
bit C i = eqb (C / 2 ^ i % 2) 1

-- whether the block that was looked up is surely held: a tracked one where C has it, an untracked one where it was accessed directly
-- before, which r says
abbrev pub has : ℕ → Bool → Place → Bool
has C r (Some i) = bit C i
has C r None = r

-- C with the block that was looked up; an untracked one adds nothing
unfoldable pub with : ℕ → Place → ℕ
with C (Some i) = bit_or C (2 ^ i)
with C None = C

-- C without the block at place i, which it holds
unfoldable pub without : ℕ → ℕ → ℕ
without C i = bit_xor C (2 ^ i)

-- the blocks that C and D share
unfoldable pub shared : ℕ → ℕ → ℕ
shared C D = bit_and C D

-- the places below k whose blocks C holds, rising
unfoldable pub held_below : ℕ → ℕ → List ℕ
held_below zero C = []
held_below (suc k) C = held_below k C ++ cond (bit C k) (k ∷ []) []

-- the places of all blocks that C holds
unfoldable pub held : ℕ → List ℕ
held C = held_below places C

-- how many they are: |C|
unfoldable pub size : ℕ → ℕ
size C = length (held C)

-- ---- sets

-- the mask of the listed blocks that pass a test: bit i for the block at place i
unfoldable pub mask_of : (ℕ → Bool) → List ℕ → ℕ
mask_of test [] = 0
mask_of test (t ∷ ts) = mask_of test ts * 2 + cond (test t) 1 0

-- the tracked blocks of set j of Z: a block belongs to the set given by its number modulo the set count
unfoldable pub of_set : ℕ → List ℕ → ℕ → ℕ
of_set Z ts j = mask_of (λ t. eqb (t % Z) j) ts

-- ---- the block accessed directly before

-- whether b was
abbrev pub is_last : Last → ℕ → Bool
is_last (Some a) b = eqb a b
is_last None b = false

-- the last block after the accesses bs: each makes its block the last one, and an empty run passes it on
unfoldable pub last_after : Last → List ℕ → Last
last_after l [] = l
last_after l (b ∷ bs) = last_after (Some b) bs

-- what one says, if the other says the same; where one knows nothing, nothing is known
abbrev pub agreed : Last → Last → Last
agreed (Some a) k = cond (is_last k a) (Some a) None
agreed None k = None

-- ---- what an access is after

-- an access to b, where l was accessed directly before: its place, whether it is accessed again, its set, and the tracked blocks of that set
unfoldable pub target_of : ℕ → List ℕ → Last → ℕ → Target
target_of Z ts l b = record { place = find ts b; again = is_last l b; set = b % Z; mates = of_set Z ts (b % Z) }

-- whether it is surely a hit on contents C
abbrev pub hits : Target → ℕ → Bool
hits x C = has C x.again x.place
