-- What stands in a room, word by word.
use Rattle.std.specs.Prelude.{List, [], ◌∷◌, Bool, true, ◌&&◌, cond, ℕ, ◌+◌, eqb, leb, length, get_or}
use Rattle.std.specs.Int.Bits.{bit_xor}

-- what stands at place i of a room before a call
unfoldable pub mark_of : ℕ → ℕ
mark_of i = bit_xor i 6148914691236517205

-- each word, the first of which is at place i, is what f gives for its place
abbrev pub all_are : (ℕ → ℕ) → ℕ → List ℕ → Bool
all_are f i [] = true
all_are f i (x ∷ xs) = eqb x (f i) && all_are f (i + 1) xs

-- every word is as it was before the call
abbrev pub is_marked : List ℕ → Bool
is_marked room = all_are mark_of 0 room

-- these words, and zeros from there to the end
abbrev pub has_only : List ℕ → List ℕ → Bool
has_only words room = leb (length words) (length room) && all_are (λ i. get_or words i 0) 0 room

-- as a call leaves a room that answers so: these words, or after a refusal what stood there
abbrev pub is_left : ℕ → List ℕ → List ℕ → Bool
is_left answer words room = cond (eqb answer 0) (has_only words room) (is_marked room)
