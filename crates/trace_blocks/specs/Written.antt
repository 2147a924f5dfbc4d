-- What is written: numbers as bytes, and a block.
use Rattle.std.specs.Prelude.{cond, ◌&&◌, List, [], ◌∷◌, ◌++◌, ℕ, ◌-◌, ◌*◌, ◌/◌, ◌%◌, eqb, leb, length, replicate}
use Rattle.trace_blocks.specs.Blocks.{check_of}

-- ---- numbers as bytes, the lowest first

-- a number below 2^16 as two bytes
unfoldable pub pair_bytes : ℕ → List ℕ
pair_bytes x = x % 256 ∷ x / 256 ∷ []

-- a number below 2^32 as four
unfoldable pub four_bytes : ℕ → List ℕ
four_bytes x = x % 256 ∷ x / 256 % 256 ∷ x / 65536 % 256 ∷ x / 16777216 ∷ []

-- such numbers one behind the other
unfoldable pub fours_bytes : List ℕ → List ℕ
fours_bytes [] = []
fours_bytes (x ∷ xs) = four_bytes x ++ fours_bytes xs

-- ---- a block

-- bytes 0 to 509 of block k with the accesses xs, at most 125: number, count, accesses, zeros
unfoldable pub head_of : ℕ → List ℕ → List ℕ
head_of k xs = four_bytes k ++ pair_bytes (length xs) ++ fours_bytes xs ++ replicate (504 - length xs * 4) 0

-- block k with the accesses xs: behind those bytes the check
unfoldable pub block_of : ℕ → List ℕ → List ℕ
block_of k xs = head_of k xs ++ pair_bytes (check_of (head_of k xs))

-- a room after a block was put into it: the block, where the room has 512 bytes and there are at most 125 accesses
unfoldable pub block_put : ℕ → List ℕ → List ℕ → List ℕ
block_put k xs room = cond (eqb (length room) 512 && leb (length xs) 125) (block_of k xs) room
