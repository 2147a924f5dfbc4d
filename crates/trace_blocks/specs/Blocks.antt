-- A block of the trace recorder, 512 bytes: its fields at their bytes, and whether it is damaged, by its own bytes and its place alone. Document 02, request 7/13.
-- A block is the list of its bytes.
use Rattle.std.specs.Prelude.{Bool, true, cond, ◌&&◌, List, [], ◌∷◌, ℕ, zero, suc, ◌+◌, ◌-◌, ◌*◌, ◌%◌, eqb, leb, ltb, length, get_or, take, drop}

-- ---- numbers in bytes

-- the number of two bytes at place p, the lowest first
unfoldable pub pair_at : List ℕ → ℕ → ℕ
pair_at b p = get_or b p 0 + get_or b (p + 1) 0 * 256

-- the number of four
unfoldable pub four_at : List ℕ → ℕ → ℕ
four_at b p = get_or b p 0 + get_or b (p + 1) 0 * 256 + get_or b (p + 2) 0 * 65536 + get_or b (p + 3) 0 * 16777216

-- n numbers of four bytes each, from the front
unfoldable pub fours : ℕ → List ℕ → List ℕ
fours zero b = []
fours (suc n) b = four_at b 0 ∷ fours n (drop 4 b)

-- ---- the fields

-- bytes 0 to 3: the block number
abbrev pub number_in : List ℕ → ℕ
number_in b = four_at b 0

-- bytes 4 and 5: how many accesses there are
abbrev pub count_in : List ℕ → ℕ
count_in b = pair_at b 4

-- from byte 6 on: the accesses, four bytes each
unfoldable pub accesses_in : List ℕ → List ℕ
accesses_in b = fours (count_in b) (drop 6 b)

-- behind the accesses, up to byte 509: the places that are not used, and bytes 506 to 509
abbrev pub unused_in : List ℕ → List ℕ
unused_in b = let used = 6 + count_in b * 4 in take (510 - used) (drop used b)

-- bytes 510 and 511: the check, as it stands there
abbrev pub check_in : List ℕ → ℕ
check_in b = pair_at b 510

-- ---- whether it is damaged

-- the sum of bytes, each times its weight: w for the first, one more for each one behind it
unfoldable pub weighed : ℕ → List ℕ → ℕ
weighed w [] = 0
weighed w (x ∷ xs) = w * x + weighed (suc w) xs

-- the check that bytes 0 to 509 ask for
unfoldable pub check_of : List ℕ → ℕ
check_of head = weighed 1 head % 65521

-- every byte is zero
unfoldable pub all_zero : List ℕ → Bool
all_zero [] = true
all_zero (x ∷ xs) = eqb x 0 && all_zero xs

-- a block at place k is not damaged: its number is k, it counts at most 125 accesses, what is not used is zero, and the check that is stored is the one asked for
unfoldable pub is_sound : ℕ → List ℕ → Bool
is_sound k b = eqb (number_in b) k && leb (count_in b) 125 && all_zero (unused_in b) && eqb (check_in b) (check_of (take 510 b))

-- ---- of any bytes

-- they are a block, and at place k not damaged
unfoldable pub is_block : ℕ → List ℕ → Bool
is_block k b = eqb (length b) 512 && is_sound k b

-- how many accesses they count, if they are a block
unfoldable pub count_of : List ℕ → ℕ
count_of b = cond (eqb (length b) 512) (count_in b) 0

-- the access at place i, if they are a block and have such a place
unfoldable pub access_of : List ℕ → ℕ → ℕ
access_of b i = cond (eqb (length b) 512 && ltb i 125) (four_at b (6 + i * 4)) 0
