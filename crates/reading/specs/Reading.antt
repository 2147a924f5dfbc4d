-- Well-formed text, and the numbers in it: document 01, section 7. A text is the list of its bytes.
use Rattle.std.specs.Prelude.{Bool, true, cond, ◌&&◌, ◌||◌, List, [], ◌∷◌, ◌++◌, map, ℕ, ◌+◌, ◌-◌, ◌*◌, eqb, leb, length}

-- a space or a newline
abbrev pub is_gap : ℕ → Bool
is_gap b = eqb b 32 || eqb b 10

-- a decimal digit, 0 to 9
abbrev pub is_digit : ℕ → Bool
is_digit b = leb 48 b && leb b 57

-- every byte is a digit
abbrev pub all_digits : List ℕ → Bool
all_digits [] = true
all_digits (b ∷ w) = is_digit b && all_digits w

-- the number that digits say, behind the number n
abbrev pub value_from : ℕ → List ℕ → ℕ
value_from n [] = n
value_from n (b ∷ w) = value_from (n * 10 + (b - 48)) w

-- a number: 1 to 10 digits, at most 4294967295
unfoldable pub is_number : List ℕ → Bool
is_number w = leb 1 (length w) && leb (length w) 10 && all_digits w && leb (value_from 0 w) 4294967295

-- the word w is done, and ws follow
abbrev pub ended : List ℕ → List (List ℕ) → List (List ℕ)
ended [] ws = ws
ended (b ∷ w) ws = (b ∷ w) ∷ ws

-- the words of a text, the stretches between gaps; w is the word under way
unfoldable pub words_from : List ℕ → List ℕ → List (List ℕ)
words_from w [] = ended w []
words_from w (b ∷ text) =
    let g = is_gap b in
    let rest = words_from (cond g [] (w ++ (b ∷ []))) text in
    cond g (ended w rest) rest

-- every word is a number
abbrev pub all_numbers : List (List ℕ) → Bool
all_numbers [] = true
all_numbers (w ∷ ws) = is_number w && all_numbers ws

-- at most 65,536 bytes; each word is a number, 16,384 at most
unfoldable pub well_formed : List ℕ → Bool
well_formed text = let ws = words_from [] text in leb (length text) 65536 && all_numbers ws && leb (length ws) 16384

-- the numbers of a text
unfoldable pub numbers_in : List ℕ → List ℕ
numbers_in text = map (value_from 0) (words_from [] text)
