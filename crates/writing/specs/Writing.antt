-- Numbers and lines as text: decimal, no leading zeros, one newline at the end of each line.
use Rattle.std.specs.Prelude.{Bool, true, false, cond, List, [], ◌∷◌, ◌++◌, ℕ, zero, suc, ◌+◌, ◌/◌, ◌%◌, eqb, ltb, length}

-- the digits of n, k at most: those of the number without its last digit, if there is one, and the last digit
abbrev pub decimal_from : ℕ → ℕ → List ℕ
decimal_from zero n = []
decimal_from (suc k) n = cond (ltb n 10) [] (decimal_from k (n / 10)) ++ ((48 + n % 10) ∷ [])

-- 20 digits are enough for every number of 64 bits
unfoldable pub decimal : ℕ → List ℕ
decimal n = decimal_from 20 n

-- "refused "
abbrev pub refused_word : List ℕ
refused_word = 114 ∷ 101 ∷ 102 ∷ 117 ∷ 115 ∷ 101 ∷ 100 ∷ 32 ∷ []

-- a refusal: `refused`, a space and the number
unfoldable pub refused_line : ℕ → List ℕ
refused_line r = refused_word ++ decimal r ++ (10 ∷ [])

-- what stands behind a number of a line: the newline if it is the last, otherwise a space
abbrev pub gap : Bool → ℕ
gap true = 10
gap false = 32

-- numbers on a line, apart by spaces; no line for none
unfoldable pub numbers_line : List ℕ → List ℕ
numbers_line [] = []
numbers_line (x ∷ xs) = decimal x ++ (gap (eqb (length xs) 0) ∷ []) ++ numbers_line xs
