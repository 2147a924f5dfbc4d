-- Sums over lists.
use Rattle.std.specs.Prelude.{List, [], ◌∷◌, ℕ, ◌+◌}

-- the sum of F over the elements of a list
abbrev pub sum_over : {A : Type 0} → (A → ℕ) → List A → ℕ
sum_over F [] = 0
sum_over F (x ∷ xs) = F x + sum_over F xs
