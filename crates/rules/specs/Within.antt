-- A quick yes or no: document 02, request 5/13. A row is any numbers, one for each place from 0; a spread is such a row.
use Rattle.std.specs.Prelude.{Bool, List, ℕ, suc, leb, drop}
use Rattle.basics.specs.Sums.{sum_over}

-- the sum of the numbers at places above a budget: without those at places 0 to B
unfoldable pub sum_above : ℕ → List ℕ → ℕ
sum_above B row = sum_over (λ n. n) (drop (suc B) row)

-- whether that sum is at most the allowance u
unfoldable pub is_within : List ℕ → ℕ → ℕ → Bool
is_within row B u = leb (sum_above B row) u
