-- The first states of a table in words.
use Rattle.std.specs.Prelude.{cond, ℕ, ◌*◌, ◌/◌, leb}

-- where the first k states end, of n words; n where there are no more than k
abbrev pub span_of : ℕ → ℕ → ℕ
span_of n k = cond (leb (n / 5) k) n (k * 5)
