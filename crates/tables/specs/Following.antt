-- The states that follow one, where blocks are lost.
use Rattle.std.specs.Prelude.{cond, List, [], ◌∷◌, ℕ, zero, suc, ◌-◌}
use Rattle.rules.specs.Contents.{bit}

-- what the loss of the block at place e leaves, if it is one of E; otherwise nothing
unfoldable pub lost_at : {A : Type 0} → (ℕ → A) → ℕ → ℕ → List A
lost_at lose E e = cond (bit E e) (lose e ∷ []) []

-- the first of n places from place e on whose block is one of C; the place behind them, if there is none
unfoldable pub first_held : ℕ → ℕ → ℕ → ℕ
first_held C zero e = e
first_held C (suc n) e = cond (bit C e) e (first_held C n (suc e))

-- the first of the sixteen places, from place e on, whose block is one of C; otherwise 16, or e where that is more
abbrev pub next_held : ℕ → ℕ → ℕ
next_held C e = first_held C (16 - e) e

-- the highest of the first n places whose block is one of C; 0 where there is none
unfoldable pub top_held : ℕ → ℕ → ℕ
top_held zero C = 0
top_held (suc n) C = cond (bit C n) n (top_held n C)
