-- Rows of words that choose cells of a row: those of which a miss evicts a block, those of which it evicts none, and all.
use Rattle.std.specs.Prelude.{◌≡◌, ◌⊎◌, Bool, cond, not, List, ℕ, ◌+◌, ◌-◌, ◌^◌, ◌≤◌, ◌<◌, length}
use Rattle.rules.specs.declared.Target.{Target}
use Rattle.tight_rows.specs.Room.{Words, words_of}
use Rattle.tight.specs.Access.{evicts}
use Rattle.tight_rows.specs.Grid.{filled_words}

-- a word that chooses a cell: it has all ones
abbrev pub ones : ℕ
ones = 2 ^ 64 - 1

-- the word of a cell, which is chosen or not
abbrev pub chosen : Bool → ℕ
chosen b = cond b ones 0

-- whether a miss evicts a block at cell j: its filled numbers stand at places fronts + j and backs + j
abbrev pub loses_at : ℕ → Target → ℕ → ℕ → Words → ℕ → Bool
loses_at N x fronts backs w j = evicts N x (filled_words w (fronts + j) (backs + j))

-- the words of the filled numbers of n cells are there, and behind them three rows of n words, one behind the other
pub record Selectable (x : Target) (fronts backs lose keep all n : ℕ) (ws : List ℕ) : Type 0 where
  pub sets : x.set < 16
  pub front : fronts + n ≤ lose
  pub back : backs + n ≤ lose
  pub first : lose + n ≤ keep
  pub second : keep + n ≤ all
  pub third : all + n ≤ length ws

-- the three rows are written, and nothing else
pub record Selects (N : ℕ) (x : Target) (fronts backs lose keep all n : ℕ) (xs ys : List ℕ) : Type 0 where
  pub long : length ys ≡ length xs
  pub losing : (j : ℕ) → j < n → words_of ys (lose + j) ≡ chosen (loses_at N x fronts backs (words_of xs) j)
  pub keeping : (j : ℕ) → j < n → words_of ys (keep + j) ≡ chosen (not (loses_at N x fronts backs (words_of xs) j))
  pub both : (j : ℕ) → j < n → words_of ys (all + j) ≡ ones
  pub beside : (i : ℕ) → i < length xs → (i < lose) ⊎ (lose + n ≤ i) → (i < keep) ⊎ (keep + n ≤ i) → (i < all) ⊎ (all + n ≤ i) → words_of ys i ≡ words_of xs i
