-- Tables read from words, five to a state: what holds of the reading, whatever a state is. Both kinds are read so.
use mathlib.Core.Path.{◌≡◌}
use mathlib.Core.List.{List, ◌++◌}
use Prim.Native.Nat.{ℕ, ◌*◌, ◌/◌, ◌≤◌}
use native.Mathlib.Omega.{arith}
use lib.ListN.{length, take, drop}
use Rattle.words.specs.Tables.{table_of}
use Rattle.words.specs.BestTables.{table_of as best_of}
use Rattle.words.proofs.Tables.{length_table_of, table_take, table_drop, table_append}
use Rattle.words.proofs.BestTables.{length_table_of as best_length, table_take as best_take, table_drop as best_drop, table_append as best_append}

pub record Reading {A : Type 0} (table_of : List ℕ → List A) : Type 0 where
  pub many : (ws : List ℕ) → length (table_of ws) ≡ length ws / 5
  pub first : (ws : List ℕ) (k : ℕ) → table_of (take (k * 5) ws) ≡ take k (table_of ws)
  pub behind : (ws : List ℕ) (k : ℕ) → table_of (drop (k * 5) ws) ≡ drop k (table_of ws)
  pub onto : (ws vs : List ℕ) (k : ℕ) → length ws ≡ k * 5 → table_of (ws ++ vs) ≡ table_of ws ++ table_of vs

pub states_read : Reading table_of
states_read = record { many = length_table_of; first = table_take; behind = table_drop; onto = table_append }

pub best_read : Reading best_of
best_read = record { many = best_length; first = best_take; behind = best_drop; onto = best_append }

-- n states in n * 5 words
pub fits_table : {A : Type 0} {table_of : List ℕ → List A} → Reading table_of → (ws : List ℕ) (n : ℕ) → n * 5 ≤ length ws → n ≤ length (table_of ws)
fits_table r ws n h = omega (arith, r.many ws)
