-- The best case's tables in lent words: how many states there are, the state at a place, a state stored, and the table of a part.
use mathlib.Core.Path.{◌≡◌, refl, ap, ap₂, ◌∙◌}
use mathlib.Core.Bool.{Bool, true, false}
use mathlib.Core.List.{List, [], ◌∷◌, ◌++◌}
use Prim.Native.Nat.{ℕ, zero, suc, ◌+◌, ◌*◌, ◌/◌, ◌≤◌, ◌<◌}
use native.Mathlib.Omega.{arith}
use lib.ListN.{length, get_or, set, take, drop, length-set}
use lib.Seq.{take_at}
use Rattle.rules.specs.declared.BestState.{BestState}
use Rattle.basics.proofs.Lists.{list_next, list_end}
use Rattle.rules.specs.AnyTable.{at}
use Rattle.rules.specs.Best.{listing}
use Rattle.words.specs.Span.{span_of}
use Rattle.words.specs.BestTables.{flag_of, best_state, table_of, words_of, stored}
use Rattle.words.proofs.Spans.{first_states}

-- a state of the words of a state is that state
state_back : (s : BestState) → best_state (flag_of s.exact) s.mask s.misses.0 s.hits.0 s.units.0 ≡ s
state_back s = go s.exact
  where
    go : (b : Bool) → best_state (flag_of b) s.mask s.misses.0 s.hits.0 s.units.0
        ≡ record { exact = b; mask = s.mask; misses = s.misses; hits = s.hits; units = s.units }
    go true = refl
    go false = refl

-- the state at place i of a list of words
abbrev pub row_of : List ℕ → ℕ → BestState
row_of ws i =
    best_state (get_or ws (i * 5) 0) (get_or ws (i * 5 + 1) 0) (get_or ws (i * 5 + 2) 0) (get_or ws (i * 5 + 3) 0) (get_or ws (i * 5 + 4) 0)

-- one place further is five words further, also of the words within a state
pub fifth : (i : ℕ) → suc i * 5 ≡ suc (suc (suc (suc (suc (i * 5)))))
fifth i = omega arith

fifth_and : (j i : ℕ) → suc i * 5 + j ≡ suc (suc (suc (suc (suc (i * 5 + j)))))
fifth_and j i = omega arith

pub length_table_of : (ws : List ℕ) → length (table_of ws) ≡ length ws / 5
unfolding table_of
length_table_of [] = refl
length_table_of (a ∷ []) = refl
length_table_of (a ∷ b ∷ []) = refl
length_table_of (a ∷ b ∷ c ∷ []) = refl
length_table_of (a ∷ b ∷ c ∷ d ∷ []) = refl
length_table_of (a ∷ b ∷ c ∷ d ∷ e ∷ ws) = omega (arith, length_table_of ws)

-- where there are fewer than five words there is no place for a state
pub row_at : (ws : List ℕ) (i : ℕ) (z : BestState) → i * 5 + 5 ≤ length ws → get_or (table_of ws) i z ≡ row_of ws i
unfolding table_of
row_at [] i z h = absurd (omega arith)
row_at (a ∷ []) i z h = absurd (omega arith)
row_at (a ∷ b ∷ []) i z h = absurd (omega arith)
row_at (a ∷ b ∷ c ∷ []) i z h = absurd (omega arith)
row_at (a ∷ b ∷ c ∷ d ∷ []) i z h = absurd (omega arith)
row_at (a ∷ b ∷ c ∷ d ∷ e ∷ ws) zero z h = refl
row_at (a ∷ b ∷ c ∷ d ∷ e ∷ ws) (suc i) z h =
    rw (fifth_and 1, fifth_and 2, fifth_and 3, fifth_and 4, fifth) (row_at ws i z (omega arith))

pub length_stored : (ws : List ℕ) (i : ℕ) (s : BestState) → length (stored ws i s) ≡ length ws
length_stored ws i s = rw (length-set, length-set, length-set, length-set, length-set)

pub table_stored : (ws : List ℕ) (i : ℕ) (s : BestState) → table_of (stored ws i s) ≡ set (table_of ws) i s
unfolding table_of
table_stored [] zero s = refl
table_stored (a ∷ []) zero s = refl
table_stored (a ∷ b ∷ []) zero s = refl
table_stored (a ∷ b ∷ c ∷ []) zero s = refl
table_stored (a ∷ b ∷ c ∷ d ∷ []) zero s = refl
table_stored (a ∷ b ∷ c ∷ d ∷ e ∷ ws) zero s = ap (λ (t : BestState). t ∷ table_of ws) (state_back s)
table_stored [] (suc i) s = refl
table_stored (a ∷ []) (suc i) s = rw (fifth_and 1, fifth_and 2, fifth_and 3, fifth_and 4, fifth) refl
table_stored (a ∷ b ∷ []) (suc i) s = rw (fifth_and 1, fifth_and 2, fifth_and 3, fifth_and 4, fifth) refl
table_stored (a ∷ b ∷ c ∷ []) (suc i) s = rw (fifth_and 1, fifth_and 2, fifth_and 3, fifth_and 4, fifth) refl
table_stored (a ∷ b ∷ c ∷ d ∷ []) (suc i) s = rw (fifth_and 1, fifth_and 2, fifth_and 3, fifth_and 4, fifth) refl
table_stored (a ∷ b ∷ c ∷ d ∷ e ∷ ws) (suc i) s =
    rw (fifth_and 1, fifth_and 2, fifth_and 3, fifth_and 4, fifth)
    (ap (λ (t : List BestState). best_state a b c d e ∷ t) (table_stored ws i s))

pub table_take : (ws : List ℕ) (k : ℕ) → table_of (take (k * 5) ws) ≡ take k (table_of ws)
unfolding table_of
table_take ws zero = refl
table_take [] (suc k) = rw fifth refl
table_take (a ∷ []) (suc k) = rw fifth refl
table_take (a ∷ b ∷ []) (suc k) = rw fifth refl
table_take (a ∷ b ∷ c ∷ []) (suc k) = rw fifth refl
table_take (a ∷ b ∷ c ∷ d ∷ []) (suc k) = rw fifth refl
table_take (a ∷ b ∷ c ∷ d ∷ e ∷ ws) (suc k) =
    rw fifth (ap (λ (t : List BestState). best_state a b c d e ∷ t) (table_take ws k))

pub table_drop : (ws : List ℕ) (k : ℕ) → table_of (drop (k * 5) ws) ≡ drop k (table_of ws)
unfolding table_of
table_drop ws zero = refl
table_drop [] (suc k) = rw fifth refl
table_drop (a ∷ []) (suc k) = rw fifth refl
table_drop (a ∷ b ∷ []) (suc k) = rw fifth refl
table_drop (a ∷ b ∷ c ∷ []) (suc k) = rw fifth refl
table_drop (a ∷ b ∷ c ∷ d ∷ []) (suc k) = rw fifth refl
table_drop (a ∷ b ∷ c ∷ d ∷ e ∷ ws) (suc k) = rw fifth (table_drop ws k)

pub table_append : (ws vs : List ℕ) (k : ℕ) → length ws ≡ k * 5 → table_of (ws ++ vs) ≡ table_of ws ++ table_of vs
unfolding table_of
table_append [] vs k h = refl
table_append (a ∷ []) vs k h = absurd (omega arith)
table_append (a ∷ b ∷ []) vs k h = absurd (omega arith)
table_append (a ∷ b ∷ c ∷ []) vs k h = absurd (omega arith)
table_append (a ∷ b ∷ c ∷ d ∷ []) vs k h = absurd (omega arith)
table_append (a ∷ b ∷ c ∷ d ∷ e ∷ ws) vs zero h = absurd (omega arith)
table_append (a ∷ b ∷ c ∷ d ∷ e ∷ ws) vs (suc k) h =
    ap (λ (t : List BestState). best_state a b c d e ∷ t) (table_append ws vs k (omega arith))

-- the words of a table, read back
length_words : (T : List BestState) → length (words_of T) ≡ length T * 5
unfolding words_of
length_words [] = refl
length_words (s ∷ T) = omega (arith, length_words T)

table_words_lem : (T : List BestState) → table_of (words_of T) ≡ T
unfolding table_of words_of
table_words_lem [] = refl
table_words_lem (s ∷ T) = ap₂ (λ (t : BestState) (U : List BestState). t ∷ U) (state_back s) (table_words_lem T)

pub words_first : (T : List BestState) (vs : List ℕ) → take (length T) (table_of (words_of T ++ vs)) ≡ T
words_first T vs =
    ap (take (length T)) (table_append (words_of T) vs (length T) (length_words T) ∙ ap (λ (t : List BestState). t ++ table_of vs) (table_words_lem T))
    ∙ take_at T (table_of vs) (length T) refl

-- a state stored behind the words of a table
pub stored_behind : (T : List BestState) (vs : List ℕ) (s : BestState) → 5 ≤ length vs
    → stored (words_of T ++ vs) (length T) s ≡ words_of T ++ (words_of (s ∷ []) ++ drop 5 vs)
unfolding words_of
stored_behind [] [] s h = absurd (omega arith)
stored_behind [] (a ∷ []) s h = absurd (omega arith)
stored_behind [] (a ∷ b ∷ []) s h = absurd (omega arith)
stored_behind [] (a ∷ b ∷ c ∷ []) s h = absurd (omega arith)
stored_behind [] (a ∷ b ∷ c ∷ d ∷ []) s h = absurd (omega arith)
stored_behind [] (a ∷ b ∷ c ∷ d ∷ e ∷ vs) s h = refl
stored_behind (t ∷ T) vs s h =
    rw (fifth_and 1, fifth_and 2, fifth_and 3, fifth_and 4, fifth)
    (ap (λ (us : List ℕ). flag_of t.exact ∷ t.mask ∷ t.misses.0 ∷ t.hits.0 ∷ t.units.0 ∷ us) (stored_behind T vs s h))

pub words_append : (S T : List BestState) → words_of (S ++ T) ≡ words_of S ++ words_of T
unfolding words_of
words_append [] T = refl
words_append (s ∷ S) T = ap (λ (us : List ℕ). flag_of s.exact ∷ s.mask ∷ s.misses.0 ∷ s.hits.0 ∷ s.units.0 ∷ us) (words_append S T)

-- n states in n * 5 words
pub fits_table : (ws : List ℕ) (n : ℕ) → n * 5 ≤ length ws → n ≤ length (table_of ws)
fits_table ws n h = omega (arith, length_table_of ws)

pub below_table : (ws : List ℕ) (n : ℕ) → n * 5 + 5 ≤ length ws → n < length (table_of ws)
below_table ws n h = omega (arith, length_table_of ws)

-- ---- through the states from the front

module _ {A : Type 0} (f : List BestState → A) (ws : List ℕ) (i : ℕ) (w : A) (rest : f (drop i (table_of ws)) ≡ w) where
  pub state_next : i < length ws / 5 → f (at listing (table_of ws) i ∷ drop (i + 1) (table_of ws)) ≡ w
  state_next h = list_next f (table_of ws) i w rest listing.none (omega (arith, length_table_of ws))

  pub state_end : length ws / 5 ≤ i → f [] ≡ w
  state_end h = list_end f (table_of ws) i w rest (omega (arith, length_table_of ws))

pub span_table : (ws : List ℕ) (k e : ℕ) → e ≡ span_of (length ws) k → table_of (take e ws) ≡ take k (table_of ws)
span_table ws k e ends = first_states ws k e ends table_of (length_table_of ws) (table_take ws k)
