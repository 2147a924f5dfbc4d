-- The list of choice sequences is what its name says: there are N ^ L of them for L accesses, and each sequence of L draws
-- below N stands in it exactly once. A sum over them is taken one draw at a time, and a count of them grows with what is counted.
use mathlib.Core.Path.{◌≡◌, refl, sym, ap, ap₂, ◌∙◌}
use mathlib.Core.Bool.{Bool, true, false, cond, ◌&&◌}
use mathlib.Core.List.{List, [], ◌∷◌, map}
use Prim.Native.Nat.{ℕ, zero, suc, ◌+◌, ◌*◌, ◌^◌, ◌≤◌, ◌<◌, zero-le}
use native.Mathlib.Nat.{le_refl, add-le-add, pow-zero, pow-succ', le_of_suc-le-suc, not-suc-le-zero, ne_of_gt, eq-or-lt_of_le}
use mathlib.Core.Logic.{◌⊎◌, inl, inr}
use native.Mathlib.Omega.{arith}
use lib.Dec.{eqb}
use lib.ListN.{length, length-append, length-map}
use borrow.Author.Tests.{eq-eqb, ne_eqb}
use Rattle.basics.specs.Sums.{sum_over}
use Rattle.basics.proofs.Sums.{sum_to, sum_append, sum_map, sum_each}
use Rattle.machine.specs.Cache.{Revision, Cache, access, run}
use Rattle.machine.specs.Draws.{with_each, draws, count_from}

-- there are N ^ L choice sequences of L accesses
pub draws_many : (N L : ℕ) → length (draws N L) ≡ N ^ L
draws_many N zero = sym (pow-zero N)
draws_many N (suc L) = length_each N (draws N L) ∙ ap (N *◌) (draws_many N L) ∙ sym (pow-succ' N L)
  where
    length_each : (n : ℕ) (ss : List (List ℕ)) → length (with_each n ss) ≡ n * length ss
    length_each zero ss = omega arith
    length_each (suc n) ss =
        omega (arith, length-append (with_each n ss) (map (λ s. n ∷ s) ss), length-map ss (λ s. n ∷ s), length_each n ss)

-- ---- each stands there once

abbrev same : List ℕ → List ℕ → Bool
same [] [] = true
same [] (e ∷ t) = false
same (d ∷ s) [] = false
same (d ∷ s) (e ∷ t) = eqb d e && same s t

-- how often s stands in a list
abbrev pub times : List ℕ → List (List ℕ) → ℕ
times s ss = sum_over (λ t. cond (same s t) 1 0) ss

-- s has L draws, each below N
abbrev pub Sequence : ℕ → ℕ → List ℕ → Type 0
Sequence N zero [] = Unit {0}
Sequence N zero (d ∷ s) = ⊥
Sequence N (suc L) [] = ⊥
Sequence N (suc L) (d ∷ s) = (d < N) × Sequence N L s

times_behind : (d n : ℕ) (s : List ℕ) (ss : List (List ℕ)) → times (d ∷ s) (map (λ t. n ∷ t) ss) ≡ cond (eqb d n) (times s ss) 0
times_behind d n s ss = sum_map (λ t. cond (same (d ∷ s) t) 1 0) (λ t. n ∷ t) ss ∙ go (eqb d n) ss
  where
    go : (b : Bool) (ss : List (List ℕ)) → sum_over (λ t. cond (b && same s t) 1 0) ss ≡ cond b (times s ss) 0
    go true ss = refl
    go false [] = refl
    go false (t ∷ ss) = omega (arith, go false ss)

-- a draw of n or more is not there; one below n is there once
draw_above : (d n : ℕ) (s : List ℕ) (ss : List (List ℕ)) → n ≤ d → times (d ∷ s) (with_each n ss) ≡ 0
draw_above d zero s ss l = refl
draw_above d (suc n) s ss l =
    sum_append (λ t. cond (same (d ∷ s) t) 1 0) (with_each n ss) (map (λ t. n ∷ t) ss)
    ∙ rw (times_behind d n s ss, ne_eqb d n (ne_of_gt l)) (omega (arith, draw_above d n s ss (omega arith)))

draw_below : (d n : ℕ) (s : List ℕ) (ss : List (List ℕ)) → d < n → times (d ∷ s) (with_each n ss) ≡ times s ss
draw_below d zero s ss l = absurd (not-suc-le-zero l)
draw_below d (suc n) s ss l =
    sum_append (λ t. cond (same (d ∷ s) t) 1 0) (with_each n ss) (map (λ t. n ∷ t) ss)
    ∙ go (draw_below d n s ss) (eq-or-lt_of_le (le_of_suc-le-suc l))
  where
    go : (d < n → times (d ∷ s) (with_each n ss) ≡ times s ss) → (d ≡ n) ⊎ (d < n)
        → times (d ∷ s) (with_each n ss) + times (d ∷ s) (map (λ t. n ∷ t) ss) ≡ times s ss
    go ih (inl e) = rw (times_behind d n s ss, eq-eqb d n e) (omega (arith, draw_above d n s ss (omega arith)))
    go ih (inr h) = rw (times_behind d n s ss, ne_eqb d n (λ e. ne_of_gt h (sym e))) (omega (arith, ih h))

pub draws_once : (N L : ℕ) (s : List ℕ) → Sequence N L s → times s (draws N L) ≡ 1
draws_once N zero [] h = omega arith
draws_once N zero (d ∷ s) h = absurd h
draws_once N (suc L) [] h = absurd h
draws_once N (suc L) (d ∷ s) h = draw_below d N s (draws N L) h.0 ∙ draws_once N L s h.1

-- ---- a sum over the choice sequences of a path

-- F of the cache that each choice sequence makes of c, summed
unfoldable pub total : (Cache → ℕ) → Revision → ℕ → Cache → List ℕ → ℕ
total F v N c p = sum_over (λ ds. F (run v c p ds)) (draws N (length p))

pub total_nil : (F : Cache → ℕ) (v : Revision) (N : ℕ) (c : Cache) → total F v N c [] ≡ F c
unfolding total run
total_nil F v N c = omega arith

-- the first access takes each of the N ways in turn
pub total_cons : (F : Cache → ℕ) (v : Revision) (N : ℕ) (c : Cache) (b : ℕ) (p : List ℕ)
    → total F v N c (b ∷ p) ≡ sum_to N (λ d. total F v N (access v c b d) p)
unfolding total run
total_cons F v N c b p = by_first (λ ds. F (run v c (b ∷ p) ds)) N (draws N (length p))
  where
    by_first : (G : List ℕ → ℕ) (n : ℕ) (ss : List (List ℕ)) → sum_over G (with_each n ss) ≡ sum_to n (λ d. sum_over (λ s. G (d ∷ s)) ss)
    by_first G zero ss = refl
    by_first G (suc n) ss =
        sum_append G (with_each n ss) (map (λ s. n ∷ s) ss) ∙ ap₂ ◌+◌ (by_first G n ss) (sum_map G (λ s. n ∷ s) ss)

-- ---- counts of choice sequences

module _ (v : Revision) (N : ℕ) (c : Cache) (p : List ℕ) where
  -- a test that passes wherever another does counts at least as many
  pub count_le : (P Q : Cache → Bool) → ((ds : List ℕ) → P (run v c p ds) ≡ true → Q (run v c p ds) ≡ true)
      → count_from P v N c p ≤ count_from Q v N c p
  unfolding count_from
  count_le P Q h = go (draws N (length p))
    where
      one : (a b : Bool) → (a ≡ true → b ≡ true) → cond a 1 0 ≤ cond b 1 0
      one false b t = zero-le
      one true b t = rw (t refl) (le_refl 1)

      go : (ss : List (List ℕ)) → sum_over (λ ds. cond (P (run v c p ds)) 1 0) ss ≤ sum_over (λ ds. cond (Q (run v c p ds)) 1 0) ss
      go [] = zero-le
      go (s ∷ ss) = add-le-add (one (P (run v c p s)) (Q (run v c p s)) (h s)) (go ss)

  -- all of them, and no count is more
  pub count_all : count_from (λ k. true) v N c p ≡ N ^ length p
  unfolding count_from
  count_all = omega (arith, sum_each 1 (draws N (length p)), draws_many N (length p))

  pub count_most : (test : Cache → Bool) → count_from test v N c p ≤ N ^ length p
  count_most test = rw (← count_all) (count_le test (λ k. true) (λ ds h. refl))
