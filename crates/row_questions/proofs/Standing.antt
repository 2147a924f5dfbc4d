-- A row and the states that it stands for: what the loops over its cells compute is what is asked of those states.
use mathlib.Core.Path.{◌≡◌, refl, sym, ap, ◌∙◌}
use mathlib.Core.Bool.{Bool, true, false, cond}
use mathlib.Core.List.{List, [], ◌∷◌}
use Prim.Native.Nat.{ℕ, zero, suc, ◌+◌, ◌-◌, ◌≤◌, ◌<◌, max}
use native.Mathlib.Nat.{le_refl, max-zero}
use native.Mathlib.Numerals.{add-one}
use native.Mathlib.Omega.{arith}
use borrow.Author.Tests.{eq-eqb, ne_eqb, eqb-true, eqb-false, ltb-true, ltb-false}
use lib.Dec.{eqb, leb, ltb}
use lib.ListN.{length, get_or, take, drop, length-drop, drop_of_length-le}
use lib.Seq.{take_all, drop-cons, drop-length}
use Rattle.std.specs.Prelude.{sum as sum_of}
use Rattle.std.proofs.lemmas.List.Sums.{sum_by-cons}
use Rattle.basics.specs.Sums.{sum_over}
use Rattle.rules.specs.declared.State.{State}
use Rattle.rules.specs.Units.{whole}
use Rattle.rules.specs.AnyTable.{total as total_of}
use Rattle.rules.specs.Counts.{above as above_of, largest as largest_of}
use Rattle.rules.specs.Table.{total}
use Rattle.rules.specs.Questions.{largest, above, smallest_budget}
use Rattle.rules.specs.Within.{sum_above, is_within}
use Rattle.rules.proofs.Questions.{above_falls, smallest_is}
use Rattle.row_questions.specs.Row.{states_from, states_of}

-- all units of a row
abbrev pub sum : List ℕ → ℕ
sum row = sum_over (λ n. n) row

-- ---- the units above a budget

-- the first cell's, and those of the others
above_cell : (B m u : ℕ) (us : List ℕ) → above B (states_from m (u ∷ us)) ≡ cond (ltb B m) u 0 + above B (states_from (suc m) us)
unfolding states_from above_of
above_cell B m u us = go (eqb u 0) refl
  where
    none : (b : Bool) (n : ℕ) → n ≡ 0 → cond b n 0 ≡ 0
    none true n e = e
    none false n e = refl

    go : (b : Bool) → eqb u 0 ≡ b
        → above B (cond b (states_from (suc m) us) (record { mask = 0; misses = m; filled = record { front = 0; back = 0 }; units = record { 0 = u } } ∷ states_from (suc m) us))
        ≡ cond (ltb B m) u 0 + above B (states_from (suc m) us)
    go true e = omega (arith, none (ltb B m) u (eqb-true u 0 e))
    go false e = refl

-- those of the cells behind that of the budget
above_from : (B m : ℕ) (us : List ℕ) → above B (states_from m us) ≡ sum (drop (suc B - m) us)
unfolding above_of states_from
above_from B m [] = sym (ap (sum_over (λ n. n)) (drop_of_length-le [] {i = suc B - m} (omega arith)))
above_from B m (u ∷ us) = above_cell B m u us ∙ go (ltb B m) refl (above_from B (suc m) us)
  where
    go : (b : Bool) → ltb B m ≡ b → above B (states_from (suc m) us) ≡ sum (drop (suc B - suc m) us) → cond b u 0 + above B (states_from (suc m) us) ≡ sum (drop (suc B - m) (u ∷ us))
    go true e h =
        let none : suc B - m ≡ 0 = omega (arith, ltb-true B m e) in
        let none' : suc B - suc m ≡ 0 = omega (arith, ltb-true B m e) in
        rw none (omega (arith, rw none' at h))
    go false e h =
        let some : suc B - m ≡ suc (suc B - suc m) = omega (arith, ltb-false B m e) in
        rw some (omega (arith, h))

pub above_row : (B : ℕ) (row : List ℕ) → above B (states_of row) ≡ sum (drop (suc B) row)
above_row B row = let all : suc B - 0 ≡ suc B = omega arith in rw all at (above_from B 0 row)

-- so the quick question, which takes the row as it is, is asked of its states
pub quick_says : (row : List ℕ) (B u : ℕ) → is_within row B u ≡ leb (above B (states_of row)) u
unfolding is_within sum_above
quick_says row B u = rw (above_row B row) refl

-- ---- through the cells

-- a part of the row from place i on
sum_next : (row : List ℕ) (i : ℕ) → i < length row → sum (drop i row) ≡ get_or row i 0 + sum (drop (suc i) row)
sum_next row i h = ap (sum_over (λ n. n)) (drop-cons row i 0 h)

pub sum_most : (row : List ℕ) (n : ℕ) → sum (drop n row) ≤ sum row
sum_most row zero = le_refl (sum row)
sum_most [] (suc n) = le_refl 0
sum_most (u ∷ us) (suc n) = omega (arith, sum_most us n)

module _ (row : List ℕ) (i : ℕ) where
  -- WHOLE and the units that are left are what is left of WHOLE and all units
  module _ (left : ℕ) (rest : whole + sum (drop i row) ≡ left + sum row) where
    pub whole_passed : i < length row → left < get_or row i 0 → false ≡ eqb (sum row) whole
    whole_passed h l = sym (ne_eqb (sum row) whole (λ e. omega (arith, rest, sum_next row i h)))

    pub whole_next : i < length row → get_or row i 0 ≤ left → whole + sum (drop (suc i) row) ≡ left - get_or row i 0 + sum row
    whole_next h l = omega (arith, rest, sum_next row i h)

    pub whole_end : length row ≤ i → left ≤ whole → eqb left 0 ≡ eqb (sum row) whole
    whole_end h l = go (eqb left 0) refl
      where
        all : whole ≡ left + sum row
        all = omega (arith, rest, ap (sum_over (λ n. n)) (drop_of_length-le row {i = i} h))

        go : (b : Bool) → eqb left 0 ≡ b → b ≡ eqb (sum row) whole
        go true e = sym (eq-eqb (sum row) whole (omega (arith, all, eqb-true left 0 e)))
        go false e = sym (ne_eqb (sum row) whole (λ z. eqb-false left 0 e (omega (arith, all))))

  -- the larger of the last cell found and of the largest that is left is the largest
  pub last_next : (last l w : ℕ) → max last (largest (states_from i (drop i row))) ≡ w → i < length row → last ≤ i → l ≡ cond (eqb (get_or row i 0) 0) last i
      → (l ≤ suc i) × (max l (largest (states_from (suc i) (drop (suc i) row))) ≡ w)
  unfolding states_from largest_of
  last_next last l w rest h m e = rw e (go (eqb (get_or row i 0) 0) (rw (drop-cons row i 0 h) at rest))
    where
      T : List State
      T = states_from (suc i) (drop (suc i) row)

      go : (b : Bool) → max last (largest (cond b T (record { mask = 0; misses = i; filled = record { front = 0; back = 0 }; units = record { 0 = get_or row i 0 } } ∷ T))) ≡ w
          → (cond b last i ≤ suc i) × (max (cond b last i) (largest T) ≡ w)
      go true r = (omega arith, r)
      go false r = (omega arith, omega (arith, r))

  pub last_end : (last w : ℕ) → max last (largest (states_from i (drop i row))) ≡ w → length row ≤ i → last ≡ w
  unfolding states_from largest_of
  last_end last w rest h = sym (max-zero last) ∙ (rw (drop_of_length-le row {i = i} h) at rest)

-- the cells behind the budget's, as they are lent
module _ (row : List ℕ) where
  sum_same : (us : List ℕ) → sum_of us ≡ sum us
  sum_same [] = refl
  sum_same (u ∷ us) = sum_by-cons (λ n. n) u us ∙ ap (λ n. u + n) (sum_same us)

  lent : (n : ℕ) → sum_of (take (length row - n) (drop n row)) ≡ sum (drop n row)
  lent n = rw (take_all (length row - n) (drop n row) (omega (arith, length-drop n row))) (sum_same (drop n row))

  pub lent_few : (B : ℕ) → sum_of (take (length row - (B + 1)) (drop (B + 1) row)) ≤ sum row
  lent_few B = rw (lent (B + 1)) (sum_most row (B + 1))

  pub lent_above : (B : ℕ) → sum_of (take (length row - (B + 1)) (drop (B + 1) row)) ≡ above B (states_of row)
  lent_above B = rw (add-one B) (lent (suc B) ∙ sym (above_row B row))

pub none_above : (row : List ℕ) (B : ℕ) → length row ≤ B → 0 ≡ above B (states_of row)
none_above row B h = sym (above_row B row ∙ ap (sum_over (λ n. n)) (drop_of_length-le row {i = suc B} (omega arith)))

-- ---- the smallest budget, from the top: what is left of the allowance and the units from place n on are the allowance

module _ (row : List ℕ) (u left n : ℕ) (rest : left + sum (drop n row) ≡ u) where
  pub stops_here : 0 < n → n ≤ length row → left < get_or row (n - 1) 0 → n - 1 ≡ smallest_budget u (states_of row)
  stops_here h l p = smallest_is u (states_of row) (n - 1) serves none
    where
      serves : above (n - 1) (states_of row) ≤ u
      serves = let up : suc (n - 1) ≡ n = omega arith in rw (above_row (n - 1) row, up) (omega (arith, rest))

      -- the cell before them passes it
      passed : u < sum (drop (n - 1) row)
      passed = let up : suc (n - 1) ≡ n = omega arith in omega (arith, rest, rw up at (sum_next row (n - 1) (omega arith)))

      none : (A : ℕ) → A < n - 1 → u < above A (states_of row)
      none A a =
          let up : suc (n - 2) ≡ n - 1 = omega arith in
          omega (arith, above_falls A (n - 2) (states_of row) (omega arith), rw up at (above_row (n - 2) row), passed)

  pub stops_at_0 : n ≤ 0 → 0 ≡ smallest_budget u (states_of row)
  stops_at_0 h =
      smallest_is u (states_of row) 0
      (rw (above_row 0 row) (let none : n ≡ 0 = omega arith in omega (arith, rw none at rest, first row))) (λ A a. absurd (omega arith))
    where
      first : (us : List ℕ) → sum (drop 1 us) ≤ sum (drop 0 us)
      first us = sum_most us 1

  pub goes_on_lem : 0 < n → n ≤ length row → get_or row (n - 1) 0 ≤ left → left - get_or row (n - 1) 0 + sum (drop (n - 1) row) ≡ u
  goes_on_lem h l p = let up : suc (n - 1) ≡ n = omega arith in omega (arith, rest, rw up at (sum_next row (n - 1) (omega arith)))

pub none_left : (row : List ℕ) (u : ℕ) → u + sum (drop (length row) row) ≡ u
none_left row u = rw (drop-length row) (omega arith)

-- ---- all units

pub total_row : (m : ℕ) (us : List ℕ) → total (states_from m us) ≡ sum us
unfolding states_from total_of
total_row m [] = refl
total_row m (u ∷ us) = go (eqb u 0) refl (total_row (suc m) us)
  where
    go : (b : Bool) → eqb u 0 ≡ b → total (states_from (suc m) us) ≡ sum us
        → total (cond b (states_from (suc m) us) (record { mask = 0; misses = m; filled = record { front = 0; back = 0 }; units = record { 0 = u } } ∷ states_from (suc m) us)) ≡ u + sum us
    go true e r = omega (arith, r, eqb-true u 0 e)
    go false e r = omega (arith, r)
