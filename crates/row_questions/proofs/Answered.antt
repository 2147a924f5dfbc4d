-- What is answered: 7 for what is no row, and otherwise what is asked.
use Rattle.std.specs.Prelude.{Err, Ok}
use mathlib.Core.Path.{◌≡◌}
use mathlib.Core.Bool.{Bool, true, false, ◌&&◌, and-false}
use mathlib.Core.List.{List}
use Prim.Native.Nat.{ℕ, ◌≤◌, ◌<◌}
use lib.Dec.{leb, eqb}
use lib.ListN.{length}
use borrow.Author.Tests.{eqb-true, le-leb, lt-leb}
use Rattle.basics.specs.Sums.{sum_over}
use Rattle.basics.proofs.Bools.{and_right}
use Rattle.rules.specs.declared.Refusal.TheVariants.{Row}
use Rattle.rules.specs.Units.{whole, units}
use Rattle.rules.specs.Questions.{largest, above, smallest_budget}
use Rattle.row_questions.specs.Row.{states_of, is_row, row_above, row_budget, row_spread}

module _ (row : List ℕ) where
  -- ---- whether it is a row

  pub no_cells : length row < 1 → false ≡ is_row row
  unfolding is_row
  no_cells h = rw (lt-leb 1 (length row) h)

  pub many_cells : 4097 < length row → false ≡ is_row row
  unfolding is_row
  many_cells h = rw (lt-leb (length row) 4097 h, and-false (leb 1 (length row)))

  pub some_cells : 1 ≤ length row → length row ≤ 4097 → (r : Bool) → r ≡ eqb (sum_over (λ n. n) row) whole → r ≡ is_row row
  unfolding is_row
  some_cells h l r e = rw (le-leb 1 (length row) h, le-leb (length row) 4097 l) e

  -- ---- the answers

  module _ (h : is_row row ≡ true) where
    pub row_total : sum_over (λ n. n) row ≡ whole
    unfolding is_row
    row_total = eqb-true _ _ (and_right (leb 1 (length row) && leb (length row) 4097) (eqb (sum_over (λ n. n) row) whole) h)

    pub above_answered : (B u : ℕ) → u ≡ above B (states_of row) → Ok (units u) ≡ row_above row B
    unfolding row_above
    above_answered B u e = rw (h, e)

    pub budget_answered : (u B : ℕ) → B ≡ smallest_budget u (states_of row) → Ok B ≡ row_budget row u
    unfolding row_budget
    budget_answered u B e = rw (h, e)

    pub spread_answered : (m : ℕ) → m ≡ largest (states_of row) → Ok m ≡ row_spread row
    unfolding row_spread
    spread_answered m e = rw (h, e)

  module _ (h : is_row row ≡ false) where
    pub above_refused : (B : ℕ) → Err Row ≡ row_above row B
    unfolding row_above
    above_refused B = rw h

    pub budget_refused : (u : ℕ) → Err Row ≡ row_budget row u
    unfolding row_budget
    budget_refused u = rw h

    pub spread_refused : Err Row ≡ row_spread row
    unfolding row_spread
    spread_refused = rw h
