-- A row added from its top end downwards: what the loop of `within` computes. What is left of the allowance and the numbers taken so far are the
-- allowance. A number that is more than what is left passes it, whatever stands below, since a sum only grows; where none is, the whole sum is
-- within it.
use mathlib.Core.Path.{◌≡◌, sym, ap}
use mathlib.Core.Bool.{true, false}
use mathlib.Core.List.{List}
use Prim.Native.Nat.{ℕ, suc, ◌+◌, ◌-◌, ◌≤◌, ◌<◌}
use native.Mathlib.Omega.{arith}
use lib.ListN.{length, get_or, take, drop, take-append-drop}
use lib.Seq.{drop-cons, drop-drop}
use borrow.Author.Tests.{le-leb, lt-leb}
use Rattle.basics.specs.Sums.{sum_over}
use Rattle.basics.proofs.Sums.{sum_append}
use Rattle.rules.specs.Within.{sum_above, is_within}

-- the sum of the numbers from place n on
abbrev pub sum_from : ℕ → List ℕ → ℕ
sum_from n row = sum_over (λ n. n) (drop n row)

from_next : (n : ℕ) (row : List ℕ) → n < length row → sum_from n row ≡ get_or row n 0 + sum_from (suc n) row
from_next n row l = ap (sum_over (λ n. n)) (drop-cons row n 0 l)

-- it falls as fewer are left
from_falls : (k n : ℕ) (row : List ℕ) → sum_from (n + k) row ≤ sum_from n row
from_falls k n row =
    omega (
      arith,
      ap (sum_over (λ n. n)) (drop-drop k n row),
      sum_append (λ n. n) (take k (drop n row)) (drop k (drop n row)),
      ap (sum_over (λ n. n)) (take-append-drop k (drop n row)),
    )

module _ (row : List ℕ) (u : ℕ) where
  -- what is left, where the numbers from place n on are taken
  abbrev pub Left : ℕ → ℕ → Type 0
  Left n left = left + sum_from n row ≡ u

  module _ (end left : ℕ) (h : Left end left) where
    -- all above the budget are taken
    pub none_passed : (B : ℕ) → end ≡ suc B → true ≡ is_within row B u
    unfolding is_within sum_above
    none_passed B e = sym (le-leb (sum_from (suc B) row) u (omega (arith, ap (λ (n : ℕ). sum_from n row) e)))

    module _ (l : end ≤ length row) where
      -- the sum with one more
      with_next_lem : 0 < end → sum_from (end - 1) row ≡ get_or row (end - 1) 0 + sum_from end row
      with_next_lem p =
          let e : suc (end - 1) ≡ end = omega arith in
          omega (arith, from_next (end - 1) row (omega arith), ap (λ (n : ℕ). sum_from n row) e)

      pub passed : (B : ℕ) → suc B < end → left < get_or row (end - 1) 0 → false ≡ is_within row B u
      unfolding is_within sum_above
      passed B p f =
          let d : suc B + (end - 1 - suc B) ≡ end - 1 = omega arith in
          sym (lt-leb (sum_from (suc B) row) u (omega (
            arith,
            with_next_lem (omega arith),
            from_falls (end - 1 - suc B) (suc B) row,
            ap (λ (n : ℕ). sum_from n row) d,
          )))
