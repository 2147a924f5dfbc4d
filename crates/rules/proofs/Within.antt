-- The quick question says of a spread what the others say of its table: the numbers at places above a budget are the units above it, since up
-- to it the spread and these make the total, as the whole spread does. So it says yes at the smallest budget, and at none below.
use mathlib.Core.Path.{◌≡◌, sym, ap, ◌∙◌}
use mathlib.Core.Bool.{true, false}
use mathlib.Core.List.{List, [], ◌∷◌, ◌++◌}
use Prim.Native.Nat.{ℕ, zero, suc, ◌+◌, ◌-◌, ◌≤◌, ◌<◌}
use native.Mathlib.Omega.{arith}
use lib.Dec.{leb}
use lib.ListN.{length, take, drop, replicate, take-append-drop, drop_of_length-le}
use lib.Seq.{take_all, drop-nil}
use borrow.Author.Tests.{le-leb, lt-leb, le-ltb}
use Rattle.basics.specs.Sums.{sum_over}
use Rattle.basics.proofs.Sums.{sum_append}
use Rattle.rules.specs.Table.{State, total}
use Rattle.rules.specs.Counts.{spread as spread_of}
use Rattle.rules.specs.Questions.{is_table, largest, spread, above, smallest_budget, spread_answer}
use Rattle.rules.specs.Within.{sum_above, is_within}
use Rattle.rules.proofs.Questions.{above_largest, length_counts, spread_above, smallest_serves, none_smaller}

-- a budget at or beyond the row's end
pub beyond_yes : (row : List ℕ) (B u : ℕ) → length row ≤ suc B → is_within row B u ≡ true
unfolding is_within sum_above
beyond_yes row B u l = rw (drop_of_length-le row l) (le-leb 0 u (omega arith))

-- ---- of a spread

-- its numbers make the total
spread_total : (T : List State) → sum_over (λ n. n) (spread T) ≡ total T
unfolding spread_of
spread_total T =
    let all = take_all (suc (largest T)) (spread T) (omega (arith, length_counts (suc (largest T)) T)) in
    rw (← all) (omega (arith, spread_above (largest T) T, above_largest (largest T) T (omega arith)))

pub sum_is_above : (B : ℕ) (T : List State) → sum_above B (spread T) ≡ above B T
unfolding sum_above
sum_is_above B T =
    omega (
      arith,
      spread_above B T,
      spread_total T,
      sum_append (λ n. n) (take (suc B) (spread T)) (drop (suc B) (spread T)),
      ap (sum_over (λ n. n)) (take-append-drop (suc B) (spread T)),
    )

-- zeros behind it change nothing
zeros_none : (n k : ℕ) → sum_over (λ n. n) (drop n (replicate k 0)) ≡ 0
zeros_none n zero = ap (sum_over (λ n. n)) (drop-nil n)
zeros_none zero (suc k) = omega (arith, zeros_none zero k)
zeros_none (suc n) (suc k) = zeros_none n k

drop_zeros : (n : ℕ) (xs : List ℕ) (k : ℕ) → sum_over (λ n. n) (drop n (xs ++ replicate k 0)) ≡ sum_over (λ n. n) (drop n xs)
drop_zeros n [] k = zeros_none n k ∙ sym (ap (sum_over (λ n. n)) (drop-nil n))
drop_zeros zero (x ∷ xs) k = ap (x +◌) (drop_zeros zero xs k)
drop_zeros (suc n) (x ∷ xs) k = drop_zeros n xs k

module _ (T : List State) (B u : ℕ) where
  -- it says whether the units above the budget are at most the allowance,
  pub says_above : is_within (spread T) B u ≡ leb (above B T) u
  unfolding is_within
  says_above = rw (sum_is_above B T)

  -- of the room that the spread was asked for too
  pub room_says_above : is_table T ≡ true → (room : List ℕ) → largest T < length room → is_within (spread_answer T room).room B u ≡ leb (above B T) u
  unfolding is_within sum_above spread_answer
  room_says_above h room l =
      rw (h, le-ltb (length room) (suc (largest T)) l) (ap (λ n. leb n u) (drop_zeros (suc B) (spread T) (length room - suc (largest T)) ∙ sum_is_above B T))

-- the smallest budget is the least for which it says yes
pub smallest_yes : (T : List State) (u : ℕ) → is_within (spread T) (smallest_budget u T) u ≡ true
smallest_yes T u = says_above T (smallest_budget u T) u ∙ le-leb _ u (smallest_serves u T)

pub below_no : (T : List State) (B u : ℕ) → B < smallest_budget u T → is_within (spread T) B u ≡ false
below_no T B u l = says_above T B u ∙ lt-leb _ u (none_smaller u T B l)
