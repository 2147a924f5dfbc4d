-- What makes the states in some words a table of the best case: the numbers of one state, and that what any kind of table is asked is what this one is.
use mathlib.Core.Path.{◌≡◌, refl, ap}
use mathlib.Core.Bool.{Bool, true, false, ◌&&◌, ◌||◌}
use mathlib.Core.List.{List, [], ◌∷◌}
use Prim.Native.Nat.{◌≤◌, ◌<◌}
use borrow.Author.Tests.{le-leb, lt-leb}
use lib.Dec.{eqb, leb}
use Rattle.rules.specs.declared.BestState.{BestState}
use Rattle.rules.specs.Best.{misses_of, hits_of, units_of, listing}
use Rattle.rules.specs.BestQuestions.{best_fitting, all_best_fitting, is_best_table}
use Rattle.any_table.specs.Accepted.{all_fitting, is_table_of}

-- ---- one state

module _ (s : BestState) where
  -- what a table may have of its mask
  abbrev mask_fits : Bool
  mask_fits = leb s.mask 65535 && (s.exact || eqb s.mask 0)

  pub mask_large : 65535 < s.mask → false ≡ mask_fits
  mask_large h = rw (lt-leb s.mask 65535 h)

  module _ (small : s.mask ≤ 65535) where
    pub mask_exact : s.exact ≡ true → true ≡ mask_fits
    mask_exact e = rw (le-leb s.mask 65535 small, e)

    pub mask_open : s.exact ≡ false → eqb s.mask 0 ≡ mask_fits
    mask_open e = rw (le-leb s.mask 65535 small, e)

  module _ (r : Bool) (mask : r ≡ mask_fits) where
    pub mask_unfit : r ≡ false → false ≡ best_fitting s
    mask_unfit h = rw (← mask, h)

    module _ (fits : r ≡ true) where
      pub misses_many : 4096 < misses_of s → false ≡ best_fitting s
      misses_many h = rw (← mask, fits, lt-leb (misses_of s) 4096 h)

      module _ (few : misses_of s ≤ 4096) where
        pub hits_many : 4096 < hits_of s → false ≡ best_fitting s
        hits_many h = rw (← mask, fits, le-leb (misses_of s) 4096 few, lt-leb (hits_of s) 4096 h)

        pub by_units : hits_of s ≤ 4096 → leb 1 (units_of s) ≡ best_fitting s
        by_units h = rw (← mask, fits, le-leb (misses_of s) 4096 few, le-leb (hits_of s) 4096 h)

-- ---- a table

each_fits : (T : List BestState) → all_fitting best_fitting T ≡ all_best_fitting T
each_fits [] = refl
each_fits (s ∷ T) = ap (best_fitting s &&◌) (each_fits T)

pub same_table : (T : List BestState) → is_table_of listing best_fitting T ≡ is_best_table T
unfolding is_table_of is_best_table
same_table T = rw (each_fits T)
