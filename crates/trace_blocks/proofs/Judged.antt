-- A block judged, test by test: each early return is one test of the definition that fails.
use mathlib.Core.Path.{◌≡◌}
use mathlib.Core.Logic.{◌≢◌}
use mathlib.Core.Bool.{true, false}
use mathlib.Core.List.{List}
use Prim.Native.Nat.{ℕ, ◌≤◌, ◌<◌}
use borrow.Author.Tests.{eq-eqb, ne_eqb, le-leb, lt-leb}
use lib.Dec.{eqb}
use lib.ListN.{take}
use Rattle.trace_blocks.specs.Blocks.{number_in, count_in, unused_in, check_in, check_of, all_zero, is_sound}

module _ (k : ℕ) (b : List ℕ) where
  pub other_number : number_in b ≢ k → false ≡ is_sound k b
  unfolding is_sound
  other_number h = rw (ne_eqb (number_in b) k h)

  module _ (number : number_in b ≡ k) where
    pub too_many : 125 < count_in b → false ≡ is_sound k b
    unfolding is_sound
    too_many h = rw (eq-eqb (number_in b) k number, lt-leb (count_in b) 125 h)

    module _ (few : count_in b ≤ 125) where
      pub not_zero : all_zero (unused_in b) ≡ false → false ≡ is_sound k b
      unfolding is_sound
      not_zero h = rw (eq-eqb (number_in b) k number, le-leb (count_in b) 125 few, h)

      pub by_check : all_zero (unused_in b) ≡ true → eqb (check_in b) (check_of (take 510 b)) ≡ is_sound k b
      unfolding is_sound
      by_check h = rw (eq-eqb (number_in b) k number, le-leb (count_in b) 125 few, h)
