-- What stands at the front of a room and where it ends, and the place of a damaged block put behind it.
use mathlib.Core.Path.{◌≡◌, sym, ap, ◌∙◌}
use mathlib.Core.Bool.{Bool, true, false, cond}
use mathlib.Core.List.{List, [], ◌∷◌, ◌++◌, append-nil}
use Prim.Native.Nat.{ℕ, ◌+◌, ◌≤◌, ◌<◌}
use native.Mathlib.Numerals.{add-one}
use native.Mathlib.Omega.{arith}
use lib.ListN.{length, set, take, length-set, length-append}
use lib.Seq.{length-take-le, take-suc-set}
use Rattle.trace_blocks.specs.Blocks.{is_sound}
use Rattle.recorder.specs.Traces.{damage_at}
use Rattle.recorder.specs.Fronts.{Front}

pub front_ends : (xs room : List ℕ) (r : ℕ) → Front xs r room → r ≡ length xs
front_ends xs room r f = sym (length-take-le r room f.within) ∙ ap length f.stands

-- ---- the place of a block, if it is damaged

module _ (k : ℕ) (b places : List ℕ) (count : ℕ) (room : count < length places) where
  pub not_noted : is_sound k b ≡ true → Front (take count places ++ damage_at k b) count places
  not_noted h = record { within = omega arith; stands = rw (h, append-nil (take count places)) }

  pub noted : is_sound k b ≡ false → Front (take count places ++ damage_at k b) (count + 1) (set places count k)
  noted h = record {
    within = omega (arith, length-set places count k);
    stands = rw (h, add-one count) (take-suc-set places count k room);
  }

-- one place at most
pub damage_most : (k : ℕ) (b : List ℕ) → length (damage_at k b) ≤ 1
damage_most k b = go (is_sound k b)
  where
    go : (t : Bool) → length (cond t [] (k ∷ [])) ≤ 1
    go true = omega arith
    go false = omega arith

-- no more places than blocks that were looked at
pub noted_most : (k : ℕ) (b places places' : List ℕ) (count r : ℕ) → Front (take count places ++ damage_at k b) r places' → count ≤ k → count ≤ length places → r ≤ k + 1
noted_most k b places places' count r f few h =
    omega (arith, front_ends (take count places ++ damage_at k b) places' r f, length-append (take count places) (damage_at k b), length-take-le count places h, damage_most k b)
