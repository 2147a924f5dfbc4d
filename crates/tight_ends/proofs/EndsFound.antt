-- The ends of rows, as they are looked for: column by column from the highest down, and from the lowest up. What the loops keep is what it will be, but for where they stop.
use mathlib.Core.Path.{◌≡◌}
use mathlib.Core.Logic.{◌⊎◌}
use mathlib.Core.List.{List}
use Prim.Native.Nat.{ℕ, suc, ◌+◌, ◌≤◌, ◌<◌}
use native.Mathlib.Nat.{le_trans}
use native.Mathlib.Omega.{arith}
use Rattle.basics.proofs.Sums.{sum_to}
use Rattle.tight_rules.specs.Ends.{allowance}
use Rattle.tight_rows.specs.Room.{words_of}
use Rattle.tight_ends.specs.Stage.{groups_of}
use Rattle.tight_ends.specs.Settling.{both}
use Rattle.tight_ends.specs.Ending.{Staging}
use Rattle.tight_rows.proofs.Adding.{sum_part}

-- ---- the units of a column

pub staging_part : (W e m n : ℕ) (ws : List ℕ) → m ≤ n → Staging W e n ws → Staging W e m ws
staging_part W e m n ws l s =
    record { narrow = omega (arith, s.narrow); inside = s.inside; most = le_trans (sum_part m n (both (groups_of W e (words_of ws))) l) s.most }

-- ---- from the highest down

module _ (t : ℕ → ℕ) (n : ℕ) where
  -- the columns from `top` on have `gone` units, which may leave
  pub record Topping (top gone : ℕ) : Type 0 where
    pub some : 1 ≤ top
    pub within : top ≤ n
    pub leaving : sum_to n t ≡ sum_to top t + gone
    pub light : gone ≤ allowance

-- ---- from the lowest up

module _ (t : ℕ → ℕ) (W top : ℕ) where
  -- the columns below `bot` have `low` units, and must rise
  pub record Bottoming (bot low : ℕ) : Type 0 where
    pub within : bot < top
    pub rising : low ≡ sum_to bot t
    pub needed : (bot ≡ 0) ⊎ (low ≤ allowance) ⊎ (bot + W ≤ suc top)
