-- The two states that are found, by what the search came to: the partner of s, which stands at place i, in each of three cases.
use mathlib.Core.Path.{◌≡◌, sym, ◌∙◌}
use mathlib.Core.Bool.{Bool, true, false}
use mathlib.Core.List.{List}
use Prim.Native.Nat.{ℕ, ◌≤◌, ◌<◌}
use lib.ListN.{take}
use borrow.Author.Tests.{lt-ltb, le-ltb}
use Rattle.rules.specs.declared.State.{State}
use Rattle.rules.specs.Contents.{size}
use Rattle.rules.specs.Ordered.{best}
use Rattle.rules.specs.Table.{state_at}
use Rattle.rules.specs.Fold.{fewer}
use Rattle.searches.specs.Searches.{leads, first_alike, nearest, nearest_of_all, partner_of, chosen}

module _ (n : ℕ) (T : List State) (s : State) (i : ℕ) (is : s ≡ state_at T i) (least : best fewer (take n T) ≡ i) where
  both : (p : ℕ) → p ≡ partner_of n T s i → record { fewest = i; partner = p } ≡ chosen n T
  unfolding chosen
  both p e = rw (least, ← is, e)

  -- r says whether it stands before all that are alike
  module _ (r : Bool) (said : r ≡ leads s T i) where
    -- it does not
    pub chosen_of_all : (p b : ℕ) → r ≡ false → b ≡ size s.mask → p ≡ nearest_of_all n T s i b → record { fewest = i; partner = p } ≡ chosen n T
    unfolding partner_of
    chosen_of_all p b h e d = both p (d ∙ rw (sym said ∙ h, e))

    module _ (h : r ≡ true) (j : ℕ) (alike : j ≡ first_alike n T s i) where
      -- one alike stands at place j
      pub chosen_alike : j < n → record { fewest = i; partner = j } ≡ chosen n T
      unfolding partner_of
      chosen_alike l = both j (rw (sym said ∙ h, ← alike, lt-ltb j n l))

      -- none does
      pub chosen_nearest : n ≤ j → (p : ℕ) → p ≡ nearest n T s i → record { fewest = i; partner = p } ≡ chosen n T
      unfolding partner_of
      chosen_nearest l p d = both p (d ∙ rw (sym said ∙ h, ← alike, le-ltb j n l))
