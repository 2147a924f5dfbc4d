-- When two states stand in the same place: where all their numbers are equal. Then nothing of the one is changed in becoming the other.
use Rattle.std.proofs.Common.{◌≡◌, Bool, true, false, ◌&&◌, eqb, sym, ◌∙◌, eq-eqb, ne_eqb}
use Rattle.rules.specs.declared.State.{State}
use Rattle.rules.specs.Ordered.{by_number, by_two}
use Rattle.rules.specs.Filling.{same_filled}
use Rattle.rules.specs.Fold.{changed}
use Rattle.rules.specs.Table.{order, units_of}
use Rattle.tables.specs.Placing.{is_same}
use Rattle.tables.proofs.Insertion.{same_then, same_number}

module _ (s t : State) where
  -- two states stand in the same place where all their numbers are equal
  pub same_tests : is_same (order s t) ≡ (eqb s.mask t.mask && eqb s.misses t.misses && same_filled s.filled t.filled)
  unfolding order
  same_tests =
      rw (
        same_then _ (by_two (λ s. s.filled.front) (λ s. s.filled.back) s t),
        same_then (by_number s.mask t.mask) (by_number s.misses t.misses),
        same_then (by_number s.filled.front t.filled.front) (by_number s.filled.back t.filled.back),
        same_number s.mask t.mask,
        same_number s.misses t.misses,
        same_number s.filled.front t.filled.front,
        same_number s.filled.back t.filled.back,
      )

  pub mask_apart : (s.mask ≡ t.mask → ⊥) → false ≡ is_same (order s t)
  mask_apart n = rw (same_tests, ne_eqb s.mask t.mask n)

  module _ (mask : s.mask ≡ t.mask) where
    pub misses_apart : (s.misses ≡ t.misses → ⊥) → false ≡ is_same (order s t)
    misses_apart n = rw (same_tests, eq-eqb s.mask t.mask mask, ne_eqb s.misses t.misses n)

    pub filled_same : s.misses ≡ t.misses → (r : Bool) → r ≡ same_filled s.filled t.filled → r ≡ is_same (order s t)
    filled_same e r h = rw (same_tests, eq-eqb s.mask t.mask mask, eq-eqb s.misses t.misses e) h

-- ---- what is set aside

module _ (s m : State) (r : Bool) (same : r ≡ is_same (order s m)) where
  pub changed_none : r ≡ true → 0 ≡ changed s m
  changed_none h = rw (sym (same_tests s m) ∙ sym same ∙ h)

  pub changed_all : r ≡ false → units_of s ≡ changed s m
  changed_all h = rw (sym (same_tests s m) ∙ sym same ∙ h)
