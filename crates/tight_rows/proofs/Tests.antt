-- Tests of places say what they are to say, without sums that could grow beyond a word; and what a function does that tests.
use Rattle.std.proofs.Common.{◌≡◌, ℕ, ◌+◌, ◌-◌, ◌*◌, ◌/◌, ◌≤◌, leb, le-div_iff_mul-le, arith, le-leb, leb-true}
use Rattle.basics.proofs.Bools.{same_test}
use Rattle.tight_rows.specs.Room.{Where, slot_words}

-- two tests of which each says the other
pub alike : (a b c d : ℕ) → (a ≤ b → c ≤ d) → (c ≤ d → a ≤ b) → leb a b ≡ leb c d
alike a b c d f g = same_test (leb a b) (leb c d) (λ e. le-leb c d (f (leb-true a b e))) (λ e. le-leb a b (g (leb-true c d e)))

-- a slot of K contents and W cells to a row, from place a on
pub slot_there : (K W a end : ℕ) → a ≤ end → leb (K + 2) ((end - a) / (W + 2)) ≡ leb (a + slot_words K W) end
slot_there K W a end l =
    alike (K + 2) ((end - a) / (W + 2)) (a + slot_words K W) end
    (λ h. let k : (K + 2) * (W + 2) ≤ end - a = (le-div_iff_mul-le {k = W + 2} {x = K + 2} {y = end - a} (omega arith)).0 h in omega arith)
    (λ h. (le-div_iff_mul-le {k = W + 2} {x = K + 2} {y = end - a} (omega arith)).1 (omega arith))

-- ---- what was tested

module _ (P Q R : Type 0) where
  -- it holds
  pub where_does : P → Q → Where P Q R
  where_does p q = record { does = λ h. q; not = λ n. absurd (n p) }

  -- it does not
  pub where_not : (P → ⊥) → R → Where P Q R
  where_not n r = record { does = λ p. absurd (n p); not = λ h. r }
