-- A state's partner: when one is better than another, and that two tests are one.
use mathlib.Core.Path.{◌≡◌, sym, ap, ap₂, ◌∙◌}
use mathlib.Core.Bool.{true, false, ◌&&◌, ◌||◌}
use Prim.Native.Nat.{ℕ, ◌≤◌, ◌<◌}
use native.Mathlib.Nat.{le_antisymm}
use native.Mathlib.Decide.{ℕ_discrete}
use native.Mathlib.Omega.{arith}
use lib.Bits.{bit_or, bit_xor, and_le_l, and_le_r, or_zero_l, or_add_and, xor_self, xor_add_and}
use lib.Dec.{eqb, ltb}
use borrow.Author.Tests.{le-ltb, eq-eqb, ne_eqb}

-- more blocks are shared than `most`, or as many and it is nearer than `near`
module _ (most shares away near : ℕ) where
  pub closer_by_misses : most ≤ shares → shares ≤ most → ltb away near ≡ (ltb most shares || (eqb most shares && ltb away near))
  closer_by_misses k l = rw (le-ltb most shares l, eq-eqb most shares (le_antisymm k l))

-- two numbers are the same where they differ in no bit, and no bit is set of either of two where none is of both together
same_bits : (a b : ℕ) → bit_xor a b ≡ 0 → a ≡ b
same_bits a b e = omega (arith, e, xor_add_and a b, and_le_l a b, and_le_r a b)

no_bits : (a b : ℕ) → bit_or a b ≡ 0 → (a ≡ 0) × (b ≡ 0)
no_bits a b e = (omega (arith, e, or_add_and a b, and_le_r a b), omega (arith, e, or_add_and a b, and_le_l a b))

-- so that two tests are one
pub one_test : (a b c d : ℕ) → eqb (bit_or (bit_xor a b) (bit_xor c d)) 0 ≡ (eqb a b && eqb c d)
one_test a b c d = go (ℕ_discrete a b) (ℕ_discrete c d)
  where
    differ : ((a ≡ b) × (c ≡ d) → ⊥) → eqb (bit_or (bit_xor a b) (bit_xor c d)) 0 ≡ false
    differ n =
        ne_eqb (bit_or (bit_xor a b) (bit_xor c d)) 0
        (λ e. let z = no_bits (bit_xor a b) (bit_xor c d) e in n (same_bits a b z.0, same_bits c d z.1))

    agree : a ≡ b → c ≡ d → bit_or (bit_xor a b) (bit_xor c d) ≡ 0
    agree p q = ap₂ bit_or (ap (bit_xor a) (sym p) ∙ xor_self a) (ap (bit_xor c) (sym q) ∙ xor_self c) ∙ or_zero_l 0

    go : Dec (a ≡ b) → Dec (c ≡ d) → eqb (bit_or (bit_xor a b) (bit_xor c d)) 0 ≡ (eqb a b && eqb c d)
    go (yes p) (yes q) = eq-eqb (bit_or (bit_xor a b) (bit_xor c d)) 0 (agree p q) ∙ sym (rw (eq-eqb a b p, eq-eqb c d q))
    go (yes p) (no q) = differ (λ h. q h.1) ∙ sym (rw (eq-eqb a b p, ne_eqb c d q))
    go (no p) q = differ (λ h. p h.0) ∙ sym (rw (ne_eqb a b p))
