-- Bytes from the front: weighed, and looked at whether all are zero.
use mathlib.Core.Path.{◌≡◌, refl, ap}
use mathlib.Core.Bool.{◌&&◌}
use mathlib.Core.List.{List, [], ◌∷◌}
use Prim.Native.Nat.{ℕ, ◌+◌, ◌*◌, ◌≤◌, ◌<◌}
use native.Mathlib.Numerals.{add-one}
use native.Mathlib.Omega.{arith}
use lib.Dec.{eqb}
use lib.ListN.{length, get_or, drop}
use Rattle.std.specs.List.{list_all}
use Rattle.basics.proofs.Lists.{list_next, list_end}
use Rattle.trace_blocks.specs.Blocks.{weighed, all_zero}

-- ---- weighed: `sum` is that of the bytes before place i

module _ (bytes : List ℕ) (i sum w : ℕ) (rest : sum + weighed (i + 1) (drop i bytes) ≡ w) where
  pub weighed_next : i < length bytes → (y : ℕ) → y ≡ (i + 1) * get_or bytes i 0 → sum + y + weighed (i + 1 + 1) (drop (i + 1) bytes) ≡ w
  unfolding weighed
  weighed_next h y e =
      let next = list_next (λ bs. sum + weighed (i + 1) bs) bytes i w rest 0 h in
      rw (e, add-one (i + 1)) (omega (arith, next))

  pub weighed_end : length bytes ≤ i → sum ≡ w
  unfolding weighed
  weighed_end h = omega (arith, list_end (λ bs. sum + weighed (i + 1) bs) bytes i w rest h)

-- ---- all zero

pub all_zero_lem : (bytes : List ℕ) → list_all (λ x. eqb x 0) bytes ≡ all_zero bytes
unfolding all_zero
all_zero_lem [] = refl
all_zero_lem (x ∷ xs) = ap (λ t. eqb x 0 && t) (all_zero_lem xs)
